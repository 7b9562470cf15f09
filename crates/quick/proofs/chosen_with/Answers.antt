-- `quick::chosen_with` meets its contract: the edges listed are the boundary's. Assumes nothing.
use Prim.Native.Nat.{ℕ, ◌*◌, ◌≤◌}
use native.Mathlib.Omega.{arith}
use mathlib.Core.Path.{◌≡◌, ap₂, ◌∙◌}
use mathlib.Core.List.{List}
use lib.ListN.{length, take}
use lib.ListN.{replicate}
use borrow.Author.Rules.{rules}
use Rattle.std.proofs.lemmas.List.{length-replicate}
use Rattle.boundary.specs.Listed.{edges_in}
use Rattle.boundary.specs.ListedLaws.{have_room_lem, listed_boundary, listed_fits}
use Rattle.quick.specs.HalfLaws.{kept_listed}
use Rattle.quick.proofs.chosen_with.Goals as goal

pub search-requires-clause-all_in : goal.search-requires-clause-all_in
search-requires-clause-all_in g c =
    let ns : List ℕ = c.args.numbers.now in
    let room : List ℕ = replicate g.row.ROOM 0 in
    let places : List ℕ = replicate g.row.PLACES 0 in
    let wide : length room ≡ g.row.ROOM = length-replicate {A = ℕ} g.row.ROOM 0 in
    let many : length places ≡ g.row.PLACES = length-replicate {A = ℕ} g.row.PLACES 0 in
    let long : length c.list_edges-count.new.edges ≡ length room = search rules in
    let fits : 4 * c.list_edges-count.result ≤ length c.list_edges-count.new.edges = omega (arith, c.list_edges-count.ensures.value, listed_fits ns room places) in
    record {
      fits = fits;
      all =
          kept_listed c.list_edges-count.new.edges c.list_edges-count.result fits
          ∙ ap₂ (λ (n : ℕ) (ns : List ℕ). edges_in (take (4 * n) ns)) c.list_edges-count.ensures.value c.list_edges-count.ensures.edges_after
          ∙ listed_boundary ns room places (have_room_lem ns room places (omega (arith, c.requires.numbers_in_bounds.0)) (omega (arith, c.requires.numbers_in_bounds.1)));
    }
