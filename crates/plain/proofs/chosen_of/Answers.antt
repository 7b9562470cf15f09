-- `plain::chosen_of` meets its contract: what is listed is the boundary. Assumes nothing.
use Prim.Native.Nat.{◌-◌, ◌*◌}
use mathlib.Core.Path.{◌≡◌, ap, sym, subst, ◌∙◌}
use lib.ListN.{take}
use Rattle.boundary.specs.Listed.{edges_in, boundary_of}
use Rattle.chosen.specs.Chosen.{choose, Over}
use Rattle.unit.specs.FrameLaws.{road_listed}
use Rattle.plain.proofs.chosen_of.Goals as goal

pub chosen-requires : goal.chosen-requires
chosen-requires c =
    let listed : edges_in (take (4 * c.list_edges-count.result - 0) c.list_edges-count.new.edges) ≡ boundary_of c.args.numbers.now = road_listed _ c.list_edges-count.ensures.value c.requires c.list_edges-count.ensures.edges_after in
    subst (Over c.args.r) (sym listed) c.requires.over

pub returns : goal.returns
returns c =
    let listed : edges_in (take (4 * c.list_edges-count.result - 0) c.list_edges-count.new.edges) ≡ boundary_of c.args.numbers.now = road_listed _ c.list_edges-count.ensures.value c.requires c.list_edges-count.ensures.edges_after in
    c.chosen.ensures ∙ ap (choose c.args.r) listed
