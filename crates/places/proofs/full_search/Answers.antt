-- `places::full_search` meets its contract: the search among the numbers of the places finds the lowest that holds the code. Assumes nothing.
use Rattle.std.proofs.Common.{rules, tests, ◌≡◌, ℕ, Bool, true, false, ◌∙◌}
use Rattle.std.proofs.lemmas.Iterator.{first_from_Range}
use Rattle.places.specs.Places.{holds}
use Rattle.places.specs.PlacesLaws.{searched}
use Rattle.places.proofs.full_search.Goals as goal

pub returns : goal.returns
returns c =
    let test : ℕ → Bool = holds c.args.high.now c.args.low.now c.args.active.now c.args.code in
    c.unwrap_or.ensures
    ∙ searched test c.find.result
    (first_from_Range _ _ _ _ (λ (i : ℕ). test i ≡ true) (λ (i : ℕ). test i ≡ false) c.find.ensures.ran (λ x q k. search (rules, tests)) (λ x q k. search (rules, tests)))
