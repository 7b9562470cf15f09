-- `places::low_place` meets its contract: the library's search finds the lowest place of the half. Assumes nothing.
use Rattle.std.proofs.Common.{rules, tests, ◌≡◌, eqb, Bool, ℕ, position, ap, ◌∙◌, unwrap_or, Option}
use Rattle.std.proofs.lemmas.Iterator.{YieldsList-from_slice}
use Rattle.std.proofs.lemmas.Iterator.Search.{position_from_yields_List}
use Rattle.places.specs.Places.{places}
use Rattle.places.specs.PlacesLaws.{position_lowest}
use Rattle.places.proofs.low_place.Goals as goal

pub returns : goal.returns
returns c =
    let has : ℕ → Bool = λ l. eqb l c.args.half in
    let found : c.position.result ≡ position has c.args.low.now =
    position_from_yields_List has _ _ _ c.position.ensures.ran (YieldsList-from_slice c.args.low.now cc) (λ x b q k. search (rules, tests)) in
    c.unwrap_or.ensures ∙ ap (λ (r : Option ℕ). unwrap_or r places) found ∙ position_lowest has c.args.low.now c.told-low
