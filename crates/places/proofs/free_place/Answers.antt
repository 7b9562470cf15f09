-- `places::free_place` meets its contract: the library's search finds the lowest free place. Assumes nothing.
use Rattle.std.proofs.Common.{rules, tests, ◌≡◌, eqb, Bool, ℕ, position, ap, ◌∙◌, unwrap_or, Option}
use Rattle.std.proofs.lemmas.Iterator.{YieldsList-from_slice}
use Rattle.std.proofs.lemmas.Iterator.Search.{position_from_yields_List}
use Rattle.places.specs.Places.{places}
use Rattle.places.specs.PlacesLaws.{position_lowest}
use Rattle.places.proofs.free_place.Goals as goal

pub returns : goal.returns
returns c =
    let free : ℕ → Bool = λ a. eqb a 0 in
    let found : c.position.result ≡ position free c.args.active.now =
    position_from_yields_List free _ _ _ c.position.ensures.ran (YieldsList-from_slice c.args.active.now cc) (λ x b q k. search (rules, tests)) in
    c.unwrap_or.ensures ∙ ap (λ (r : Option ℕ). unwrap_or r places) found ∙ position_lowest free c.args.active.now c.told-active
