-- `places::code_place` meets its contract: the code is active at no place below the lowest that has its low half. Assumes nothing.
use mathlib.Core.Path.{sym, ◌∙◌}
use Rattle.places.specs.PlacesLaws.{none_found, none_finish, code_below}
use Rattle.places.proofs.code_place.Goals as goal

pub returns-then-first-ge-PLACES : goal.returns-then-first-ge-PLACES
returns-then-first-ge-PLACES c =
    let asked = c.args in
    let below = code_below asked.high.now asked.low.now asked.active.now asked.code c.low_place-first.ensures in
    none_finish below c.if-first-ge-PLACES.true

pub returns-then-has : goal.returns-then-has
returns-then-has c =
    let asked = c.args in
    let below = code_below asked.high.now asked.low.now asked.active.now asked.code c.low_place-first.ensures in
    none_found below c.if-first-ge-PLACES.false (sym c.has.ensures ∙ c.if-has.true)
