-- `index::find` meets its contract, by what the slot has. Assumes nothing.
use mathlib.Core.Path.{sym, ◌∙◌}
use Rattle.index.specs.IndexLaws.{looked_everywhere, looked_there, looked_none}
use Rattle.index.proofs.find.Goals as goal

pub returns-then-place-ge-PLACES : goal.returns-then-place-ge-PLACES
returns-then-place-ge-PLACES c =
    let asked = c.args in
    let account = asked.account.now in
    c.code_place.ensures
    ∙ sym (looked_everywhere asked.slots.now account.high account.low account.active asked.code c.hash-slot.ensures c.if-place-ge-PLACES.true)

pub returns-then-has : goal.returns-then-has
returns-then-has c =
    let asked = c.args in
    let account = asked.account.now in
    let guess = c.if-place-ge-PLACES.false in
    sym
    (looked_there asked.slots.now account.high account.low account.active asked.code c.hash-slot.ensures guess
    (sym c.has.ensures ∙ c.if-has.true))

pub returns : goal.returns
returns c =
    let asked = c.args in
    let account = asked.account.now in
    let guess = c.if-place-ge-PLACES.false in
    sym
    (looked_none asked.slots.now account.high account.low account.active asked.code c.hash-slot.ensures guess
    (sym c.has.ensures ∙ c.if-has.false))
