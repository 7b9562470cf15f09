-- `index::note` meets its contract, by what the slot has. Assumes nothing.
use mathlib.Core.Path.{sym, ◌∙◌}
use Rattle.index.specs.IndexLaws.{noted_crowded, noted_shared, noted_place}
use Rattle.index.proofs.note.Goals as goal

pub returns-then-other-ge-PLACES : goal.returns-then-other-ge-PLACES
returns-then-other-ge-PLACES c =
    let asked = c.args in
    let account = asked.account.now in
    sym (noted_crowded asked.slots.now account.high account.low account.active asked.code c.hash-slot.ensures asked.place c.if-other-ge-PLACES.true)

pub returns-then-shares : goal.returns-then-shares
returns-then-shares c =
    let asked = c.args in
    let account = asked.account.now in
    let guess = c.if-other-ge-PLACES.false in
    sym
    (noted_shared asked.slots.now account.high account.low account.active asked.code c.hash-slot.ensures guess asked.place
    (sym c.shares.ensures ∙ c.if-shares.true))

pub returns : goal.returns
returns c =
    let asked = c.args in
    let account = asked.account.now in
    let guess = c.if-other-ge-PLACES.false in
    sym
    (noted_place asked.slots.now account.high account.low account.active asked.code c.hash-slot.ensures guess asked.place
    (sym c.shares.ensures ∙ c.if-shares.false))
