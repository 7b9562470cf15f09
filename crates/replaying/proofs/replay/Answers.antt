-- `replaying::replay` meets its contract. The loop's invariant is `Replaying`; what is found there is a record, and then the loop goes on
-- behind it, or none. Assumes nothing.
use Rattle.std.specs.Prelude.{Option, Some, None, Ok, Err}
use Rattle.page.specs.declared.LookError.{LookError}
use Rattle.std.proofs.Common.{ap, ◌≡◌, ℕ, ◌^◌, ◌<◌, List, [], length, refl, ◌∙◌, rules}
use lib.ListN.{length-replicate}
use Rattle.index.specs.Index.{slot_count}
use Rattle.history.specs.History.{Message}
use Rattle.page.specs.declared.LookError.TheVariants as look
use Rattle.page.specs.Page.{Found}
use Rattle.page.specs.declared.Record.{Record}
use Rattle.replaying.specs.Replay.{as_found}
use Rattle.replaying.proofs.ReplayLaws.{replaying_begin, replaying_room, replaying_change, replaying_step, replaying_end}
use Rattle.replaying.proofs.replay.Goals as goal
use Rattle.replaying.proofs.replay.Goals.{in_default, in_default-2}

-- a record, or none, is what an answer that is no refusal has
found_as : {f : Found} {o p : Option Record} → f ≡ Ok o → o ≡ p → f ≡ Ok p
found_as e k = e ∙ ap (λ (o : Option Record). Ok o) k

-- a refusal has no message, and neither has the end
refused : {f : Found} {e : LookError} → f ≡ Err e → (m : Message) (later : List Message) → as_found f m later ≡ []
refused {f} {e} k m later = ap (λ (f : Found). as_found f m later) k ∙ none e
  where
    none : (e : LookError) → as_found (Err e) m later ≡ []
    none look.Cut = refl
    none look.Mark = refl
    none look.Content = refl

the_end : {f : Found} → f ≡ Ok None → (m : Message) (later : List Message) → as_found f m later ≡ []
the_end k m later = ap (λ (f : Found). as_found f m later) k

pub loop-found-init : goal.loop-found-init
loop-found-init c =
    let page = c.args.page.now in
    let few : length page < 2 ^ 64 = search rules in
    rw (c.empty-account.ensures, c.none-counts.ensures) (replaying_begin page few (length-replicate {A = ℕ} slot_count 0) c.look-found.ensures)

pub overflow_add-at : goal.overflow_add-at
overflow_add-at c =
    let so = c.loop-found.invariant in
    let record_is : c.in-Ok-Some.field-0 ≡ Some c.in-Ok-Some.record = search rules in
    let room = replaying_room so (found_as c.in-Ok-Some.is record_is) in
    search (rules, room, so.few)

pub loop-found-smaller : goal.loop-found-smaller
loop-found-smaller c =
    let so = c.loop-found.invariant in
    let record_is : c.in-Ok-Some.field-0 ≡ Some c.in-Ok-Some.record = search rules in
    let room = replaying_room so (found_as c.in-Ok-Some.is record_is) in
    search (rules, room)

pub loop-found-preserved : goal.loop-found-preserved
loop-found-preserved c =
    let here = c.loop-found in
    let record_is : c.in-Ok-Some.field-0 ≡ Some c.in-Ok-Some.record = search rules in
    let at_record = found_as c.in-Ok-Some.is record_is in
    let change = replaying_change here.invariant at_record c.change_at-change.result c.find-place.ensures c.change_at-change.ensures in
    rw c.tally-counts.ensures
    (replaying_step here.invariant at_record c.change_at-change.result c.note.ensures change c.note_step.ensures c.put_step.ensures c.look-found-in-Ok-Some.ensures)

pub returns : goal.returns
returns c =
    let here = c.loop-found in
    let none : (m : Message) (later : List Message) → as_found here.found m later ≡ [] =
    elim c.match-found.branch [
      | in_default w ↦ let none : w.in_default.field-0 ≡ None = search rules in the_end (found_as w.in_default.is none)
      | in_default-2 w ↦ refused w.in_default.is
    ] in
    replaying_end here.invariant none c.found_number.ensures
