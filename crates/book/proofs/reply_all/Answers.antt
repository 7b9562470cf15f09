-- `book::reply_all` meets its contract. The loop's invariant is `Replying`, whose laws are in output/specs/Replying.antt; a byte further
-- is one of the two laws of one byte. Assumes nothing.
use Rattle.std.proofs.Common.{ℕ, ◌+◌, ◌%◌, ◌^◌, sym, refl, ◌∙◌, ap, rules}
use Rattle.room.specs.RoomLaws.{put_nothing}
use Rattle.lines.specs.AutomatonLaws.{byte_feed, byte_more}
use Rattle.output.specs.Replying.{replying_begin, replying_step, replying_end}
use Rattle.entitlements.specs.declared.Account.{Account}
use Rattle.entitlements.specs.Entitlements.{processing}
use Rattle.book.specs.Said.{posting, coming}
use Rattle.book.proofs.reply_all.Goals as goal
use Rattle.book.proofs.reply_all.Goals.{then-byte-eq10, else-byte-eq10}

pub loop-byte-init : goal.loop-byte-init
loop-byte-init c =
    let asked = c.args in
    (refl, refl, replying_begin (posting processing) (coming asked.line asked.account asked.room.now) asked.bytes.now asked.out.now)

pub loop-byte-preserved : goal.loop-byte-preserved
loop-byte-preserved c =
    let here = c.loop-byte in
    let found = coming here.line here.account here.room in
    let less = c.loop-byte-test.true in
    elim c.if-byte-eq10.branch [
      | then-byte-eq10 w ↦
          let fed = byte_feed (posting processing) found _ w.if-byte-eq10.true in
          let next : ℕ = (here.line.number + 1) % 2 ^ 64 in
          let left = w.put_step.ensures ∙ w.post_held-posted.ensures.steps_by in
          let on = ap (λ (a : Account). coming (record { number = next; len = 0 }) a here.room) left ∙ sym fed.0 in
          rw (w.room-is, w.out-is, w.line-is, w.account-is, w.put-is)
          (search rules, search rules, replying_step here.invariant.2 less on (rw fed.1 w.post_held-posted.ensures.put))
      | else-byte-eq10 w ↦
          let grew = byte_more (posting processing) found _ w.if-byte-eq10.false in
          rw (w.room-is, w.out-is, w.line-is, w.account-is, w.put-is)
          (search rules, search rules, replying_step here.invariant.2 less (rw (grew.0, w.add.ensures.value, w.add.ensures.room_after)) (rw grew.1 (put_nothing here.out here.put)))
    ]

pub returns : goal.returns
returns c =
    let whole = replying_end c.loop-byte.invariant.2 (search rules) in
    record { room_after = whole.0; put = whole.1 }
