-- `register::reply_all` meets its contract. The loop's invariant is `Replying`, whose laws are in output/specs/Replying.antt.
-- Assumes nothing.
use Rattle.std.proofs.Common.{refl, rules}
use Rattle.lines.specs.Answers.{always}
use Rattle.output.specs.Replying.{replying_begin, replying_step, replying_end}
use Rattle.register.specs.Said.{said, coming}
use Rattle.register.proofs.reply_all.Goals as goal

pub loop-byte-init : goal.loop-byte-init
loop-byte-init c =
    let asked = c.args in
    (refl, refl, refl, replying_begin (always said) (coming asked.line asked.room.now) asked.bytes.now asked.out.now)

pub loop-byte-preserved : goal.loop-byte-preserved
loop-byte-preserved c =
    let here = c.loop-byte in
    (search rules, search rules, search rules, replying_step here.invariant.3 (search rules) c.take_byte-listed.ensures.room_after c.take_byte-listed.ensures.put)

pub returns : goal.returns
returns c =
    let whole = replying_end c.loop-byte.invariant.3 (search rules) in
    record { room_after = whole.0; put = whole.1 }
