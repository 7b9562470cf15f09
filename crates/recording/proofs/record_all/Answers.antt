-- `recording::record_all` meets its contract. The loop's invariant is `Taking` twice, for the records and for what is told, whose laws are in
-- output/specs/Replying.antt. Assumes nothing.
use Rattle.std.proofs.Common.{refl, rules}
use Rattle.lines.specs.Answers.{always}
use Rattle.output.specs.Taking.{taking_begin, taking_step, taking_end}
use Rattle.recording.specs.Recorded.{said, coming}
use Rattle.recording.proofs.record_all.Goals as goal

pub loop-byte-init : goal.loop-byte-init
loop-byte-init c =
    let asked = c.args in
    let start = coming asked.line asked.room.now in (
      refl,
      refl,
      refl,
      taking_begin (always said) start asked.bytes.now asked.out.now,
      taking_begin (always said) start asked.bytes.now asked.told.now,
    )

pub loop-byte-preserved : goal.loop-byte-preserved
loop-byte-preserved c =
    let here = c.loop-byte in (
      search rules,
      search rules,
      search rules,
      taking_step here.invariant.3 (search rules) c.take_byte-recorded.ensures.room_after c.take_byte-recorded.ensures.put,
      taking_step here.invariant.4 (search rules) c.take_byte-recorded.ensures.room_after c.take_byte-recorded.ensures.put_2,
    )

pub returns : goal.returns
returns c =
    let page = taking_end c.loop-byte.invariant.3 (search rules) in
    let tells = taking_end c.loop-byte.invariant.4 (search rules) in
    record { room_after = page.0; put = page.1; put_2 = tells.1 }
