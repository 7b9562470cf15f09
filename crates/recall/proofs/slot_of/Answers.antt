-- `recall::slot_of` meets its contract: bytes are below 256, so that nothing overflows. Assumes nothing.
use Rattle.std.proofs.Common.{arith}
use Rattle.recall.specs.Recall.{slot_of}
use Rattle.recall.proofs.slot_of.Goals as goal

pub returns : goal.returns
unfolding slot_of
returns c =
    record {
      value = rw (
        c.byte_at.ensures.value,
        c.byte_at-2.ensures.value,
        c.byte_at-3.ensures.value,
        c.byte_at-4.ensures.value,
        c.byte_at-5.ensures.value,
        c.byte_at-6.ensures.value,
      );
      upper_bound = omega arith;
    }
