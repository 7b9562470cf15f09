-- `ffi::linenspruce_write` meets its contract: the promise of writing, with the answer in numbers. Assumes nothing.
use Rattle.code.specs.Code.{says}
use Rattle.ffi.specs.Replying.{leaves_nowhere, writing_nowhere}
use Rattle.ffi.proofs.linenspruce_write.Goals as goal

pub returns : goal.returns
returns c =
    leaves_nowhere (says c.write-answer.result) (writing_nowhere c.write-answer.result) c.write-answer.ensures c.written_number.ensures c.no_place.ensures
