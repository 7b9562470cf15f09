-- `ffi::linenspruce_record_activation` meets its contract: the promise of writing a record, with the answer in numbers. Assumes nothing.
use Rattle.page.specs.Page.{says}
use Rattle.ffi.specs.Replying.{leaves_nowhere, recording_nowhere}
use Rattle.ffi.proofs.linenspruce_record_activation.Goals as goal

pub returns : goal.returns
returns c =
    leaves_nowhere (says c.write_at-answer.result) (recording_nowhere c.write_at-answer.result) c.write_at-answer.ensures c.written_number.ensures c.no_place.ensures
