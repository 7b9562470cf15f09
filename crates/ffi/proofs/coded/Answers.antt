-- `ffi::coded` meets its contract: number and place are those of the answer. Assumes nothing.
use Rattle.unit.specs.Frame.{says}
use Rattle.ffi.specs.Replying.{says_both}
use Rattle.ffi.proofs.coded.Goals as goal

pub returns : goal.returns
returns c = says_both (says c.args.answer) c.coded_number.ensures c.coded_place.ensures
