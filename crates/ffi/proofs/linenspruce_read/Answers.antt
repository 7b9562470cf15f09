-- `ffi::linenspruce_read` meets its contract: the promise of reading, with the answer in numbers. Assumes nothing.
use mathlib.Core.Path.{◌∙◌}
use Rattle.ffi.proofs.linenspruce_read.Goals as goal

pub returns : goal.returns
returns c = c.told.ensures ∙ c.read.ensures
