-- `ffi::linenspruce_look` meets its contract: the promise of looking, with what is found in numbers. Assumes nothing.
use mathlib.Core.Path.{ap, ◌∙◌}
use Rattle.ffi.specs.Replies.{looked_of}
use Rattle.ffi.proofs.linenspruce_look.Goals as goal

pub returns : goal.returns
returns c = c.seen.ensures ∙ ap looked_of c.look.ensures
