-- `ffi::linenspruce_code_quick` meets its contract: the road's promise, with kind and answer in numbers. Assumes nothing.
use Rattle.ffi.proofs.linenspruce_code_quick.Goals as goal

pub returns : goal.returns
returns c =
    rw (c.coded.ensures, ← c.kind_of.ensures) c.code.ensures
