-- `summary::put_half` meets its contract: the room that is put has the ten letters. Assumes nothing.
use Rattle.summary.proofs.put_half.Goals as goal

pub returns : goal.returns
returns c = rw (← c.spell.ensures) c.put.ensures
