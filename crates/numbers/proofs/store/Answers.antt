-- `numbers::store` meets its contract: a store past a room's end leaves the room. Assumes nothing.
use mathlib.Core.Path.{sym}
use lib.Seq.{set_out}
use Rattle.numbers.proofs.store.Goals as goal

pub returns-else-i-room : goal.returns-else-i-room
returns-else-i-room c = sym (set_out c.args.room.now c.args.i c.args.value c.if-i-room.false)
