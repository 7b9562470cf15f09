-- `lines::add` meets its contract: the test says which case of `grown` holds, and a store past a room's end leaves the room.
-- Assumes nothing.
use lib.ListN.{length}
use lib.Seq.{set_out}
use mathlib.Core.Path.{sym, refl}
use Rattle.lines.specs.AutomatonLaws.{grown_within, grown_past}
use Rattle.lines.proofs.add.Goals as goal

pub returns-then-len-room : goal.returns-then-len-room
returns-then-len-room c =
    record { value = sym (grown_within (length c.args.room.now) c.args.len c.if-len-room.true); room_after = refl }

pub returns : goal.returns
returns c =
    let asked = c.args in record { value = sym (grown_past (length asked.room.now) asked.len c.if-len-room.false); room_after = sym (set_out asked.room.now asked.len asked.byte c.if-len-room.false) }
