-- The message of a line as a caller gets it: its kind, its number, and where in the line its text starts; or that it asks for the total.
-- Assumes nothing.
use Rattle.std.specs.Prelude.{Option, Some, None, ℕ, ◌-◌, cond, List, length, drop, eqb}
use Prim.Native.Char.{code}
use Rattle.lines.specs.Messages.{Message as Form, message, asks_total, not_of_this_form, part, numbered, message_of}
use Rattle.entitlements.specs.declared.Kind.{Kind}
use Rattle.entitlements.specs.declared.Kind.TheVariants.{Activate, Cancel}
use Rattle.entry.specs.declared.Stated.{Stated}
use Rattle.entry.specs.declared.Stated.TheVariants.{Message, Total}

-- `A` or `C`: activate, cancel
abbrev pub letter_of : Kind → ℕ
letter_of Activate = code "A"
letter_of Cancel = code "C"

-- the kind by its letter
abbrev pub kind_of : ℕ → Kind
kind_of letter = cond (eqb letter (code "A")) Activate Cancel

-- a message by its kind, its number and where its text starts, which is "the rest of the line"
abbrev pub stated_by : List ℕ → Form → Option Stated
stated_by line (message letter number text) = Some (Message (kind_of letter) number (length line - length text))
stated_by line asks_total = Some Total
stated_by line not_of_this_form = None

-- the message that a line states
unfoldable pub stated_of : List ℕ → Option Stated
stated_of line = stated_by line (message_of line)

-- the message of a line that starts with the letter of a kind and a space
unfoldable pub stated_after : Kind → List ℕ → Option Stated
stated_after kind line = stated_by line (numbered (letter_of kind) (part (drop 2 line)))
