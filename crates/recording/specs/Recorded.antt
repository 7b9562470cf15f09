-- The records of message lines (document 02, request 6): what is said of a line, what goes into the page for it, and what is told of it.
-- Assumes nothing.
use Rattle.std.specs.Prelude.{ℕ, cond, List, [], length, replicate, ◌==◌, nat_lt}
use Rattle.replies.specs.Replies.{Said, run}
use Rattle.entitlements.specs.declared.Kind.{Kind}
use Rattle.entitlements.specs.Entitlements.{kind_of}
use Rattle.page.specs.Page.{record_length, record_of, write_checks}
use Rattle.lines.specs.Lines.{Reply, coded, refused, reply_line, longest}
use Rattle.lines.specs.Messages.{Message, message, asks_total, not_of_this_form, message_of}
use Rattle.lines.specs.Answers.{always}
use Rattle.lines.specs.Automaton.{Coming}
use Rattle.lines.specs.Putting.{Putting, output_by}
use Rattle.lines.specs.declared.Line.{Line}

-- what writing a record says: the record, or a refusal
abbrev pub reply_of : Said → List ℕ → Reply
reply_of said text = cond (said.number == 0) (coded text) (refused said.number said.place)

-- what is said of a message: its record, or 41 or 42, as of writing it into 31 bytes
unfoldable pub record_said : Kind → List ℕ → ℕ → Reply
record_said kind text number = reply_of (run (write_checks text number (replicate record_length 0))) (record_of kind text number)

-- what is said of a form: 9 for what states no message, the question for the total too
abbrev pub form_said : Message → Reply
form_said (message letter number text) = record_said (kind_of letter) text number
form_said asks_total = refused 9 0
form_said not_of_this_form = refused 9 0

-- what is said of a line: 10 for one of too many bytes
unfoldable pub said : List ℕ → Reply
said line = cond (nat_lt longest (length line)) (refused 10 0) (form_said (message_of line))

-- what goes into the page for a line: its record
unfoldable pub as_record : Putting
as_record number (coded text) = text
as_record number (refused n p) = []

-- what is told of a line: its refusal, with the line's number
unfoldable pub as_told : Putting
as_told number (coded text) = []
as_told number (refused n p) = reply_line number (refused n p)

-- the page of an input: the records of its lines, end to end
abbrev pub page_of : List ℕ → List ℕ
page_of input = output_by as_record (always said) tt input

-- and what is told of it: the refusals of its lines, which are numbered from 1
abbrev pub told_of : List ℕ → List ℕ
told_of input = output_by as_told (always said) tt input

-- the line that comes in, with the room that its bytes stand in; no state goes on from line to line
abbrev pub coming : Line → List ℕ → Coming (Unit {0})
coming line room = record { number = line.number; len = line.len; room = room; state = tt }
