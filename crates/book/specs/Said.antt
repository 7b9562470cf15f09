-- What the program `account` says of a line, and the account after it (docs/REGISTER.md, "Message lines"). What a message does
-- is a parameter: `message` tests the whole account first, `processing` does not. Assumes nothing.
use Rattle.std.specs.Prelude.{◌≡◌, ℕ, cond, List, ◌++◌, length, ◌==◌, nat_lt}
use Rattle.entitlements.specs.declared.Account.{Account}
use Rattle.entitlements.specs.declared.Kind.{Kind}
use Rattle.entitlements.specs.Entitlements.{total_of, Answering, Done, processing}
use Rattle.change.specs.declared.Step.{Step}
use Rattle.change.specs.Change.{stepped}
use Rattle.facts.specs.Texts.{bytes}
use Rattle.lines.specs.Lines.{Reply, decimal, coded, refused, reply_line, longest}
use Rattle.lines.specs.Messages.{Message, message, asks_total, not_of_this_form, message_of}
use Rattle.lines.specs.Answers.{Served, Serving}
use Rattle.lines.specs.Automaton.{Coming}
use Rattle.entry.specs.Stated.{kind_of}
use Rattle.lines.specs.declared.Line.{Line}

-- "`activated`, `already`, `cancelled`, `not active`, `old`, or `refused`, number and place"
abbrev pub reply_of : Answering → Reply
reply_of answer = cond (answer.number == 0) (coded answer.words) (refused answer.number 0)

-- "`total` and the number after it"
abbrev pub total_said : ℕ → Reply
total_said total = coded (bytes "total " ++ decimal total)

-- what a message does to an account, by its kind, its text and its number
abbrev pub Doing : Type 0
Doing = Kind → Account → List ℕ → ℕ → Done

-- the answer to a line: what is said of it, and the account after it
abbrev pub answered : Reply → Account → Served Account
answered reply account = record { reply = reply; state = account }

-- what a message is answered
abbrev pub posted : Done → Served Account
posted done = answered (reply_of done.answer) done.account

-- the answer to a form: the total where it is asked for, and 9 for a line that is none, both of which leave the account as it was
abbrev pub form_posted : Doing → Account → Message → Served Account
form_posted doing account (message letter number text) = posted (doing (kind_of letter) account text number)
form_posted doing account asks_total = answered (total_said (total_of account)) account
form_posted doing account not_of_this_form = answered (refused 9 0) account

-- the answer to a line: 10 for one of too many bytes, which leaves the account as it was too
unfoldable pub posting : Doing → Serving Account
posting doing account line = cond (nat_lt longest (length line)) (answered (refused 10 0) account) (form_posted doing account (message_of line))

-- the reply to a line where the account is not tested as a whole, with the line's number
abbrev pub reply_to : ℕ → Account → List ℕ → List ℕ
reply_to number account line = reply_line number (posting processing account line).reply

-- and a step that leaves the account after it
abbrev pub StepsBy : List ℕ → Account → Step → Type 0
StepsBy line account step = stepped step account ≡ (posting processing account line).state

-- the line that comes in, with the account that it finds and the room that its bytes stand in
abbrev pub coming : Line → Account → List ℕ → Coming Account
coming line account room = record { number = line.number; len = line.len; room = room; state = account }
