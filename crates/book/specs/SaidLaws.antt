-- The laws of what is said of a line: one that is too long, one not of this form, one that asks for the total, and one that states a
-- message; and of what leaves the account as it was. Assumes nothing.
use Rattle.std.specs.Prelude.{Some, None, ◌≡◌, ℕ, ◌<◌, ◌≤◌, List, length, drop}
use Rattle.std.proofs.Common.{ap, ◌∙◌, lt-ltb, le-ltb}
use Rattle.entitlements.specs.declared.Account.{Account}
use Rattle.entitlements.specs.declared.Kind.{Kind}
use Rattle.entitlements.specs.Entitlements.{total_of, processing}
use Rattle.change.specs.declared.Step.{Step}
use Rattle.change.specs.Change.{stays, stepped}
use Rattle.room.specs.Room.{Put}
use Rattle.lines.specs.Lines.{Reply, refused, reply_line, longest}
use Rattle.lines.specs.Messages.{message_of}
use Rattle.entry.specs.declared.Stated.TheVariants.{Message, Total}
use Rattle.entry.specs.Stated.{stated_of}
use Rattle.entry.specs.StatedLaws.{stated_bad, stated_total, stated_message}
use Rattle.book.specs.Said.{Doing, total_said, answered, posted, form_posted, posting, reply_to, StepsBy}

module _ (doing : Doing) (account : Account) (line : List ℕ) where
  pub posting_long : longest < length line → posting doing account line ≡ answered (refused 10 0) account
  unfolding posting
  posting_long h = rw (lt-ltb longest (length line) h)

  module _ (h : length line ≤ longest) where
    posting_form : posting doing account line ≡ form_posted doing account (message_of line)
    unfolding posting
    posting_form = rw (le-ltb longest (length line) h)

    pub posting_bad : stated_of line ≡ None → posting doing account line ≡ answered (refused 9 0) account
    posting_bad e = posting_form ∙ ap (form_posted doing account) (stated_bad line e)

    pub posting_total : stated_of line ≡ Some Total → posting doing account line ≡ answered (total_said (total_of account)) account
    posting_total e = posting_form ∙ ap (form_posted doing account) (stated_total line e)

    pub posting_message : {kind : Kind} {number at : ℕ} → stated_of line ≡ Some (Message kind number at)
        → posting doing account line ≡ posted (doing kind account (drop at line) number)
    posting_message {number = number} {at = at} e =
        let states = stated_message line e in
        posting_form
        ∙ ap (form_posted doing account) states.says
        ∙ ap (λ (k : Kind). posted (doing k account (drop at line) number)) states.its

-- Where a line leaves the account as it was, so does the step that puts nothing, and its reply is what is said
pub leaves : (number : ℕ) (account : Account) (line : List ℕ) {reply : Reply} → posting processing account line ≡ answered reply account
    → {step : Step} → step ≡ stays account.last account.total → {at end : ℕ} {out later : List ℕ}
    → Put out at (reply_line number reply) end later → StepsBy line account step × Put out at (reply_to number account line) end later
leaves number account line said e put = rw said (ap (λ (s : Step). stepped s account) e, put)
