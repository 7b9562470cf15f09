-- The laws of what is said of a line: one that is too long, one that states no message, and one that states a message, by what writing its
-- record answers; and what is put for it. Assumes nothing.
use Rattle.std.specs.Prelude.{Some, None, Ok, Err, ◌≡◌, ℕ, ◌<◌, ◌≤◌, List, [], ◌++◌, length, drop, replicate, ◌≢◌}
use Rattle.std.proofs.Math.Path.{refl, sym, ap}
use Rattle.std.proofs.Common.{◌∙◌, lt-ltb, le-ltb, eq-eqb}
use mathlib.Core.List.{append-nil}
use Rattle.replies.specs.Replies.{Said, Outcome, run}
use Rattle.room.specs.Room.{Put}
use Rattle.room.specs.RoomLaws.{put_nothing}
use Rattle.entitlements.specs.declared.Kind.{Kind}
use Rattle.page.specs.declared.RecordError.TheVariants as write
use Rattle.page.specs.Page.{Written, record_length, record_of, write_checks, writing, says, leaves}
use Rattle.lines.specs.Lines.{Reply, coded, refused, reply_line, longest}
use Rattle.lines.specs.Messages.{message_of}
use Rattle.entry.specs.declared.Stated.TheVariants.{Message, Total}
use Rattle.entry.specs.Stated.{stated_of}
use Rattle.entry.specs.StatedLaws.{stated_bad, stated_total, stated_message}
use Rattle.recording.specs.Recorded.{reply_of, record_said, form_said, said, as_record, as_told}

-- ---- what is said of a line

module _ (line : List ℕ) where
  pub said_long : longest < length line → said line ≡ refused 10 0
  unfolding said
  said_long h = rw (lt-ltb longest (length line) h)

  module _ (h : length line ≤ longest) where
    said_form : said line ≡ form_said (message_of line)
    unfolding said
    said_form = rw (le-ltb longest (length line) h)

    pub said_bad : stated_of line ≡ None → said line ≡ refused 9 0
    said_bad e = said_form ∙ ap form_said (stated_bad line e)

    pub said_total : stated_of line ≡ Some Total → said line ≡ refused 9 0
    said_total e = said_form ∙ ap form_said (stated_total line e)

    pub said_message : {kind : Kind} {number at : ℕ} → stated_of line ≡ Some (Message kind number at) → said line ≡ record_said kind (drop at line) number
    said_message {number = number} {at = at} e =
        let states = stated_message line e in
        said_form ∙ ap form_said states.says ∙ ap (λ (k : Kind). record_said k (drop at line) number) states.its

-- ---- what is said of a message, by what writing its record into 31 bytes answers

module _ (kind : Kind) (text : List ℕ) (number : ℕ) (answer : Written) {later : List ℕ}
    (so : leaves answer later ≡ writing kind text number (replicate record_length 0)) where
  checked : says answer ≡ run (write_checks text number (replicate record_length 0))
  unfolding writing
  checked = ap (λ (o : Outcome). o.said) so

  pub record_coded : (says answer).number ≡ 0 → record_said kind text number ≡ coded later
  unfolding record_said writing
  record_coded e =
      let zero = sym (ap (λ (s : Said). s.number) checked) ∙ e in
      let held : later ≡ record_of kind text number ++ [] = ap (λ (o : Outcome). o.room) so ∙ rw (eq-eqb _ 0 zero) in
      rw (eq-eqb _ 0 zero) (ap coded (sym (held ∙ append-nil (record_of kind text number))))

  pub record_refused : ((says answer).number ≢ 0) → record_said kind text number ≡ refused (says answer).number 0
  unfolding record_said
  record_refused n = ap (λ (s : Said). reply_of s (record_of kind text number)) (sym checked) ∙ of answer n
    where
      of : (a : Written) → ((says a).number ≢ 0) → reply_of (says a) (record_of kind text number) ≡ refused (says a).number 0
      of (Ok done) n = absurd (n refl)
      of (Err write.Number) n = refl
      of (Err write.Code) n = refl
      of (Err write.Short) n = refl

-- ---- what is put for a line

-- where it is refused, nothing into the page, and its refusal into what is told
pub refuses : (line : ℕ) {reply : Reply} {number : ℕ} → reply ≡ refused number 0 → {put later : ℕ} → later ≡ put → {out told after : List ℕ} {at end : ℕ}
    → Put told at (reply_line line (refused number 0)) end after → Put out put (as_record line reply) later out × Put told at (as_told line reply) end after
unfolding as_record as_told
refuses line e k {out} p = rw (e, k) (put_nothing out _, p)

-- where it has a record, that into the page
pub records : (line : ℕ) {reply : Reply} {text : List ℕ} → reply ≡ coded text → {out told later : List ℕ} {put end at : ℕ}
    → Put out put text end later → Put out put (as_record line reply) end later × Put told at (as_told line reply) at told
unfolding as_record as_told
records line e {told = told} {at = at} p = rw e (p, put_nothing told at)
