-- The laws of what is said of a line: it goes by the line's first bytes; a line that is too long is refused 10. Assumes nothing.
use Rattle.std.specs.Prelude.{ℕ, ◌≤◌, ◌<◌, ◌≡◌, List, length}
use Rattle.std.proofs.Common.{ap, lt-ltb, le-ltb}
use Rattle.lines.specs.Lines.{Reply, refused, longest, Coding, form, form_said, line_said}
use Rattle.lines.specs.Answers.{Served, always}
use Rattle.lines.specs.AnswersLaws.{ByFirst, long_first}

module _ (coding : Coding) where
  pub said_long : (line : List ℕ) → longest < length line → line_said coding line ≡ refused 10 0
  unfolding line_said
  said_long line h = rw (lt-ltb longest (length line) h)

  pub said_form : (line : List ℕ) → length line ≤ longest → line_said coding line ≡ form_said coding (form line)
  unfolding line_said
  said_form line h = rw (le-ltb longest (length line) h)

  -- more bytes than a line may have are enough
  pub said_first : (size : ℕ) → longest < size → ByFirst (always (line_said coding)) size
  said_first size h =
      long_first (always (line_said coding)) longest size (λ s. answered (refused 10 0)) (λ s line k. ap answered (said_long line k)) h
    where
      answered : Reply → Served (Unit {0})
      answered said = record { reply = said; state = tt }
