-- The laws of the message that a line states: what follows the letter of its kind, and the line's form by it. Assumes nothing.
use Rattle.std.specs.Prelude.{Some, None, ℕ, ◌+◌, ◌-◌, ◌≤◌, ◌<◌, true, false, List, [], ◌∷◌}
use Rattle.std.proofs.Common.{arith, ◌∙◌}
use Rattle.std.proofs.Math.Path.{◌≡◌, refl, ap, ap₂}
use Rattle.std.proofs.Math.ListN.{length, drop, length-drop}
use Rattle.lines.specs.Starts.{starts_with}
use Rattle.lines.specs.Messages.{Message as Form, message, asks_total, not_of_this_form, is_asking, message_of}
use Rattle.lines.specs.MessagesLaws.{EndsIn, message_starts, message_asks, message_none, text_ends}
use Rattle.numbers.specs.Numbers.{long_at}
use Rattle.numbers.specs.MessageLaws.{message_missed, message_ends, message_found}
use Rattle.entitlements.specs.declared.Kind.{Kind}
use Rattle.entitlements.specs.declared.Kind.TheVariants.{Activate, Cancel}
use Rattle.entry.specs.declared.Stated.TheVariants.{Message, Total}
use Rattle.entry.specs.Stated.{letter_of, kind_of, stated_by, stated_of, stated_after}

-- ---- a line after the letter of a kind and a space

-- a kind is known by its letter
kind_letter : (kind : Kind) → kind_of (letter_of kind) ≡ kind
kind_letter Activate = refl
kind_letter Cancel = refl

-- at a word that is no number, at a number that ends the line, at a number before a space and the text
module _ (kind : Kind) (line : List ℕ) where
  pub after_missed : long_at line 2 ≡ None → stated_after kind line ≡ None
  unfolding stated_after
  after_missed m = ap (stated_by line) (message_missed (letter_of kind) line 2 m)

  module _ (n end : ℕ) (m : long_at line 2 ≡ Some (n, end)) where
    pub after_ends : length line ≤ end → stated_after kind line ≡ None
    unfolding stated_after
    after_ends h = ap (stated_by line) (message_ends (letter_of kind) line 2 n end m h)

    pub after_found : end < length line → stated_after kind line ≡ Some (Message kind n (end + 1))
    unfolding stated_after
    after_found h =
        let at : length line - length (drop (end + 1) line) ≡ end + 1 = omega (arith, h, length-drop (end + 1) line) in
        ap (stated_by line) (message_found (letter_of kind) line 2 n end m h)
        ∙ ap (λ (k : Kind). Some (Message k n (length line - length (drop (end + 1) line)))) (kind_letter kind)
        ∙ ap (λ (k : ℕ). Some (Message kind n k)) at

-- ---- a line that starts with a letter and a space, one that asks for the total, and any other

module _ (line : List ℕ) where
  pub stated_starts : (kind : Kind) → starts_with line (letter_of kind ∷ 32 ∷ []) ≡ true → stated_of line ≡ stated_after kind line
  unfolding stated_of stated_after
  stated_starts Activate e = ap (stated_by line) (message_starts 65 refl refl line e)
  stated_starts Cancel e = ap (stated_by line) (message_starts 67 refl refl line e)

  pub stated_asks : is_asking line ≡ true → stated_of line ≡ Some Total
  unfolding stated_of
  stated_asks e = ap (stated_by line) (message_asks line e)

  pub stated_none : starts_with line (65 ∷ 32 ∷ []) ≡ false → starts_with line (67 ∷ 32 ∷ []) ≡ false → is_asking line ≡ false
      → stated_of line ≡ None
  unfolding stated_of
  stated_none a c n = ap (stated_by line) (message_none line a c n)

-- ---- the line's form by the message that it states

-- the form of a line that states a message: its text stands in the line from a position on
pub record States (line : List ℕ) (kind : Kind) (number at : ℕ) : Type 0 where
  pub letter : ℕ
  pub its : kind_of letter ≡ kind
  pub says : message_of line ≡ message letter number (drop at line)
  pub within : at ≤ length line

module _ (line : List ℕ) where
  pub stated_bad : stated_of line ≡ None → message_of line ≡ not_of_this_form
  unfolding stated_of
  stated_bad = bad (message_of line)
    where
      bad : (f : Form) → stated_by line f ≡ None → f ≡ not_of_this_form
      bad (message letter number text) e = let z : ◌≡◌ {A = ℕ} 0 1 = cc in absurd (omega arith)
      bad asks_total e = let z : ◌≡◌ {A = ℕ} 0 1 = cc in absurd (omega arith)
      bad not_of_this_form e = refl

  pub stated_total : stated_of line ≡ Some Total → message_of line ≡ asks_total
  unfolding stated_of
  stated_total = total (message_of line)
    where
      total : (f : Form) → stated_by line f ≡ Some Total → f ≡ asks_total
      total (message letter number text) e = let z : ◌≡◌ {A = ℕ} 0 1 = cc in absurd (omega arith)
      total asks_total e = refl
      total not_of_this_form e = let z : ◌≡◌ {A = ℕ} 0 1 = cc in absurd (omega arith)

  pub stated_message : {kind : Kind} {number at : ℕ} → stated_of line ≡ Some (Message kind number at) → States line kind number at
  unfolding stated_of
  stated_message {kind} {number} {at} = of (message_of line) refl (text_ends line)
    where
      of : (f : Form) → message_of line ≡ f → EndsIn line f → stated_by line f ≡ Some (Message kind number at) → States line kind number at
      of (message letter n text) f h e =
          let its_number : n ≡ number = cc in
          let start : length line - length text ≡ at = cc in
          record {
            letter = letter;
            its = cc;
            says = f ∙ ap₂ (message letter) its_number (h.rest ∙ ap (λ (k : ℕ). drop k line) start);
            within = omega (arith, start);
          }
      of asks_total f h e = let z : ◌≡◌ {A = ℕ} 0 1 = cc in absurd (omega arith)
      of not_of_this_form f h e = let z : ◌≡◌ {A = ℕ} 0 1 = cc in absurd (omega arith)
