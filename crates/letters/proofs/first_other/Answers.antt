-- `letters::first_other` meets its contract: the library's search for a place. Assumes nothing.
use Rattle.std.specs.Prelude.{ℕ, ◌≡◌, refl, Bool, true, false, Option, unwrap_or, position, eqb, length, not}
use Rattle.std.proofs.Common.{rules, tests, ap, sym, ◌∙◌, eqb-true}
use Rattle.std.proofs.lemmas.Bool.{eqb-false}
use Rattle.std.proofs.lemmas.Iterator.{YieldsList-from_slice}
use Rattle.std.proofs.lemmas.Iterator.Search.{position_from_yields_List}
use Rattle.facts.specs.Places.{first_place, position_place}
use Rattle.letters.specs.Alphabet.{value_in, is_letter, no_letter, a_letter}
use Rattle.letters.specs.Letters.{letters}
use Rattle.letters.proofs.first_other.Goals as goal

-- A byte of value 32 is no letter, and any other is one
no_value : (byte : ℕ) → eqb (value_in letters byte) 32 ≡ not (is_letter letters byte)
no_value byte = at (eqb (value_in letters byte) 32) refl
  where
    at : (b : Bool) → eqb (value_in letters byte) 32 ≡ b → b ≡ not (is_letter letters byte)
    at true e = sym (no_letter letters byte (eqb-true (value_in letters byte) 32 e))
    at false e = sym (a_letter letters byte (eqb-false (value_in letters byte) 32 e))

pub returns : goal.returns
returns c =
    let text = c.args.text.now in
    let place : c.position-place.result ≡ position (λ (byte : ℕ). eqb (value_in letters byte) 32) text =
    position_from_yields_List (λ (byte : ℕ). eqb (value_in letters byte) 32) _ _ c.position-place.result c.position-place.ensures.ran
    (YieldsList-from_slice _ c.iter.ensures.rest) (λ x b q k. search (rules, tests)) in
    c.unwrap_or.ensures
    ∙ ap (λ (o : Option ℕ). unwrap_or o (length text)) place
    ∙ position_place (λ (byte : ℕ). eqb (value_in letters byte) 32) text
    ∙ ap (λ (test : ℕ → Bool). first_place test text) (λ i byte. no_value byte i)
