-- `letters::value_in` meets its contract: the library's search for a place. Assumes nothing.
use Rattle.std.specs.Prelude.{ℕ, ◌≡◌, Option, unwrap_or, position, eqb, length}
use Rattle.std.proofs.Common.{rules, tests, ap, ◌∙◌}
use Rattle.std.proofs.lemmas.Iterator.{YieldsList-from_slice}
use Rattle.std.proofs.lemmas.Iterator.Search.{position_from_yields_List}
use Rattle.facts.specs.Places.{position_place}
use Rattle.letters.proofs.value_in.Goals as goal

pub returns : goal.returns
returns c =
    let alphabet = c.args.alphabet.now in
    let byte = c.args.byte in
    let place : c.position-place.result ≡ position (λ (letter : ℕ). eqb letter byte) alphabet =
    position_from_yields_List (λ (letter : ℕ). eqb letter byte) _ _ c.position-place.result c.position-place.ensures.ran
    (YieldsList-from_slice _ c.iter.ensures.rest) (λ x b q k. search (rules, tests)) in
    c.unwrap_or.ensures
    ∙ ap (λ (o : Option ℕ). unwrap_or o (length alphabet)) place
    ∙ position_place (λ (letter : ℕ). eqb letter byte) alphabet
