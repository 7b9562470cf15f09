-- The laws of fields and their two numbers: each gives the other back. Assumes nothing.
use Rattle.std.specs.Prelude.{ℕ, ◌+◌, ◌*◌, ◌/◌, ◌%◌, ◌^◌, ◌<◌, ◌≡◌, [], ◌∷◌}
use Rattle.std.proofs.Common.{arith}
use Rattle.letters.specs.Digits.{value_of}
use Rattle.location.specs.Location.{location_of}
use Rattle.location.specs.LocationLaws.{reference_back}
use Rattle.code.specs.declared.Fields.{Fields}
use Rattle.code.specs.Code.{rest_of, character_in, fields_in}
use Rattle.code.specs.WritingLaws.{Good}

-- Six numbers of which five are digits and the last has four make one of nine digits, and are found in it
record Parts (rest s e w so n u : ℕ) : Type 0 where
  scale : character_in rest 8 ≡ s
  east : character_in rest 7 ≡ e
  west : character_in rest 6 ≡ w
  south : character_in rest 5 ≡ so
  north : character_in rest 4 ≡ n
  number : rest % 32 ^ 4 ≡ u

parts : (s e w so n u : ℕ) → s < 32 → e < 32 → w < 32 → so < 32 → n < 32 → u < 32 ^ 4
    → Parts (value_of (s ∷ e ∷ w ∷ so ∷ n ∷ []) * 32 ^ 4 + u) s e w so n u
parts s e w so n u hs he hw ho hn hu = record {
  scale = omega arith;
  east = omega arith;
  west = omega arith;
  south = omega arith;
  north = omega arith;
  number = omega arith;
}

-- The rest of good fields has 45 bits
pub rest_below : (f : Fields) → Good f → rest_of f < 2 ^ 45
unfolding rest_of
rest_below f g = omega arith

-- Good fields are found back in their two numbers
pub fields_back : (f : Fields) → Good f → fields_in (location_of f.reference) (rest_of f) ≡ f
unfolding rest_of fields_in
fields_back f g =
    let p =
    parts f.scale f.east f.west f.south f.north f.number
    (omega arith) (omega arith) (omega arith) (omega arith) (omega arith) (omega arith) in
    let r = reference_back f.reference g.lat g.lon (omega arith) (omega arith) in
    λ i. record {
      reference = r i;
      scale = p.scale i;
      east = p.east i;
      west = p.west i;
      south = p.south i;
      north = p.north i;
      number = p.number i;
    }

-- The rest of the fields that two numbers tell is the second, where it has 45 bits
pub rest_back : (location rest : ℕ) → rest < 2 ^ 45 → rest_of (fields_in location rest) ≡ rest
unfolding rest_of fields_in
rest_back location rest h =
    let scale : rest / 32 ^ 8 % 32 ≡ rest / 32 ^ 8 = omega arith in
    let east : rest / 32 ^ 8 * 32 + rest / 32 ^ 7 % 32 ≡ rest / 32 ^ 7 = omega arith in
    let west : rest / 32 ^ 7 * 32 + rest / 32 ^ 6 % 32 ≡ rest / 32 ^ 6 = omega arith in
    let south : rest / 32 ^ 6 * 32 + rest / 32 ^ 5 % 32 ≡ rest / 32 ^ 5 = omega arith in
    let north : rest / 32 ^ 5 * 32 + rest / 32 ^ 4 % 32 ≡ rest / 32 ^ 4 = omega arith in
    let number : rest / 32 ^ 4 * 32 ^ 4 + rest % 32 ^ 4 ≡ rest = omega arith in
    together (character_in rest 7) (character_in rest 6) (character_in rest 5) (character_in rest 4) (rest % 32 ^ 4) scale east west south north number
  where
    together : (e w so n u : ℕ) {s s8 e7 w6 so5 n4 : ℕ} → s ≡ s8 → s8 * 32 + e ≡ e7 → e7 * 32 + w ≡ w6 → w6 * 32 + so ≡ so5 → so5 * 32 + n ≡ n4
        → n4 * 32 ^ 4 + u ≡ rest → value_of (s ∷ e ∷ w ∷ so ∷ n ∷ []) * 32 ^ 4 + u ≡ rest
    together e w so n u hs he hw ho hn hu = omega arith
