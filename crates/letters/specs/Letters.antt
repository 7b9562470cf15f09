-- The letters (document 01, "The twenty characters"), and numbers spelled in them. The laws hold of any alphabet. Assumes nothing.
use Rattle.std.specs.Prelude.{ℕ, suc, ◌+◌, ◌-◌, ◌*◌, ◌/◌, ◌%◌, ◌^◌, ◌≤◌, ◌<◌, ◌≡◌, refl, List, [], ◌∷◌, ◌++◌, map, length, get_or, take, drop, set}
use Rattle.std.proofs.Common.{add-one, arith, ap, ap₂, ◌∙◌, sym, subst, append-nil, append_assoc, length-set, take-suc, take_all, drop-cons, get_or-set_same, drop-set-lt}
use Rattle.std.proofs.lemmas.List.{map-append}
use Rattle.std.proofs.Math.Seq.{drop-length}
use Rattle.facts.specs.Texts.{bytes}
use Rattle.letters.specs.Alphabet.{value_in, letter_in}
use Rattle.letters.specs.Digits.{digits, value_of, value_snoc}

-- The thirty-two letters by value, 0 to 31
abbrev pub letters : List ℕ
letters = bytes "0123456789ABCDEFGHJKLMNPQRTUVWXY"

-- Five bits make a character, high first: the last n letters of a number
abbrev pub spelled_in : List ℕ → ℕ → ℕ → List ℕ
spelled_in alphabet n x = map (letter_in alphabet) (digits n x)

-- The number that a text spells
abbrev pub number_in : List ℕ → List ℕ → ℕ
number_in alphabet text = value_of (map (value_in alphabet) text)

-- A loop that spells from the last place down: the letters from place i on stand, and `rest` is still to be spelled before them
pub record Spelling (alphabet : List ℕ) (places number : ℕ) (room : List ℕ) (i rest : ℕ) : Type 0 where
  pub long : length room ≡ places
  pub within : i ≤ places
  pub whole : spelled_in alphabet places number ≡ spelled_in alphabet i rest ++ drop i room

module _ {alphabet : List ℕ} where
  pub spelling_begin : (room : List ℕ) (number : ℕ) → Spelling alphabet (length room) number room (length room) number
  spelling_begin room number = record {
    long = refl;
    within = omega arith;
    whole = sym (ap (λ (l : List ℕ). spelled_in alphabet (length room) number ++ l) (drop-length room) ∙ append-nil _);
  }

  -- One letter more, at place j
  spelling_one : {places number : ℕ} {room : List ℕ} (j rest : ℕ) → Spelling alphabet places number room (suc j) rest
      → Spelling alphabet places number (set room j (letter_in alphabet (rest % 32))) j (rest / 32)
  spelling_one {room = room} j rest s =
      let a : ℕ = letter_in alphabet (rest % 32) in
      let h : j < length room = omega arith in
      let one : drop j (set room j a) ≡ a ∷ drop (suc j) room =
      drop-cons (set room j a) j 0 (rw length-set h)
      ∙ ap₂ ◌∷◌ (get_or-set_same room j a 0 h) (drop-set-lt (suc j) room j a (omega arith)) in
      record {
        long = length-set room j a ∙ s.long;
        within = omega arith;
        whole =
            s.whole
            ∙ ap (λ (l : List ℕ). l ++ drop (suc j) room) (map-append (letter_in alphabet) (digits j (rest / 32)) (rest % 32 ∷ []))
            ∙ append_assoc (spelled_in alphabet j (rest / 32)) (a ∷ []) (drop (suc j) room)
            ∙ ap (λ (l : List ℕ). spelled_in alphabet j (rest / 32) ++ l) (sym one);
      }

  pub spelling_again : {places number : ℕ} {room : List ℕ} {i rest : ℕ} → Spelling alphabet places number room i rest → 0 < i
      → Spelling alphabet places number (set room (i - 1) (letter_in alphabet (rest % 32))) (i - 1) (rest / 32)
  spelling_again {places} {number} {room} {i} {rest} s h =
      let e : i ≡ suc (i - 1) = omega arith in
      spelling_one (i - 1) rest (subst (λ (k : ℕ). Spelling alphabet places number room k rest) e s)

  pub spelling_end : {places number : ℕ} {room : List ℕ} {i rest : ℕ} → Spelling alphabet places number room i rest → i ≤ 0
      → room ≡ spelled_in alphabet places number
  spelling_end {room = room} {i} {rest} s h =
      let e : i ≡ 0 = omega arith in
      sym (s.whole ∙ ap (λ (k : ℕ). spelled_in alphabet k rest ++ drop k room) e)

-- A loop that reads letters from the first on: the sum is the number that the letters before place i spell, its low sixty bits
pub record Summing (alphabet text : List ℕ) (i sum : ℕ) : Type 0 where
  pub within : i ≤ length text
  pub low : sum ≡ number_in alphabet (take i text) % 2 ^ 60

module _ {alphabet text : List ℕ} where
  pub summing_begin : Summing alphabet text 0 0
  summing_begin = record { within = omega arith; low = refl }

  pub summing_again : {i sum v : ℕ} → Summing alphabet text i sum → i < length text → v ≡ value_in alphabet (get_or text i 0)
      → Summing alphabet text (i + 1) ((sum % 2 ^ 55 * 32 + v) % 2 ^ 60)
  summing_again {i} {sum} {v} s h e =
      let one : number_in alphabet (take (i + 1) text) ≡ number_in alphabet (take i text) * 32 + v =
      ap (λ (k : ℕ). number_in alphabet (take k text)) (add-one i)
      ∙ ap (number_in alphabet) (take-suc text i 0 h)
      ∙ ap value_of (map-append (value_in alphabet) (take i text) (get_or text i 0 ∷ []))
      ∙ value_snoc 0 (map (value_in alphabet) (take i text)) (value_in alphabet (get_or text i 0))
      ∙ ap (λ (n : ℕ). number_in alphabet (take i text) * 32 + n) (sym e) in
      record { within = omega arith; low = omega arith }

  pub summing_end : {i sum : ℕ} → Summing alphabet text i sum → length text ≤ i → sum ≡ number_in alphabet text % 2 ^ 60
  summing_end {i} s h = s.low ∙ ap (λ (l : List ℕ). number_in alphabet l % 2 ^ 60) (take_all i text h)
