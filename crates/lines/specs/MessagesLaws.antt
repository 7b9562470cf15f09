-- The laws of lines of messages: what a line that starts with a letter and a space is, the line `T`, and one that is neither; where its
-- text stands; and worked examples. Assumes nothing.
use Rattle.std.specs.Prelude.{ℕ, suc, ◌+◌, ◌-◌, ◌≤◌, ◌≡◌, refl, Bool, true, false, cond, ◌&&◌, List, [], ◌∷◌, map, length, drop, get_or, replicate, eqb}
use Rattle.std.proofs.Common.{arith, ap, ◌∙◌, drop-drop, eqb-true}
use Rattle.std.proofs.Math.Bool.{and-true, and-false}
use lib.Pointwise.{pointwise}
use Rattle.facts.specs.Tests.{both}
use Rattle.facts.specs.Texts.{bytes}
use Rattle.lines.specs.Lines.{value_after, value, is_within}
use Rattle.lines.specs.Starts.{starts_with}
use Rattle.lines.specs.Messages.{
  is_long,
  Parted,
  parted,
  unparted,
  led,
  part,
  Message,
  message,
  asks_total,
  not_of_this_form,
  is_letter,
  numbered,
  lettered,
  is_asking,
  message_of,
}

-- a line that starts with a byte and a space
starts_part : (b : ℕ) → eqb b 32 ≡ false → (line : List ℕ) → starts_with line (b ∷ 32 ∷ []) ≡ true → part line ≡ parted (b ∷ []) (drop 2 line)
unfolding starts_with part
starts_part b apart [] e = let z : ◌≡◌ {A = ℕ} 0 1 = cc in absurd (omega arith)
starts_part b apart (x ∷ []) e = let z : ◌≡◌ {A = ℕ} 0 1 = cc (both (eqb x b) false e).1 in absurd (omega arith)
starts_part b apart (x ∷ y ∷ t) e =
    let first = both (eqb x b) (eqb y 32 && true) e in
    let second = both (eqb y 32) true first.1 in
    rw (eqb-true x b first.0, eqb-true y 32 second.0, apart)

-- it has two bytes at least
starts_two : (b : ℕ) (line : List ℕ) → starts_with line (b ∷ 32 ∷ []) ≡ true → 2 ≤ length line
unfolding starts_with
starts_two b [] e = let z : ◌≡◌ {A = ℕ} 0 1 = cc in absurd (omega arith)
starts_two b (x ∷ []) e = let z : ◌≡◌ {A = ℕ} 0 1 = cc (both (eqb x b) false e).1 in absurd (omega arith)
starts_two b (x ∷ y ∷ t) e = omega arith

-- and the line that asks for the total one: its byte says whether it does
pub asking_one : (line : List ℕ) → length line ≡ 1 → is_asking line ≡ eqb (get_or line 0 0) 84
asking_one [] h = absurd (omega arith)
asking_one (x ∷ []) h = and-true (eqb x 84)
asking_one (x ∷ y ∷ t) h = absurd (omega arith)

-- the library's `==` of a line and the text `T` says it
pub asking_as : (line : List ℕ) → pointwise eqb line (84 ∷ []) ≡ is_asking line
asking_as [] = refl
asking_as (x ∷ []) = refl
asking_as (x ∷ y ∷ t) = refl

pub asking_other : (line : List ℕ) → (length line ≡ 1 → ⊥) → is_asking line ≡ false
asking_other [] n = refl
asking_other (x ∷ []) n = absurd (n refl)
asking_other (x ∷ y ∷ t) n = and-false (eqb x 84)

-- which is that question
pub message_asks : (line : List ℕ) → is_asking line ≡ true → message_of line ≡ asks_total
unfolding message_of
message_asks line e = rw e

-- what follows a letter and a space says what a message is
pub message_starts : (letter : ℕ) → eqb letter 32 ≡ false → is_letter letter ≡ true → (line : List ℕ)
    → starts_with line (letter ∷ 32 ∷ []) ≡ true → message_of line ≡ numbered letter (part (drop 2 line))
unfolding message_of
message_starts letter apart known line e = rw (asking_other line (λ one. omega (arith, one, starts_two letter line e)), starts_part letter apart line e, known)

-- a word of two bytes and more is no letter
long_word : (x y : ℕ) (p : Parted) → lettered (led x (led y p)) ≡ not_of_this_form
long_word x y (parted word rest) = refl
long_word x y unparted = refl

-- a line that starts with no letter and a space has no letter before its first space
none_lettered : (line : List ℕ) → starts_with line (65 ∷ 32 ∷ []) ≡ false → starts_with line (67 ∷ 32 ∷ []) ≡ false
    → lettered (part line) ≡ not_of_this_form
unfolding part starts_with
none_lettered [] a c = refl
none_lettered (x ∷ []) a c = pick (eqb x 32) refl
  where
    pick : (e : Bool) → eqb x 32 ≡ e → lettered (part (x ∷ [])) ≡ not_of_this_form
    pick true e = rw e
    pick false e = rw e
none_lettered (x ∷ y ∷ t) a c = pick (eqb x 32) (eqb y 32) refl refl
  where
    pick : (d e : Bool) → eqb x 32 ≡ d → eqb y 32 ≡ e → lettered (part (x ∷ y ∷ t)) ≡ not_of_this_form
    pick true e p q = rw p
    pick false true p q =
        let first : eqb x 65 ≡ false = rw (q, and-true) at a in
        let second : eqb x 67 ≡ false = rw (q, and-true) at c in
        rw (p, q, first, second)
    pick false false p q = rw (p, q) (long_word x y (part t))

-- so it is not of this form, where it does not ask for the total
pub message_none : (line : List ℕ) → starts_with line (65 ∷ 32 ∷ []) ≡ false → starts_with line (67 ∷ 32 ∷ []) ≡ false → is_asking line ≡ false
    → message_of line ≡ not_of_this_form
unfolding message_of
message_none line a c n = rw n (none_lettered line a c)

-- ---- the text of a message is the rest of its line

-- a text that a line ends with
pub record Ends (text line : List ℕ) : Type 0 where
  pub fits : length text ≤ length line
  pub rest : text ≡ drop (length line - length text) line

-- by the position where it starts
ends_from : (at : ℕ) {text line : List ℕ} → length text + at ≡ length line → text ≡ drop at line → Ends text line
ends_from at {text} {line} h e =
    let start : at ≡ length line - length text = omega (arith, h) in
    record { fits = omega (arith, h); rest = e ∙ ap (λ (k : ℕ). drop k line) start }

-- a line that is longer in front, and the end of an end
ends_longer : (b : ℕ) {text line : List ℕ} → Ends text line → Ends text (b ∷ line)
ends_longer b {text} {line} so = ends_from (suc (length line - length text)) (omega (arith, so.fits)) so.rest

ends_twice : {text rest line : List ℕ} → Ends text rest → Ends rest line → Ends text line
ends_twice {text} {rest} {line} a b =
    let i : ℕ = length rest - length text in
    let j : ℕ = length line - length rest in
    ends_from (j + i) (omega (arith, a.fits, b.fits)) (a.rest ∙ ap (drop i) b.rest ∙ drop-drop i j line)

-- what follows the first space of a text ends it
abbrev EndsWith : List ℕ → Parted → Type 0
EndsWith text (parted word rest) = Ends rest text
EndsWith text unparted = Unit {0}

part_ends : (text : List ℕ) → EndsWith text (part text)
unfolding part
part_ends [] = tt
part_ends (x ∷ text) = pick (part text) (part_ends text) (eqb x 32)
  where
    pick : (p : Parted) → EndsWith text p → (e : Bool) → EndsWith (x ∷ text) (cond e (parted [] text) (led x p))
    pick p so true = ends_from 1 (omega arith) refl
    pick (parted word rest) so false = ends_longer x so
    pick unparted so false = tt

-- and so does the text of a line's message
abbrev pub EndsIn : List ℕ → Message → Type 0
EndsIn line (message letter number text) = Ends text line
EndsIn line asks_total = Unit {0}
EndsIn line not_of_this_form = Unit {0}

numbered_ends : (letter : ℕ) (line rest : List ℕ) → Ends rest line → EndsIn line (numbered letter (part rest))
numbered_ends letter line rest so = of (part rest) (part_ends rest)
  where
    of : (p : Parted) → EndsWith rest p → EndsIn line (numbered letter p)
    of (parted word text) e = pick (is_long word)
      where
        pick : (b : Bool) → EndsIn line (cond b (message letter (value word) text) not_of_this_form)
        pick true = ends_twice e so
        pick false = tt
    of unparted e = tt

pub text_ends : (line : List ℕ) → EndsIn line (message_of line)
unfolding message_of
text_ends line = either (is_asking line)
  where
    of : (p : Parted) → EndsWith line p → EndsIn line (lettered p)
    of (parted [] rest) so = tt
    of (parted (b ∷ []) rest) so = pick (is_letter b)
      where
        pick : (e : Bool) → EndsIn line (cond e (numbered b (part rest)) not_of_this_form)
        pick true = numbered_ends b line rest so
        pick false = tt
    of (parted (b ∷ x ∷ word) rest) so = tt
    of unparted so = tt

    either : (e : Bool) → EndsIn line (cond e asks_total (lettered (part line)))
    either true = tt
    either false = of (part line) (part_ends line)

-- ---- examples

long_numbers : map is_long (bytes "0" ∷ bytes "17" ∷ bytes "18446744073709551615" ∷ []) ≡ replicate 3 true
unfolding is_within value_after
long_numbers = refl

no_long_numbers : map is_long (bytes "" ∷ bytes "00" ∷ bytes "017" ∷ bytes "18446744073709551616" ∷ bytes "100000000000000000000" ∷ bytes "1x" ∷ [])
    ≡ replicate 6 false
unfolding is_within value_after
no_long_numbers = refl

messages : map message_of (bytes "A 17 XY" ∷ bytes "C 0 " ∷ bytes "A 1 X Y" ∷ bytes "T" ∷ [])
    ≡ message 65 17 (bytes "XY") ∷ message 67 0 [] ∷ message 65 1 (bytes "X Y") ∷ asks_total ∷ []
unfolding message_of part is_within value_after
messages = refl

no_messages : map message_of
    (bytes "" ∷ bytes "A" ∷ bytes "A 17" ∷ bytes "A  17 XY" ∷ bytes "B 17 XY" ∷ bytes "AC 17 XY" ∷ bytes " A 17 XY" ∷ bytes "T " ∷ bytes "TT" ∷ bytes "t" ∷ [])
    ≡ replicate 10 not_of_this_form
unfolding message_of part is_within value_after
no_messages = refl
