-- The laws of the unit that a line states: what the words after its kind say, that all coordinates are held, and what is said of it.
-- Assumes nothing.
use Rattle.std.specs.Prelude.{Some, None, ℕ, suc, ◌+◌, ◌*◌, ◌≤◌, ◌<◌, refl, Bool, cond, ◌&&◌, length, take, drop, get_or, eqb}
use Rattle.std.proofs.Common.{arith, sym, ◌∙◌}
use Rattle.std.proofs.Math.Path.{◌≡◌, ap}
use Rattle.std.proofs.Math.Bool.{true, false, and-true}
use mathlib.Core.List.{List, [], ◌∷◌, map}
use Rattle.std.proofs.Math.ListN.{length-map}
use borrow.Author.Tests.{eqb-true}
use Rattle.facts.specs.Tests.{both}
use Rattle.facts.specs.Lists.{every}
use Rattle.room.specs.Room.{put_at}
use Rattle.room.specs.RoomLaws.{length_put, put_held}
use Rattle.lines.specs.Lines.{Form, unit, not_of_this_form, form_said, Coding, refused, longest, line_said, is_kind, is_within, is_number, value, cut, longer, form, form_of}
use Rattle.lines.specs.LinesLaws.{said_form}
use Rattle.lines.specs.Starts.{starts_with}
use Rattle.numbers.specs.Numbers.{word, number_at, count_in, leading, leading_in}
use Rattle.numbers.specs.NumbersLaws.{words_after, cut_word, cut_found, found, missed}
use Rattle.stated.specs.declared.Unit.{Unit}
use Rattle.stated.specs.Stated.{unit_said, coordinates_of, coordinates_in, unit_after, coordinates_after}

-- ---- a line after a kind and a space

-- what a count says of the words
all_numbers : (b : Bool) (n count : ℕ) → cond b (Some n) None ≡ Some count → (b ≡ true) × (count ≡ n)
all_numbers true n count e = (refl, (cc))
all_numbers false n count e = let z : ◌≡◌ {A = ℕ} 0 1 = cc in absurd (omega arith)

not_all_numbers : (b : Bool) (n : ℕ) → cond b (Some n) None ≡ None → b ≡ false
not_all_numbers true n e = let z : ◌≡◌ {A = ℕ} 0 1 = cc in absurd (omega arith)
not_all_numbers false n e = refl

-- at a word that is no number, at a number before a word that is none, at a number before numbers alone
module _ (kind : ℕ) (line : List ℕ) (known : is_kind (kind ∷ []) ≡ true) where
  pub unit_no_number : number_at line 2 ≡ None → (unit_after kind line ≡ None) × (coordinates_after kind line ≡ [])
  unfolding unit_after coordinates_after
  unit_no_number m = rw (cut_word (drop 2 line), known, missed line 2 m) (refl, refl)

  module _ (n end : ℕ) (at : number_at line 2 ≡ Some (n, end)) where
    pub unit_coordinates : coordinates_after kind line ≡ leading_in (drop end line)
    unfolding coordinates_after leading_in
    unit_coordinates = rw (cut_found line 2 n end at, cut_word (drop 2 line), known, (found line 2 n end at).number)

    pub unit_no_coordinate : count_in (drop end line) ≡ None → unit_after kind line ≡ None
    unfolding unit_after count_in
    unit_no_coordinate m =
        let words : List (List ℕ) = words_after (drop 2 line) in
        let none = not_all_numbers (every is_number words) (length words) (rw (cut_found line 2 n end at) at m) in
        rw (cut_word (drop 2 line), known, (found line 2 n end at).number, none)

    pub unit_stated : (count : ℕ) → count_in (drop end line) ≡ Some count → unit_after kind line ≡ Some (record { letter = kind; number = n; count = count })
    unfolding unit_after count_in
    unit_stated count m =
        let words : List (List ℕ) = words_after (drop 2 line) in
        let all = all_numbers (every is_number words) (length words) count (rw (cut_found line 2 n end at) at m) in
        let seen = found line 2 n end at in
        rw (cut_word (drop 2 line), known, seen.number, all.0, length-map words value, ← all.1, ← seen.its)

-- ---- a line that starts with a kind and a space, and one that does not

module _ (kind : ℕ) (apart : eqb kind 32 ≡ false) where
  starts_cut : (line : List ℕ) → starts_with line (kind ∷ 32 ∷ []) ≡ true → cut 32 line ≡ (kind ∷ []) ∷ cut 32 (drop 2 line)
  unfolding starts_with cut
  starts_cut [] e = let z : ◌≡◌ {A = ℕ} 0 1 = cc in absurd (omega arith)
  starts_cut (b ∷ []) e = let z : ◌≡◌ {A = ℕ} 0 1 = cc (both (eqb b kind) false e).1 in absurd (omega arith)
  starts_cut (b ∷ x ∷ t) e =
      let first = both (eqb b kind) (eqb x 32 && true) e in
      let second = both (eqb x 32) true first.1 in
      rw (eqb-true b kind first.0, eqb-true x 32 second.0, apart)

  pub unit_starts : (line : List ℕ) → starts_with line (kind ∷ 32 ∷ []) ≡ true → unit_said (form line) ≡ unit_after kind line
  unfolding form unit_after
  unit_starts line e = ap (λ (pieces : List (List ℕ)). unit_said (form_of pieces)) (starts_cut line e)

  pub coordinates_start : (line : List ℕ) → starts_with line (kind ∷ 32 ∷ []) ≡ true → coordinates_in line ≡ coordinates_after kind line
  unfolding coordinates_in coordinates_after
  coordinates_start line e = ap coordinates_of (starts_cut line e)

-- words that state no unit
abbrev NoUnit : List (List ℕ) → Type 0
NoUnit words = (unit_said (form_of words) ≡ None) × (coordinates_of words ≡ [])

-- words whose first is no kind
no_kind : (kind : List ℕ) (words : List (List ℕ)) → is_kind kind ≡ false → NoUnit (kind ∷ words)
no_kind kind [] h = (refl, refl)
no_kind kind (number ∷ words) h = rw h (refl, refl)

-- a byte before a space that is not the one that a line does not start with
other_kind : (x y kind : ℕ) (t : List ℕ) → starts_with (x ∷ y ∷ t) (kind ∷ 32 ∷ []) ≡ false → eqb y 32 ≡ true → eqb x kind ≡ false
unfolding starts_with
other_kind x y kind t n e = rw (e, and-true) at n

no_unit : (line : List ℕ) → starts_with line (66 ∷ 32 ∷ []) ≡ false → starts_with line (70 ∷ 32 ∷ []) ≡ false → NoUnit (cut 32 line)
unfolding cut
no_unit [] b f = (refl, refl)
no_unit (x ∷ []) b f = pick (eqb x 32) refl
  where
    pick : (e : Bool) → eqb x 32 ≡ e → NoUnit (cut 32 (x ∷ []))
    pick true e = rw e (refl, refl)
    pick false e = rw e (refl, refl)
no_unit (x ∷ y ∷ t) b f = pick (eqb x 32) (eqb y 32) refl refl
  where
    pick : (d e : Bool) → eqb x 32 ≡ d → eqb y 32 ≡ e → NoUnit (cut 32 (x ∷ y ∷ t))
    pick true e p q = rw p (no_kind [] (cut 32 (y ∷ t)) refl)
    pick false true p q = rw (p, q) (no_kind (x ∷ []) (cut 32 t) (rw (other_kind x y 66 t b q, other_kind x y 70 t f q)))
    pick false false p q = rw (p, q, cut_word t) (no_kind (x ∷ y ∷ word t) (words_after t) refl)

pub unit_none : (line : List ℕ) → starts_with line (66 ∷ 32 ∷ []) ≡ false → starts_with line (70 ∷ 32 ∷ []) ≡ false
    → (unit_said (form line) ≡ None) × (coordinates_in line ≡ [])
unfolding form coordinates_in
unit_none line b f = no_unit line b f

-- ---- a line that states a unit

-- numbers alone lead to the end
leading_all : (words : List (List ℕ)) → every is_number words ≡ true → leading words ≡ map value words
unfolding leading
leading_all [] h = refl
leading_all (w ∷ words) h =
    let first = both (is_number w) (every is_number words) h in
    rw first.0 (ap (λ (vs : List ℕ). value w ∷ vs) (leading_all words first.1))

-- how much of a text its pieces take, each with the byte after it
spread : List (List ℕ) → ℕ
spread [] = 0
spread (p ∷ ps) = length p + 1 + spread ps

cut_spread : (text : List ℕ) → spread (cut 32 text) ≡ length text + 1
unfolding cut spread
cut_spread [] = refl
cut_spread (x ∷ text) = pick (cut_spread text) (eqb x 32) refl
  where
    one : (ps : List (List ℕ)) → spread ps ≡ length text + 1 → spread (longer x ps) ≡ suc (length text) + 1
    one [] h = absurd (omega (arith, h))
    one (p ∷ ps) h = omega (arith, h)

    pick : spread (cut 32 text) ≡ length text + 1 → (e : Bool) → eqb x 32 ≡ e → spread (cut 32 (x ∷ text)) ≡ length (x ∷ text) + 1
    pick h true e = rw e (omega (arith, h))
    pick h false e = rw e (one (cut 32 text) h)

-- a number has a digit
numbers_spread : (words : List (List ℕ)) → every is_number words ≡ true → 2 * length words ≤ spread words
unfolding is_within spread
numbers_spread [] h = omega arith
numbers_spread ([] ∷ words) h = let z : ◌≡◌ {A = ℕ} 0 1 = cc in absurd (omega arith)
numbers_spread ((b ∷ w) ∷ words) h = omega (arith, numbers_spread words (both (is_number (b ∷ w)) (every is_number words) h).1)

-- the unit that words state
record States (words : List (List ℕ)) (u : Unit) : Type 0 where
  pub says : form_of words ≡ unit u.letter u.number (coordinates_of words)
  pub counts : length (coordinates_of words) ≡ u.count
  pub few : 2 * u.count < spread words

states : (words : List (List ℕ)) (u : Unit) → unit_said (form_of words) ≡ Some u → States words u
unfolding spread
states [] u e = let z : ◌≡◌ {A = ℕ} 0 1 = cc in absurd (omega arith)
states (k ∷ []) u e = let z : ◌≡◌ {A = ℕ} 0 1 = cc in absurd (omega arith)
states (k ∷ n ∷ words) u e = pick (is_kind k) (is_number n) (every is_number words) refl refl refl e
  where
    its : Form
    its = unit (get_or k 0 0) (value n) (map value words)

    pick : (a b c : Bool) → is_kind k ≡ a → is_number n ≡ b → every is_number words ≡ c
        → unit_said (cond (a && (b && c)) its not_of_this_form) ≡ Some u → States (k ∷ n ∷ words) u
    pick true true true p q r e =
        let all : leading words ≡ map value words = leading_all words r in
        let same : ◌≡◌ {A = Unit} (record { letter = get_or k 0 0; number = value n; count = length (map value words) }) u = cc in
        let count : length (map value words) ≡ u.count = ap (λ (v : Unit). v.count) same in
        record {
          says = rw (p, q, r, all) (ap (λ (v : Unit). unit v.letter v.number (map value words)) same);
          counts = rw (p, q, all) count;
          few = omega (arith, numbers_spread words r, length-map words value, count);
        }
    pick true true false p q r e = let z : ◌≡◌ {A = ℕ} 0 1 = cc in absurd (omega arith)
    pick true false c p q r e = let z : ◌≡◌ {A = ℕ} 0 1 = cc in absurd (omega arith)
    pick false b c p q r e = let z : ◌≡◌ {A = ℕ} 0 1 = cc in absurd (omega arith)

module _ (line : List ℕ) {u : Unit} (e : unit_said (form line) ≡ Some u) where
  -- the unit that a line states, with its coordinates; each takes a space and a digit of the line
  pub stated : (form line ≡ unit u.letter u.number (coordinates_in line)) × (length (coordinates_in line) ≡ u.count) × (2 * u.count ≤ length line)
  unfolding form coordinates_in
  stated =
      let so = states (cut 32 line) u e in
      (so.says, so.counts, omega (arith, so.few, cut_spread line))

  -- in a room for half as many numbers as a line may have bytes, all coordinates are held
  pub unit_held : (room later : List ℕ) → length line ≤ longest → longest ≤ 2 * length room → later ≡ put_at room 0 (coordinates_in line)
      → (u.count ≤ length later) × (take u.count later ≡ coordinates_in line)
  unit_held room later h k p =
      let so = stated in
      let fits : length (coordinates_in line) ≤ length room = omega (arith, so.1, so.2) in
      let same : length later ≡ length room = ap length p ∙ length_put room 0 (coordinates_in line) in (
        omega (arith, so.2),
        ap (λ (n : ℕ). take n later) (sym so.1) ∙ ap (take (length (coordinates_in line))) p ∙ put_held room (coordinates_in line) fits,
      )

-- ---- what is said of a line that is not too long: one not of this form, one that states a unit

module _ (coding : Coding) (line : List ℕ) (h : length line ≤ longest) where
  pub said_bad : unit_said (form line) ≡ None → line_said coding line ≡ refused 9 0
  said_bad e = said_form coding line h ∙ bad (form line) e
    where
      bad : (f : Form) → unit_said f ≡ None → form_said coding f ≡ refused 9 0
      bad (unit kind number coordinates) e = let z : ◌≡◌ {A = ℕ} 0 1 = cc in absurd (omega arith)
      bad not_of_this_form e = refl

  pub said_unit : {u : Unit} → unit_said (form line) ≡ Some u → line_said coding line ≡ coding u.letter u.number (coordinates_in line)
  said_unit e = said_form coding line h ∙ ap (form_said coding) (stated line e).0
