-- The laws of the journal page: a record is 31 bytes; what writing answers and leaves, and what is found, case by case. Assumes nothing.
use Rattle.std.specs.Prelude.{ℕ, ◌+◌, ◌-◌, ◌%◌, ◌^◌, ◌≤◌, ◌<◌, ◌≡◌, Bool, not, ◌&&◌, ◌||◌, eqb, length, get_or, take, drop, Option, Some, None, Ok, Err}
use Rattle.std.proofs.Common.{add-one, arith, ap, ap₂, sym, ◌∙◌, subst, true≢false, length-append, length-take, length-drop, drop_of_length-le, take_all, drop-cons}
use Rattle.std.proofs.Math.Path.{refl}
use Rattle.std.proofs.Math.Bool.{true, false, cond, or-true}
use mathlib.Core.List.{List, [], ◌∷◌, ◌++◌, append-nil}
use Rattle.std.proofs.Math.Dec.{ltb}
use borrow.Author.Rules.{part_to_end}
use borrow.Rule.Slice.PartMut.{put_mid}
use borrow.Author.Tests.{eq-eqb, ne_eqb, eqb-true, eqb-false, lt-ltb, le-ltb, ltb-false, not-false}
use Rattle.facts.specs.Texts.{same_text}
use Rattle.std.specs.Cmp.Lexicographic.{pointwise}
use Rattle.facts.specs.Tests.{neither}
use Rattle.replies.specs.Replies.{Said, check, run, Outcome}
use Rattle.letters.specs.Alphabet.{first_other}
use Rattle.letters.specs.Letters.{letters, spelled_in, number_in}
use Rattle.letters.specs.Words.{Word, first_word, word_number}
use Rattle.halves.specs.declared.Halves.{Halves}
use Rattle.halves.specs.Halves.{halves_in, readable, code_in}
use Rattle.halves.specs.HalvesLaws.{readable_code, code_refused, code_read}
use Rattle.entitlements.specs.declared.Kind.{Kind}
use Rattle.entitlements.specs.declared.Kind.TheVariants.{Activate, Cancel}
use Rattle.entitlements.specs.Entitlements.{largest, letter_of, kind_of}
use Rattle.room.specs.Room.{Put}
use Rattle.room.specs.RoomLaws.{put_first}
use Rattle.page.specs.declared.RecordError.TheVariants as write
use Rattle.page.specs.declared.Record.{Record}
use Rattle.page.specs.declared.LookError.TheVariants as look
use Rattle.page.specs.Page.{Written, Found, record_length, record_of, letter_in, code_of, number_text, stretch_at, write_checks, outcome_by, writing, writing_at, leaves, mark_wrong, is_kind, number_wrong, content_wrong, record_by, record_in, found_in, look_at, code_at}
use Rattle.page.specs.Told.{number_of, content_with}
use Rattle.page.specs.Known.{same_as, code_by, with_code, found_with, look_with}

-- ---- a record

-- is 31 bytes
pub record_length_lem : (kind : Kind) (text : List ℕ) (number : ℕ) → length text ≡ 20 → length (record_of kind text number) ≡ record_length
unfolding record_of
record_length_lem kind text number e = omega (arith, length-append text (spelled_in letters 8 number))

-- ---- writing, case by case

module _ (kind : Kind) (text : List ℕ) (number : ℕ) (stretch : List ℕ) where
  -- 41: the number is 0, or too large
  pub writing_zero : number ≡ 0 → writing kind text number stretch ≡ leaves (Err write.Number) stretch
  unfolding writing write_checks
  writing_zero e = rw (eq-eqb number 0 e)

  pub writing_large : largest < number → writing kind text number stretch ≡ leaves (Err write.Number) stretch
  unfolding writing write_checks
  writing_large h = rw (lt-ltb largest number h, or-true)

  module _ (some : number ≡ 0 → ⊥) (most : number ≤ largest) where
    -- 42: the text is no code
    pub writing_refused : code_in text ≡ None → writing kind text number stretch ≡ leaves (Err write.Code) stretch
    unfolding writing write_checks
    writing_refused e = rw (ne_eqb number 0 some, le-ltb largest number most, code_refused text e)

    module _ {code : Halves} (read : code_in text ≡ Some code) where
      -- 51: fewer than 31 bytes
      pub writing_short : length stretch < record_length → writing kind text number stretch ≡ leaves (Err write.Short) stretch
      unfolding writing write_checks
      writing_short h = rw (ne_eqb number 0 some, le-ltb largest number most, (code_read text read).0, lt-ltb (length stretch) record_length h)

      -- and the record where there are 31
      writing_whole : record_length ≤ length stretch
          → writing kind text number stretch ≡ leaves (Ok tt) (record_of kind text number ++ drop record_length stretch)
      unfolding writing write_checks
      writing_whole h = rw (ne_eqb number 0 some, le-ltb largest number most, (code_read text read).0, le-ltb (length stretch) record_length h)

      -- which is what is put at its start
      pub writing_put : length text ≡ 20 → record_length ≤ length stretch → {end : ℕ} {later : List ℕ}
          → Put stretch 0 (record_of kind text number) end later → writing kind text number stretch ≡ leaves (Ok tt) later
      writing_put twenty h p =
          let long = record_length_lem kind text number twenty in
          writing_whole h
          ∙ ap (leaves (Ok tt))
          (sym (p.holds ∙ put_first stretch (record_of kind text number) (omega (arith, long, h)) ∙ ap (λ (n : ℕ). record_of kind text number ++ drop n stretch) long))

-- A code has twenty letters
pub code_twenty : (text : List ℕ) → readable text ≡ true → length text ≡ 20
code_twenty text e = sym (ap length (readable_code text e).1)

module _ (page : List ℕ) (offset : ℕ) (kind : Kind) (text : List ℕ) (number : ℕ) where
  -- an empty stretch stays empty, whatever is said
  writing_empty : (writing kind text number []).room ≡ []
  unfolding writing write_checks
  writing_empty = at (eqb number 0 || ltb largest number) (readable text)
    where
      at : (n r : Bool)
          → cond (eqb (run (check 41 n ∷ check 42 (not r) ∷ check 51 true ∷ [])).number 0) (record_of kind text number ++ []) [] ≡ []
      at true r = refl
      at false true = refl
      at false false = refl

  -- At an offset past the end the page stays as it was
  pub writing_past : length page < offset → (answer : Written) {part : List ℕ} → leaves answer part ≡ writing kind text number []
      → leaves answer (part ++ page) ≡ writing_at page offset kind text number
  writing_past h answer {part} e =
      let none : part ≡ [] = ap (λ (o : Outcome). o.room) e ∙ writing_empty in
      let stretch : stretch_at page offset ≡ [] = drop_of_length-le page {i = offset} (omega arith) in
      let same : take offset page ++ (writing kind text number (stretch_at page offset)).room ≡ page =
      ap (λ (s : List ℕ). take offset page ++ (writing kind text number s).room) stretch
      ∙ ap (λ (s : List ℕ). take offset page ++ s) writing_empty
      ∙ append-nil (take offset page)
      ∙ take_all offset page (omega arith) in
      ap (λ (p : List ℕ). leaves answer (p ++ page)) none
      ∙ ap₂ outcome_by (ap (λ (o : Outcome). o.said) e ∙ ap (λ (s : List ℕ). (writing kind text number s).said) (sym stretch)) (sym same)

  -- and before it only the stretch changes
  pub writing_within : (answer : Written) {part : List ℕ} → leaves answer part ≡ writing kind text number (take (length page - offset) (drop offset page))
      → leaves answer (put_mid offset (length page - offset) page part) ≡ writing_at page offset kind text number
  writing_within answer {part} e =
      let all = part_to_end page offset in
      let none : drop (length page - offset) (drop offset page) ≡ [] = drop_of_length-le (drop offset page) {i = length page - offset} (omega (arith, length-drop offset page)) in
      let same = e ∙ ap (writing kind text number) all in
      ap (λ (s : List ℕ). leaves answer (take offset page ++ (part ++ s))) none
      ∙ ap (λ (s : List ℕ). leaves answer (take offset page ++ s)) (append-nil part)
      ∙ ap₂ (λ (said : Said) (room : List ℕ). outcome_by said (take offset page ++ room)) (ap (λ (o : Outcome). o.said) same) (ap (λ (o : Outcome). o.room) same)

-- ---- the number of a record

module _ (text : List ℕ) where
  pub number_other : first_other letters text < length text → number_of text ≡ 0
  number_other h = rw (lt-ltb (first_other letters text) (length text) h)

  pub number_all : length text ≤ first_other letters text → number_of text ≡ number_in letters text % 2 ^ 60
  number_all h = rw (le-ltb (first_other letters text) (length text) h)

  -- Of eight bytes it is 0 exactly where the number is wrong, and else the number
  module _ (eight : length text ≡ 8) where
    whole : length text ≤ first_other letters text → number_in letters text % 2 ^ 60 ≡ number_in letters text
    whole h =
        let word : Word letters text = first_word text h in
        let below : number_in letters text < 32 ^ 8 = subst (λ (n : ℕ). number_in letters text < 32 ^ n) eight (word_number refl word) in
        omega (arith, below)

    pub number_none : number_of text ≡ 0 → number_wrong text ≡ true
    number_none e = at (ltb (first_other letters text) (length text)) refl e
      where
        at : (b : Bool) → ltb (first_other letters text) (length text) ≡ b → cond b 0 (number_in letters text % 2 ^ 60) ≡ 0
            → (b || eqb (number_in letters text) 0) ≡ true
        at true k e = refl
        at false k e = eq-eqb (number_in letters text) 0 (sym (whole (ltb-false (first_other letters text) (length text) k)) ∙ e)

    pub number_some : (number_of text ≡ 0 → ⊥) → (number_wrong text ≡ false) × (number_of text ≡ number_in letters text)
    number_some n = at (ltb (first_other letters text) (length text)) refl n
      where
        at : (b : Bool) → ltb (first_other letters text) (length text) ≡ b → (cond b 0 (number_in letters text % 2 ^ 60) ≡ 0 → ⊥)
            → ((b || eqb (number_in letters text) 0) ≡ false) × (cond b 0 (number_in letters text % 2 ^ 60) ≡ number_in letters text)
        at true k n = absurd (n refl)
        at false k n =
            let same = whole (ltb-false (first_other letters text) (length text) k) in
            (ne_eqb (number_in letters text) 0 (λ e. n (same ∙ e)), same)

-- ---- what a record of a kind holds, however its code is read

-- There are eight bytes of a number in a stretch that has a record's bytes
pub eight_bytes : (stretch : List ℕ) → record_length ≤ length stretch → length (number_text stretch) ≡ 8
eight_bytes stretch h = omega (arith, length-take 8 (drop 23 stretch), length-drop 23 stretch)

module _ (reads : List ℕ → Option Halves) (kind : Kind) (stretch : List ℕ) (h : record_length ≤ length stretch) where
  pub content_none : number_of (number_text stretch) ≡ 0 → content_with reads kind stretch ≡ Err look.Content
  content_none e = rw (number_none (number_text stretch) (eight_bytes stretch h) e)

  module _ (n : number_of (number_text stretch) ≡ 0 → ⊥) where
    numbered : content_with reads kind stretch ≡ with_code kind (number_of (number_text stretch)) (reads (code_of stretch))
    numbered =
        let some = number_some (number_text stretch) (eight_bytes stretch h) n in
        rw some.0 (ap (λ (number : ℕ). with_code kind number (reads (code_of stretch))) (sym some.1))

    pub content_refused : reads (code_of stretch) ≡ None → content_with reads kind stretch ≡ Err look.Content
    content_refused e = numbered ∙ ap (with_code kind (number_of (number_text stretch))) e

    pub content_read : {code : Halves} → reads (code_of stretch) ≡ Some code
        → content_with reads kind stretch ≡ Ok (Some (record_by kind code (number_of (number_text stretch))))
    content_read e = numbered ∙ ap (with_code kind (number_of (number_text stretch))) e

-- ---- what is found in a stretch

-- The first two bytes are the mark, or one of them is not
mark_two : (stretch : List ℕ) → record_length ≤ length stretch
    → mark_wrong stretch ≡ not (eqb (get_or stretch 0 0) 42 && (eqb (get_or stretch 1 0) 43 && true))
mark_two [] h = let none : ⊥ = omega arith in absurd none
mark_two (a ∷ []) h = let none : ⊥ = omega arith in absurd none
mark_two (a ∷ b ∷ stretch) h = refl

module _ (reads : List ℕ → Option Halves) (stretch : List ℕ) where
  pub found_cut : length stretch < record_length → found_with reads stretch ≡ Err look.Cut
  unfolding found_with
  found_cut h = rw (lt-ltb (length stretch) record_length h)

  module _ (h : record_length ≤ length stretch) where
    pub found_unmarked : mark_wrong stretch ≡ true → found_with reads stretch ≡ Err look.Mark
    unfolding found_with
    found_unmarked m = rw (le-ltb (length stretch) record_length h, m)

    -- since its first byte is another, or its second
    pub found_first : (get_or stretch 0 0 ≡ 42 → ⊥) → found_with reads stretch ≡ Err look.Mark
    found_first n = found_unmarked (mark_two stretch h ∙ rw (ne_eqb (get_or stretch 0 0) 42 n) refl)

    pub found_second : get_or stretch 0 0 ≡ 42 → (get_or stretch 1 0 ≡ 43 → ⊥) → found_with reads stretch ≡ Err look.Mark
    found_second first n =
        found_unmarked (mark_two stretch h ∙ rw (eq-eqb (get_or stretch 0 0) 42 first, ne_eqb (get_or stretch 1 0) 43 n) refl)

    module _ (m : mark_wrong stretch ≡ false) where
      -- what follows the mark, by the letter of the kind
      abbrev marked : ℕ → Found
      marked letter =
          cond (not (is_kind letter) || number_wrong (number_text stretch)) (Err look.Content)
          (with_code (kind_of letter) (number_in letters (number_text stretch)) (reads (code_of stretch)))

      found_marked : found_with reads stretch ≡ marked (get_or stretch 2 0)
      unfolding found_with
      found_marked = rw (le-ltb (length stretch) record_length h, m)

      pub found_kind : (kind : Kind) → get_or stretch 2 0 ≡ letter_of kind → found_with reads stretch ≡ content_with reads kind stretch
      found_kind kind e = found_marked ∙ ap marked e ∙ of kind
        where
          of : (kind : Kind) → marked (letter_of kind) ≡ content_with reads kind stretch
          of Activate = refl
          of Cancel = refl

      pub found_other : (get_or stretch 2 0 ≡ letter_of Activate → ⊥) → (get_or stretch 2 0 ≡ letter_of Cancel → ⊥)
          → found_with reads stretch ≡ Err look.Content
      found_other a c = found_marked ∙ rw (ne_eqb (get_or stretch 2 0) 65 a, ne_eqb (get_or stretch 2 0) 67 c)

-- ---- what is found at an offset

module _ (reads : List ℕ → Option Halves) (page : List ℕ) (offset : ℕ) where
  pub look_end : offset ≡ length page → look_with reads page offset ≡ Ok None
  unfolding look_with
  look_end e = rw (eq-eqb offset (length page) e)

  pub look_in : (offset ≡ length page → ⊥) → look_with reads page offset ≡ found_with reads (stretch_at page offset)
  unfolding look_with
  look_in n = rw (ne_eqb offset (length page) n)

  pub look_past : length page < offset → look_with reads page offset ≡ Err look.Cut
  look_past h =
      look_in (λ e. omega (arith, e, h)) ∙ found_cut reads (stretch_at page offset) (omega (arith, length-drop offset page))

-- ---- where what is known is true, it is what reading says

-- what is found by reading
found_reading : (stretch : List ℕ) → found_with code_in stretch ≡ found_in stretch
unfolding found_with found_in code_in
found_reading stretch =
    ap (λ (f : Found). cond (ltb (length stretch) record_length) (Err look.Cut) (cond (mark_wrong stretch) (Err look.Mark) f))
    (of (is_kind (letter_in stretch)) (readable (code_of stretch)) (number_wrong (number_text stretch)))
  where
    of : (k r n : Bool)
        → cond (not k || n) (Err look.Content)
        (with_code (kind_of (letter_in stretch)) (number_in letters (number_text stretch)) (cond r (Some (halves_in (code_of stretch))) None))
        ≡ cond (not k || (not r || n)) (Err look.Content) (Ok (Some (record_in stretch)))
    of true true true = refl
    of true true false = refl
    of true false true = refl
    of true false false = refl
    of false r n = refl

-- The same text is read alike
pub same_text_lem : (a b : List ℕ) → same_text a b ≡ true → a ≡ b
same_text_lem [] [] e = refl
same_text_lem [] (y ∷ b) e = absurd (true≢false (sym e))
same_text_lem (x ∷ a) [] e = absurd (true≢false (sym e))
same_text_lem (x ∷ a) (y ∷ b) e = at (eqb x y) refl e (same_text_lem a b)
  where
    at : (t : Bool) → eqb x y ≡ t → (t && same_text a b) ≡ true → (same_text a b ≡ true → a ≡ b) → (x ∷ a) ≡ (y ∷ b)
    at true k f later = ap₂ ◌∷◌ (eqb-true x y k) (later f)
    at false k f later = absurd (true≢false (sym f))

-- A text that is the same as the earlier one, and another
module _ (earlier : List ℕ) (known : Halves) (text : List ℕ) where
  pub known_same : same_as earlier text ≡ true → code_by earlier known text ≡ Some known
  unfolding code_by
  known_same e = rw e

  pub known_other : same_as earlier text ≡ false → code_by earlier known text ≡ code_in text
  unfolding code_by
  known_other e = rw e

-- Nothing is known by an empty text
pub nothing_known : (known : Halves) (text : List ℕ) → code_by [] known text ≡ code_in text
unfolding code_by
nothing_known known text = refl

-- and what is known of a text that was read is what reading the same says
pub known_read : (earlier : List ℕ) (known : Halves) → code_in earlier ≡ Some known → (text : List ℕ) → code_by earlier known text ≡ code_in text
unfolding code_by
known_read earlier known e text = at (eqb (length earlier) 20) (same_text earlier text) refl
  where
    at : (l b : Bool) → same_text earlier text ≡ b → cond (l && b) (Some known) (code_in text) ≡ code_in text
    at true true k = sym e ∙ ap code_in (same_text_lem earlier text k)
    at true false k = refl
    at false b k = refl

-- So the same is found
pub look_known : (reads : List ℕ → Option Halves) → ((text : List ℕ) → reads text ≡ code_in text) → (page : List ℕ) (offset : ℕ)
    → look_with reads page offset ≡ look_at page offset
unfolding look_with look_at found_with
look_known reads same page offset =
    let stretch : List ℕ = stretch_at page offset in
    ap (λ (c : Option Halves). cond (eqb offset (length page)) (Ok None)
    (cond (ltb (length stretch) record_length) (Err look.Cut)
    (cond (mark_wrong stretch) (Err look.Mark)
    (cond (not (is_kind (letter_in stretch)) || number_wrong (number_text stretch)) (Err look.Content)
    (with_code (kind_of (letter_in stretch)) (number_in letters (number_text stretch)) c)))))
    (same (code_of stretch))
    ∙ ap (cond (eqb offset (length page)) (Ok None)) (found_reading stretch)

-- ---- two texts of twenty bytes, byte by byte

module _ (earlier text : List ℕ) where
  -- texts of other lengths are not the same
  pub same_first : (length earlier ≡ 20 → ⊥) → same_as earlier text ≡ false
  same_first n = rw (ne_eqb (length earlier) 20 n)

  pub same_second : length earlier ≡ 20 → (length text ≡ 20 → ⊥) → same_as earlier text ≡ false
  same_second e n = rw (eq-eqb (length earlier) 20 e) (at (same_text earlier text) refl)
    where
      at : (b : Bool) → same_text earlier text ≡ b → b ≡ false
      at true k = absurd (n (ap length (sym (same_text_lem earlier text k)) ∙ e))
      at false k = refl

  -- what is left of both from a position on answers as the whole does
  pub record Comparing (i : ℕ) : Type 0 where
    pub first : length earlier ≡ 20
    pub second : length text ≡ 20
    pub alike : same_as earlier text ≡ same_text (drop i earlier) (drop i text)

  pub comparing_begin : length earlier ≡ 20 → length text ≡ 20 → Comparing 0
  comparing_begin e k = record { first = e; second = k; alike = rw (eq-eqb (length earlier) 20 e) refl }

  module _ {i : ℕ} (so : Comparing i) where
    module _ (h : i < 20) where
      within : (i < length earlier) × (i < length text)
      within = (omega (arith, h, so.first), omega (arith, h, so.second))

      -- two bytes that differ, and one byte in both
      pub comparing_other : (get_or earlier i 0 ≡ get_or text i 0 → ⊥) → same_as earlier text ≡ false
      comparing_other n =
          so.alike ∙ rw (drop-cons earlier i 0 within.0, drop-cons text i 0 within.1, ne_eqb (get_or earlier i 0) (get_or text i 0) n) refl

      pub comparing_more : get_or earlier i 0 ≡ get_or text i 0 → Comparing (i + 1)
      comparing_more e = record {
        first = so.first;
        second = so.second;
        alike =
            so.alike
            ∙ rw (drop-cons earlier i 0 within.0, drop-cons text i 0 within.1, eq-eqb (get_or earlier i 0) (get_or text i 0) e, add-one) refl;
      }

    -- the end of both
    pub comparing_end : 20 ≤ i → same_as earlier text ≡ true
    comparing_end h =
        so.alike
        ∙ rw (drop_of_length-le earlier {i = i} (omega (arith, h, so.first)), drop_of_length-le text {i = i} (omega (arith, h, so.second))) refl

-- ---- two texts compared as slices

-- whichever comes first
pub texts_compared : (a b : List ℕ) → pointwise eqb a b ≡ same_text b a
texts_compared [] [] = refl
texts_compared [] (y ∷ b) = refl
texts_compared (x ∷ a) [] = refl
texts_compared (x ∷ a) (y ∷ b) = ap₂ ◌&&◌ (at (eqb x y) refl) (texts_compared a b)
  where
    at : (t : Bool) → eqb x y ≡ t → eqb x y ≡ eqb y x
    at true k = k ∙ sym (eq-eqb y x (sym (eqb-true x y k)))
    at false k = k ∙ sym (ne_eqb y x (λ e. eqb-false x y k (sym e)))

-- ---- where a record is found

-- Whether a record is found
abbrev pub is_record : Found → Bool
is_record (Ok (Some r)) = true
is_record (Ok None) = false
is_record (Err e) = false

-- and which
abbrev record_found : Record → Found → Record
record_found other (Ok (Some r)) = r
record_found other (Ok None) = other
record_found other (Err e) = other

-- A stretch that starts with a record
pub record Recorded (stretch : List ℕ) (r : Record) : Type 0 where
  pub long : record_length ≤ length stretch
  pub marked : mark_wrong stretch ≡ false
  pub good : content_wrong stretch ≡ false
  pub holds : record_in stretch ≡ r

-- is one in which it is found
pub found_recorded : (stretch : List ℕ) {r : Record} → found_in stretch ≡ Ok (Some r) → Recorded stretch r
unfolding found_in
found_recorded stretch {r} = at (ltb (length stretch) record_length) (mark_wrong stretch) (content_wrong stretch) refl refl refl
  where
    at : (a b c : Bool) → ltb (length stretch) record_length ≡ a → mark_wrong stretch ≡ b → content_wrong stretch ≡ c
        → cond a (Err look.Cut) (cond b (Err look.Mark) (cond c (Err look.Content) (Ok (Some (record_in stretch))))) ≡ Ok (Some r) → Recorded stretch r
    at true b c e k g f = absurd (true≢false (sym (ap is_record f)))
    at false true c e k g f = absurd (true≢false (sym (ap is_record f)))
    at false false true e k g f = absurd (true≢false (sym (ap is_record f)))
    at false false false e k g f =
        record { long = ltb-false (length stretch) record_length e; marked = k; good = g; holds = ap (record_found r) f }

-- and at an offset, in its stretch
pub look_recorded : (page : List ℕ) (offset : ℕ) {r : Record} → look_at page offset ≡ Ok (Some r) → Recorded (stretch_at page offset) r
unfolding look_at
look_recorded page offset {r} = at (eqb offset (length page))
  where
    at : (b : Bool) → cond b (Ok None) (found_in (stretch_at page offset)) ≡ Ok (Some r) → Recorded (stretch_at page offset) r
    at true f = absurd (true≢false (sym (ap is_record f)))
    at false f = found_recorded (stretch_at page offset) f

-- What is right in a stretch that starts with a record
pub record Right (stretch : List ℕ) : Type 0 where
  pub letter : letter_of (kind_of (letter_in stretch)) ≡ letter_in stretch
  pub read : readable (code_of stretch) ≡ true
  pub word : Word letters (number_text stretch)
  pub some : number_in letters (number_text stretch) ≡ 0 → ⊥
  pub most : number_in letters (number_text stretch) ≤ largest

pub recorded_right : {stretch : List ℕ} {r : Record} → Recorded stretch r → Right stretch
recorded_right {stretch} so =
    let text : List ℕ = number_text stretch in
    let first = neither (not (is_kind (letter_in stretch))) (not (readable (code_of stretch)) || number_wrong text) so.good in
    let second = neither (not (readable (code_of stretch))) (number_wrong text) first.1 in
    let third = neither (ltb (first_other letters text) (length text)) (eqb (number_in letters text) 0) second.1 in
    let word : Word letters text = first_word text (ltb-false (first_other letters text) (length text) third.0) in
    let below : number_in letters text < 32 ^ 8 =
    subst (λ (n : ℕ). number_in letters text < 32 ^ n) (eight_bytes stretch so.long) (word_number refl word) in
    record {
      letter = spelled (letter_in stretch) (eqb (letter_in stretch) 65) (eqb (letter_in stretch) 67) refl refl first.0;
      read = not-false (readable (code_of stretch)) second.0;
      word = word;
      some = eqb-false (number_in letters text) 0 third.1;
      most = omega (arith, below);
    }
  where
    spelled : (letter : ℕ) (a c : Bool) → eqb letter 65 ≡ a → eqb letter 67 ≡ c → not (a || c) ≡ false → letter_of (cond a Activate Cancel) ≡ letter
    spelled letter true c e k n = sym (eqb-true letter 65 e)
    spelled letter false true e k n = sym (eqb-true letter 67 k)
    spelled letter false false e k n = absurd (true≢false n)

-- so that 31 bytes of the page start there
pub look_within : (page : List ℕ) (offset : ℕ) {r : Record} → look_at page offset ≡ Ok (Some r) → offset + record_length ≤ length page
look_within page offset f = omega (arith, (look_recorded page offset f).long, length-drop offset page)

-- Its code is the twenty bytes from offset 3 on
pub code_found : (page : List ℕ) (offset : ℕ) {r : Record} → look_at page offset ≡ Ok (Some r)
    → take (offset + 23 - (offset + 3)) (drop (offset + 3) page) ≡ code_at page offset
code_found page offset f =
    let twenty : offset + 23 - (offset + 3) ≡ 20 = omega arith in
    ap (λ (n : ℕ). take n (drop (offset + 3) page)) twenty ∙ rw f refl
