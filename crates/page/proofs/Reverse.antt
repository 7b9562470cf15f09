-- Writing a record and reading it are each the other's reverse, and writing changes no byte beside the record. Assumes nothing.
use Rattle.std.specs.Prelude.{ℕ, ◌+◌, ◌-◌, ◌≤◌, ◌≡◌, Bool, eqb, ltb, drop, Some, Ok}
use Rattle.std.proofs.Common.{arith, sym, ◌∙◌, subst, length-drop, take-append-drop, drop_at, drop-drop, take-add, length-take-le}
use Rattle.std.proofs.Math.Path.{refl, ap, ap₂}
use Rattle.std.proofs.Math.Bool.{true, false, not}
use mathlib.Core.List.{List, [], ◌∷◌, ◌++◌, map, append_assoc}
use Rattle.std.proofs.Math.ListN.{length, take, length-append}
use Rattle.std.proofs.Math.Seq.{take_at}
use borrow.Author.Tests.{ne_eqb, eqb-true, eqb-false, le-ltb, ltb-false, not-false}
use Rattle.facts.specs.Tests.{none_of, neither}
use Rattle.facts.specs.Texts.{same_text}
use Rattle.replies.specs.Replies.{accepted, Outcome}
use Rattle.replies.specs.RepliesLaws.{Passed, passed}
use Rattle.letters.specs.Alphabet.{first_other, letter_in as letter_for}
use Rattle.letters.specs.Digits.{digits_are}
use Rattle.letters.specs.Letters.{letters, spelled_in, number_in}
use Rattle.letters.specs.Words.{Word, letters_distinct, word_first, word_back, word_values, digits_word, number_spelled}
use Rattle.halves.specs.Halves.{halves_in, readable}
use Rattle.entitlements.specs.declared.Kind.{Kind}
use Rattle.entitlements.specs.declared.Kind.TheVariants.{Activate, Cancel}
use Rattle.entitlements.specs.Entitlements.{largest, letter_of, kind_letter}
use Rattle.page.specs.declared.Record.{Record}
use Rattle.page.specs.Page.{Found, record_length, mark, record_of, letter_in, code_of, number_text, stretch_at, write_checks, writing, writing_at, outcome_by, mark_wrong, is_kind, number_wrong, content_wrong, record_by, record_in, found_in, look_at, where_found, code_at}
use Rattle.page.proofs.PageLaws.{record_length_lem, code_twenty, same_text_lem, eight_bytes, Recorded, look_recorded, recorded_right}

-- ---- what writing accepts

-- A message that 41 and 42 let pass, and a stretch that has 31 bytes
pub record Writable (text : List ℕ) (number : ℕ) (stretch : List ℕ) : Type 0 where
  pub some : number ≡ 0 → ⊥
  pub most : number ≤ largest
  pub read : readable text ≡ true
  pub long : record_length ≤ length stretch

module _ (kind : Kind) (text : List ℕ) (number : ℕ) (stretch : List ℕ) where
  pub accepts : (writing kind text number stretch).said.number ≡ 0 → Writable text number stretch
  unfolding writing write_checks
  accepts e = of (passed (write_checks text number stretch) tt e)
    where
      of : Passed (write_checks text number stretch) → Writable text number stretch
      of (n, (r, (s, _))) =
          let numbers = neither (eqb number 0) (ltb largest number) n in
          record {
            some = eqb-false number 0 numbers.0;
            most = ltb-false largest number numbers.1;
            read = not-false (readable text) r;
            long = ltb-false (length stretch) record_length s;
          }

  -- and what it leaves then
  pub writes : Writable text number stretch → writing kind text number stretch ≡ outcome_by accepted (record_of kind text number ++ drop record_length stretch)
  unfolding writing write_checks
  writes so =
      rw (
        ne_eqb number 0 so.some,
        le-ltb largest number so.most,
        so.read,
        le-ltb (length stretch) record_length so.long,
      )

  -- and where it refuses, nothing changes
  pub refused_stays : eqb (writing kind text number stretch).said.number 0 ≡ false → (writing kind text number stretch).room ≡ stretch
  unfolding writing
  refused_stays e = rw e

-- ---- where a record is found

found_good : (stretch : List ℕ) → record_length ≤ length stretch → mark_wrong stretch ≡ false → content_wrong stretch ≡ false
    → found_in stretch ≡ Ok (Some (record_in stretch))
unfolding found_in
found_good stretch h m c = rw (le-ltb (length stretch) record_length h, m, c)

module _ (page : List ℕ) (offset : ℕ) where
  pub look_stretch : (offset ≡ length page → ⊥) → look_at page offset ≡ found_in (stretch_at page offset)
  unfolding look_at
  look_stretch n = rw (ne_eqb offset (length page) n)

  code_where : {r : Record} → look_at page offset ≡ Ok (Some r) → code_at page offset ≡ take 20 (drop (offset + 3) page)
  code_where f = ap (λ (g : Found). where_found g (take 20 (drop (offset + 3) page))) f

-- ---- a record with anything after it

module _ (kind : Kind) (text : List ℕ) (number : ℕ) (twenty : length text ≡ 20) (later : List ℕ) where
  abbrev bytes : List ℕ
  bytes = record_of kind text number ++ later

  abbrev spelled : List ℕ
  spelled = spelled_in letters 8 number

  -- its code is where a record has it
  code_stands : code_of bytes ≡ text
  unfolding record_of
  code_stands = ap (take 20) (append_assoc text spelled later) ∙ take_at text (spelled ++ later) 20 twenty

  -- and its number
  number_stands : number_text bytes ≡ spelled
  unfolding record_of
  number_stands =
      ap (λ (l : List ℕ). take 8 (drop 20 l)) (append_assoc text spelled later)
      ∙ ap (take 8) (drop_at text (spelled ++ later) 20 twenty)
      ∙ take_at spelled later 8 refl

  -- which reads back
  number_right : (number ≡ 0 → ⊥) → number ≤ largest → number_wrong spelled ≡ false
  number_right some most =
      let word : Word letters spelled = digits_word letters letters_distinct refl (digits_are 8 number) in
      let back : number_in letters spelled ≡ number = number_spelled letters letters_distinct refl 8 number (omega (arith, most)) in
      none_of (le-ltb (first_other letters spelled) (length spelled) (omega (arith, word_first word)))
      (ne_eqb (number_in letters spelled) 0 (λ e. some (sym back ∙ e)))

  -- What it holds
  pub record_holds : number ≤ largest
      → (letter_in bytes ≡ letter_of kind) × (code_of bytes ≡ text) × (number_in letters (number_text bytes) ≡ number)
  unfolding record_of
  record_holds most = (
    refl,
    code_stands,
    ap (number_in letters) number_stands ∙ number_spelled letters letters_distinct refl 8 number (omega (arith, most)),
  )

  -- so that the record is found
  pub record_found_lem : {stretch : List ℕ} → Writable text number stretch → found_in bytes ≡ Ok (Some (record_by kind (halves_in text) number))
  unfolding record_of
  record_found_lem so =
      let long : record_length ≤ length bytes =
      omega (arith, length-append (record_of kind text number) later, record_length_lem kind text number twenty) in
      let back : number_in letters spelled ≡ number = number_spelled letters letters_distinct refl 8 number (omega (arith, so.most)) in
      let right : content_wrong bytes ≡ false =
      none_of (ap not (of kind))
      (none_of (ap (λ (t : List ℕ). not (readable t)) code_stands ∙ ap not so.read) (ap number_wrong number_stands ∙ number_right so.some so.most)) in
      found_good bytes long refl right
      ∙ ap (λ (k : Kind). Ok (Some (record_by k (halves_in (code_of bytes)) (number_in letters (number_text bytes))))) (kind_letter kind)
      ∙ ap₂ (λ (t n : List ℕ). Ok (Some (record_by kind (halves_in t) (number_in letters n)))) code_stands number_stands
      ∙ ap (λ (n : ℕ). Ok (Some (record_by kind (halves_in text) n))) back
    where
      of : (k : Kind) → is_kind (letter_of k) ≡ true
      of Activate = refl
      of Cancel = refl

-- ---- what was written is found

module _ (page : List ℕ) (offset : ℕ) (kind : Kind) (text : List ℕ) (number : ℕ) where
  abbrev wrote : List ℕ
  wrote = (writing_at page offset kind text number).room

  module _ (so : Writable text number (stretch_at page offset)) where
    within : offset + record_length ≤ length page
    within = omega (arith, so.long, length-drop offset page)

    before : length (take offset page) ≡ offset
    before = length-take-le offset page (omega (arith, within))

    abbrev after : List ℕ
    after = record_of kind text number ++ drop record_length (stretch_at page offset)

    room_is : wrote ≡ take offset page ++ after
    room_is = ap (λ (o : Outcome). take offset page ++ o.room) (writes kind text number (stretch_at page offset) so)

    stretch_is : stretch_at wrote offset ≡ after
    stretch_is = ap (drop offset) room_is ∙ drop_at (take offset page) after offset before

    after_long : length after ≡ length page - offset
    after_long =
        omega (
          arith,
          within,
          length-append (record_of kind text number) (drop record_length (stretch_at page offset)),
          record_length_lem kind text number (code_twenty text so.read),
          length-drop record_length (stretch_at page offset),
          length-drop offset page,
        )

    wrote_long : length wrote ≡ length page
    wrote_long = ap length room_is ∙ length-append (take offset page) after ∙ omega (arith, before, after_long, within)

  -- "written and read by it, each the other's reverse": what was accepted is found at its offset, by its own bytes
  pub written_found : (writing_at page offset kind text number).said.number ≡ 0
      → (look_at wrote offset ≡ Ok (Some (record_by kind (halves_in text) number))) × (code_at wrote offset ≡ text)
  written_found e =
      let so = accepts kind text number (stretch_at page offset) e in
      let twenty = code_twenty text so.read in
      let rest : List ℕ = drop record_length (stretch_at page offset) in
      let apart : offset ≡ length wrote → ⊥ = λ k. omega (arith, k, wrote_long so, within so) in
      let looks = look_stretch wrote offset apart ∙ ap found_in (stretch_is so) ∙ record_found_lem kind text number twenty rest so in (
        looks,
        code_where wrote offset looks
            ∙ ap (take 20) (sym (drop-drop 3 offset wrote))
            ∙ ap code_of (stretch_is so)
            ∙ code_stands kind text number twenty rest,
      )

  -- "no other byte changes"
  pub outside : (take offset wrote ≡ take offset page) × (drop (offset + record_length) wrote ≡ drop (offset + record_length) page)
      × (length wrote ≡ length page)
  outside = at (eqb (writing kind text number (stretch_at page offset)).said.number 0) refl
    where
      at : (b : Bool) → eqb (writing kind text number (stretch_at page offset)).said.number 0 ≡ b
          → (take offset wrote ≡ take offset page) × (drop (offset + record_length) wrote ≡ drop (offset + record_length) page)
          × (length wrote ≡ length page)
      at true e =
          let so = accepts kind text number (stretch_at page offset) (eqb-true (writing kind text number (stretch_at page offset)).said.number 0 e) in
          let record_is = record_length_lem kind text number (code_twenty text so.read) in (
            ap (take offset) (room_is so) ∙ take_at (take offset page) (after so) offset (before so),
            sym (drop-drop record_length offset wrote)
                ∙ ap (drop record_length) (stretch_is so)
                ∙ drop_at (record_of kind text number) (drop record_length (stretch_at page offset)) record_length record_is
                ∙ drop-drop record_length offset page,
            wrote_long so,
          )
      at false e =
          let same : wrote ≡ page = ap (λ (s : List ℕ). take offset page ++ s) (refused_stays kind text number (stretch_at page offset) e) ∙ take-append-drop offset page in
          (ap (take offset) same, ap (drop (offset + record_length)) same, ap length same)

-- ---- what is found was written so

-- The bytes of a stretch that starts with a record are the record of what it holds, and then those after it
record_back : (stretch : List ℕ) {r : Record} → Recorded stretch r → record_of r.kind (code_of stretch) r.number ++ drop record_length stretch ≡ stretch
unfolding record_of
record_back [] so = let none : ⊥ = omega (arith, so.long) in absurd none
record_back (a ∷ []) so = let none : ⊥ = omega (arith, so.long) in absurd none
record_back (a ∷ b ∷ []) so = let none : ⊥ = omega (arith, so.long) in absurd none
record_back (a ∷ b ∷ l ∷ t) {r} so =
    let stretch : List ℕ = a ∷ b ∷ l ∷ t in
    let right = recorded_right so in
    let marks : (a ∷ b ∷ []) ≡ mark = same_text_lem (a ∷ b ∷ []) mark (not-false (same_text (a ∷ b ∷ []) mark) so.marked) in
    let letter : letter_of r.kind ≡ l = ap (λ (q : Record). letter_of q.kind) (sym so.holds) ∙ right.letter in
    let spelled : spelled_in letters 8 r.number ≡ take 8 (drop 20 t) =
    ap (λ (q : Record). spelled_in letters 8 q.number) (sym so.holds)
    ∙ ap (map (letter_for letters)) (word_values refl 8 (eight_bytes stretch so.long) right.word)
    ∙ word_back right.word in
    let rest : take 20 t ++ spelled_in letters 8 r.number ++ drop 28 t ≡ t =
    ap (λ (n : List ℕ). take 20 t ++ n ++ drop 28 t) spelled
    ∙ ap (λ (n : List ℕ). n ++ drop 28 t) (sym (take-add 20 8 t))
    ∙ take-append-drop 28 t in
    ap (λ (z : List ℕ). 42 ∷ 43 ∷ letter_of r.kind ∷ z) rest
    ∙ ap (λ (x : ℕ). 42 ∷ 43 ∷ x ∷ t) letter
    ∙ ap (λ (m : List ℕ). m ++ l ∷ t) (sym marks)

-- Writing what is found is accepted, and leaves the page as it was
pub found_written : (page : List ℕ) (offset : ℕ) {r : Record} → look_at page offset ≡ Ok (Some r)
    → writing_at page offset r.kind (code_at page offset) r.number ≡ outcome_by accepted page
found_written page offset {r} f =
    let stretch : List ℕ = stretch_at page offset in
    let so = look_recorded page offset f in
    let right = recorded_right so in
    let code : code_at page offset ≡ code_of stretch = code_where page offset f ∙ ap (take 20) (sym (drop-drop 3 offset page)) in
    let number : number_in letters (number_text stretch) ≡ r.number = ap (λ (q : Record). q.number) so.holds in
    let writable : Writable (code_of stretch) r.number stretch =
    record { some = λ e. right.some (number ∙ e); most = subst (λ (n : ℕ). n ≤ largest) number right.most; read = right.read; long = so.long } in
    ap (λ (text : List ℕ). writing_at page offset r.kind text r.number) code
    ∙ ap (λ (o : Outcome). outcome_by o.said (take offset page ++ o.room)) (writes r.kind (code_of stretch) r.number stretch writable)
    ∙ ap (λ (s : List ℕ). outcome_by accepted (take offset page ++ s)) (record_back stretch so)
    ∙ ap (outcome_by accepted) (take-append-drop offset page)
