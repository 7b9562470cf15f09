-- The laws of codes that were read before: what each slot has is true, and then what is found is what reading finds; remembering a record
-- that was found keeps it true. Assumes nothing.
use Rattle.std.specs.Prelude.{◌≡◌, ℕ, zero, suc, ◌+◌, ◌-◌, ◌^◌, ◌<◌, ◌≤◌, Bool, true, false, ◌⊎◌, List, [], ◌∷◌, length, take, drop, replicate, ◌==◌, ◌≢◌, slice_index, slice_index_or, slice_set, Some, Ok, refl}
use Rattle.std.proofs.Common.{mod-eq_of_lt, arith, ap, sym, ◌∙◌, inl, inr, length-set, get_or-set_same, get_or-set_other, drop-drop, eq-eqb, ne_eqb, eqb-true, lt-ltb, le-ltb}
use Rattle.std.proofs.lemmas.List.{length-replicate}
use Rattle.std.proofs.lemmas.Bool.{eqb-false}
use Rattle.halves.specs.Halves.{code_in}
use Rattle.halves.specs.HalvesLaws.{code_reads}
use Rattle.page.specs.declared.Record.{Record}
use Rattle.page.specs.Page.{record_length, code_of, stretch_at, look_at}
use Rattle.page.specs.Known.{code_by}
use Rattle.page.proofs.PageLaws.{nothing_known, known_read, look_known, look_recorded, look_within, recorded_right}
use Rattle.recall.specs.declared.Slot.{Slot}
use Rattle.recall.specs.Recall.{slot_by, empty_slot, slot_count, text_at, earlier_at, slot_of, slot_at, recalled, remembered, after_of}

-- ---- texts

-- past the end of one there is 0
pub past_end : (text : List ℕ) (i : ℕ) → length text ≤ i → slice_index text i ≡ 0
past_end [] i h = refl
past_end (b ∷ text) zero h = let none : ⊥ = omega arith in absurd none
past_end (b ∷ text) (suc i) h = past_end text i (omega arith)

module _ (page : List ℕ) (offset : ℕ) where
  pub text_none : length page < offset + record_length → text_at page offset ≡ []
  unfolding text_at
  text_none h = rw (lt-ltb (length page) (offset + record_length) h)

  pub text_some : offset + record_length ≤ length page → text_at page offset ≡ take 20 (drop (offset + 3) page)
  unfolding text_at
  text_some h = rw (le-ltb (length page) (offset + record_length) h)

pub earlier_none : (page : List ℕ) (after : ℕ) → after ≡ 0 → earlier_at page after ≡ []
unfolding earlier_at
earlier_none page after e = rw (eq-eqb after 0 e)

pub earlier_some : (page : List ℕ) (after : ℕ) → (after ≢ 0) → earlier_at page after ≡ text_at page (after - 1)
unfolding earlier_at
earlier_some page after n = rw (ne_eqb after 0 n)

pub slot_below : (text : List ℕ) → slot_of text < slot_count
unfolding slot_of
slot_below text = omega arith

-- ---- what slots have

-- what a slot has: nothing, or a record whose code was read, with its halves
abbrev Has : List ℕ → Slot → Type 0
Has page slot = (slot.after ≡ 0) ⊎ (code_in (earlier_at page slot.after) ≡ Some slot.code)

-- as many slots as there are, and each has that
pub record Recalls (page : List ℕ) (slots : List Slot) : Type 0 where
  pub many : length slots ≡ slot_count
  pub each : (slot : ℕ) → Has page (slice_index_or slots slot empty_slot)

-- No slot has anything
abbrev pub empty_slots : List Slot
empty_slots = replicate slot_count empty_slot

-- at first
slots_zero : (n slot : ℕ) → slice_index_or (replicate n empty_slot) slot empty_slot ≡ empty_slot
slots_zero zero slot = refl
slots_zero (suc n) zero = refl
slots_zero (suc n) (suc slot) = slots_zero n slot

pub recalls_begin : (page : List ℕ) → Recalls page empty_slots
recalls_begin page = record {
  many = length-replicate slot_count empty_slot;
  each = λ (slot : ℕ). inl (ap (λ (s : Slot). s.after) (slots_zero slot_count slot));
}

module _ {page : List ℕ} {slots : List Slot} (so : Recalls page slots) (offset : ℕ) where
  -- So what is found is what reading finds
  pub recalled_look : recalled slots page offset ≡ look_at page offset
  recalled_look = look_known (code_by (earlier_at page here.after) here.code) (of (so.each (slot_at page offset))) page offset
    where
      here : Slot
      here = slice_index_or slots (slot_at page offset) empty_slot

      of : Has page here → (text : List ℕ) → code_by (earlier_at page here.after) here.code text ≡ code_in text
      of (inl e) text = ap (λ (t : List ℕ). code_by t here.code text) (earlier_none page here.after e) ∙ nothing_known here.code text
      of (inr e) text = known_read (earlier_at page here.after) here.code e text

  -- and a record that was found can be remembered
  pub recalls_note : {r : Record} → look_at page offset ≡ Ok (Some r) → length page < 2 ^ 64 → Recalls page (remembered slots page offset r.code)
  recalls_note {r} f few = record {
    many = length-set slots slot now ∙ so.many;
    each = λ (s : ℕ). at s (s == slot) refl;
  }
    where
      slot : ℕ
      slot = slot_at page offset

      now : Slot
      now = slot_by (after_of offset) r.code

      below : slot < slot_count
      below = slot_below (text_at page offset)

      next : after_of offset ≡ offset + 1
      next = mod-eq_of_lt (omega (arith, few, look_within page offset f))

      read : code_in (earlier_at page (offset + 1)) ≡ Some r.code
      read =
          let within = look_within page offset f in
          let recorded = look_recorded page offset f in
          let same : earlier_at page (offset + 1) ≡ code_of (stretch_at page offset) =
          earlier_some page (offset + 1) (λ (e : offset + 1 ≡ 0). omega arith)
          ∙ ap (text_at page) (omega arith)
          ∙ text_some page offset within
          ∙ ap (take 20) (sym (drop-drop 3 offset page)) in
          ap code_in same
          ∙ code_reads (code_of (stretch_at page offset)) (recorded_right recorded).read
          ∙ ap (λ (s : Record). Some s.code) recorded.holds

      has : Has page now
      has = inr (ap (λ (a : ℕ). code_in (earlier_at page a)) next ∙ read)

      at : (s : ℕ) (b : Bool) → (s == slot) ≡ b → Has page (slice_index_or (slice_set slots slot now) s empty_slot)
      at s true e = rw (eqb-true s slot e, get_or-set_same slots slot now empty_slot (omega (arith, below, so.many))) has
      at s false e = rw (get_or-set_other slots slot s now empty_slot (eqb-false s slot e)) (so.each s)
