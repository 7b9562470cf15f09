-- Codes that were read before, for any slots: the slot of a code, what is found by one who remembers codes, and what remembering one leaves.
-- RecallLaws.antt says for which slots this is what reading finds. Assumes nothing.
use Rattle.std.specs.Prelude.{ℕ, ◌+◌, ◌-◌, ◌*◌, ◌%◌, ◌^◌, cond, List, [], length, take, drop, ◌==◌, nat_lt, slice_index, slice_index_or, slice_set}
use Rattle.halves.specs.declared.Halves.{Halves}
use Rattle.halves.specs.Halves.{halves_by}
use Rattle.page.specs.Page.{Found, record_length}
use Rattle.page.specs.Known.{code_by, look_with}
use Rattle.recall.specs.declared.Slot.{Slot}

-- How many slots there are
abbrev pub slot_count : ℕ
slot_count = 4096

-- The twenty bytes of the code of a record at an offset, and none where the page has not the record's bytes
unfoldable pub text_at : List ℕ → ℕ → List ℕ
text_at page offset = cond (nat_lt (length page) (offset + record_length)) [] (take 20 (drop (offset + 3) page))

-- The code of the record that a slot has, by its offset and one more: 0 is none
unfoldable pub earlier_at : List ℕ → ℕ → List ℕ
earlier_at page after = cond (after == 0) [] (text_at page (after - 1))

-- The slot of a code's bytes
unfoldable pub slot_of : List ℕ → ℕ
slot_of text =
    (slice_index text 6 * 1289 + slice_index text 7 * 331 + slice_index text 8 * 79
    + (slice_index text 9 * 19 + slice_index text 18 * 157 + slice_index text 19 * 37)) % slot_count

-- The slot of the record at an offset
abbrev pub slot_at : List ℕ → ℕ → ℕ
slot_at page offset = slot_of (text_at page offset)

-- The offset of a record and one more, as a machine counts
abbrev pub after_of : ℕ → ℕ
after_of offset = (offset + 1) % 2 ^ 64

-- A slot by its parts: a record by its offset and one more, and the halves of its code; and one that has no record
abbrev pub slot_by : ℕ → Halves → Slot
slot_by after code = record { after = after; code = code }

abbrev pub empty_slot : Slot
empty_slot = slot_by 0 (halves_by 0 0)

-- What is found at an offset by one who knows what a slot has, and by one who remembers, for each slot, that
abbrev pub found_by : Slot → List ℕ → ℕ → Found
found_by slot page offset = look_with (code_by (earlier_at page slot.after) slot.code) page offset

abbrev pub recalled : List Slot → List ℕ → ℕ → Found
recalled slots page offset = found_by (slice_index_or slots (slot_at page offset) empty_slot) page offset

-- The code of a record at an offset put into its slot
abbrev pub remembered : List Slot → List ℕ → ℕ → Halves → List Slot
remembered slots page offset code = slice_set slots (slot_at page offset) (slot_by (after_of offset) code)
