-- An index of the codes that are active in an account, for any slots and any account: the slot of a code, what looking it up finds, and what
-- noting a place leaves. IndexLaws.antt says which slots find each code's place. Assumes nothing.
use Rattle.std.specs.Prelude.{ℕ, ◌+◌, ◌%◌, Bool, cond, ◌&&◌, List, eqb, ltb, get_or, set}
use Rattle.halves.specs.declared.Halves.{Halves}
use Rattle.places.specs.Places.{places, active_on, code_on, holds, lowest_place}

-- How many slots there are
abbrev pub slot_count : ℕ
slot_count = 16381

-- The hash of a code, by the last letters of its halves
abbrev pub hash_of : Halves → ℕ
hash_of code = (code.high % slot_count + code.low % slot_count) % slot_count

-- What its slot has: a place, or 256 and more for a crowded one
abbrev pub slot_of : List ℕ → Halves → ℕ
slot_of slots code = get_or slots (hash_of code) 0

-- Whether a code of this hash is active at a place
abbrev pub shares_at : List ℕ → List ℕ → List ℕ → ℕ → ℕ → Bool
shares_at high low active hash i = active_on active i && eqb (hash_of (code_on high low i)) hash

-- Looking a code up: the place in its slot, where the code is active there, or else none; of a crowded slot, the lowest place that has it
unfoldable pub looked_up : List ℕ → List ℕ → List ℕ → List ℕ → Halves → ℕ
looked_up slots high low active code =
    cond (ltb (slot_of slots code) places)
    (cond (holds high low active code (slot_of slots code)) (slot_of slots code) places)
    (lowest_place (holds high low active code))

-- The slots where a code is to take a place: its slot has that place, or is crowded where a code of its hash is active at the place that it
-- had; a crowded one stays so
unfoldable pub noted : List ℕ → List ℕ → List ℕ → List ℕ → ℕ → Halves → List ℕ
noted slots high low active place code =
    cond (ltb (slot_of slots code) places)
    (set slots (hash_of code) (cond (shares_at high low active (hash_of code) (slot_of slots code)) places place))
    slots
