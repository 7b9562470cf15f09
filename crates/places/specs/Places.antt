-- The places of an account (document 02, requests 3 and 5): what is free, what has a code active, the lowest such place, and how many are
-- active. Assumes nothing.
use Rattle.std.specs.Prelude.{ℕ, zero, suc, Bool, cond, not, ◌&&◌, List, eqb, get_or}
use Rattle.halves.specs.declared.Halves.{Halves}
use Rattle.halves.specs.Halves.{halves_by, same_code}

-- "256 free places": how many places there are
abbrev pub places : ℕ
places = 256

-- Activity: 0 is free
abbrev pub is_free : List ℕ → ℕ → Bool
is_free active i = eqb (get_or active i 0) 0

-- any other number active
abbrev pub active_on : List ℕ → ℕ → Bool
active_on active i = not (is_free active i)

-- What a place holds: a code by its halves
abbrev pub code_on : List ℕ → List ℕ → ℕ → Halves
code_on high low i = halves_by (get_or high i 0) (get_or low i 0)

-- Whether a place has this low half
abbrev pub has_low : List ℕ → ℕ → ℕ → Bool
has_low low half i = eqb (get_or low i 0) half

-- Whether a code is active at a place
abbrev pub holds : List ℕ → List ℕ → List ℕ → Halves → ℕ → Bool
holds high low active code i = active_on active i && same_code (code_on high low i) code

-- The lowest of n numbers from one on that passes a test, and the number after them where none does
abbrev pub lowest_from : ℕ → ℕ → (ℕ → Bool) → ℕ
lowest_from zero from test = from
lowest_from (suc n) from test = cond (test from) from (lowest_from n (suc from) test)

-- The lowest place that passes a test, 256 where none does
unfoldable pub lowest_place : (ℕ → Bool) → ℕ
lowest_place test = lowest_from places 0 test

-- How many numbers below n pass a test
unfoldable pub count_below : (ℕ → Bool) → ℕ → ℕ
count_below test zero = 0
count_below test (suc n) = cond (test n) (suc (count_below test n)) (count_below test n)

-- "the full count": how many of the 256 places are active
unfoldable pub count_active : List ℕ → ℕ
count_active active = count_below (active_on active) places
