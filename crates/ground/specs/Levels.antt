-- Angles and levels (document 01, "Angles and grid"). Assumes nothing.
use Rattle.std.specs.Prelude.{ℕ, suc, ◌-◌, ◌*◌, ◌≤◌, cond, List, [], ◌∷◌, ltb, get_or}
use Rattle.facts.specs.Lists.{count_up}
use Rattle.ground.specs.declared.Lat.{Lat}
use Rattle.ground.specs.declared.Lon.{Lon}

-- W and J are kept apart: a latitude and a longitude, each over the angle in u
abbrev pub lat : ℕ → Lat
lat a = record { 0 = a }

abbrev pub lon : ℕ → Lon
lon a = record { 0 = a }

-- One second is 2,048 u, one minute 122,880 u, one degree 7,372,800 u
abbrev pub second : ℕ
second = 2048

abbrev pub minute : ℕ
minute = 60 * second

abbrev pub degree : ℕ
degree = 60 * minute

-- Latitude is 0 to 663,552,000 and longitude 0 to 1,327,104,000, ends included
abbrev pub lat_end : ℕ
lat_end = 90 * degree

abbrev pub lon_end : ℕ
lon_end = 180 * degree

-- Levels 9 to 27
abbrev pub coarsest_level : ℕ
coarsest_level = 9

abbrev pub finest_level : ℕ
finest_level = 27

pub record IsLevel (level : ℕ) : Type 0 where
  pub coarsest : coarsest_level ≤ level
  pub finest : level ≤ finest_level

-- those before a level, in turn
abbrev pub levels_before : ℕ → List ℕ
levels_before level = count_up (level - coarsest_level) coarsest_level

-- and all of them
abbrev pub levels : List ℕ
levels = levels_before (suc finest_level)

-- Nominal cell sizes in u: level 9, levels 10 to 15, 16 to 21, 22 to 27
abbrev pub sizes : List ℕ
sizes =
    7372800
    ∷ 3932160 ∷ 1966080 ∷ 983040 ∷ 491520 ∷ 245760 ∷ 122880
    ∷ 65536 ∷ 32768 ∷ 16384 ∷ 8192 ∷ 4096 ∷ 2048
    ∷ 1024 ∷ 512 ∷ 256 ∷ 128 ∷ 64 ∷ 32 ∷ []

-- the smallest of them, that of the finest level
abbrev pub smallest_size : ℕ
smallest_size = 32

-- The nominal size of a level, 0 for what is no level from 9 to 27
unfoldable pub size_of : ℕ → ℕ
size_of level = cond (ltb level coarsest_level) 0 (get_or sizes (level - coarsest_level) 0)

-- The level of a minute, the last whose cells start afresh at each whole degree
abbrev pub minute_level : ℕ
minute_level = 15
