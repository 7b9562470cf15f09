-- The location's bits (document 01, "Location, 11 characters"). Bits stand as numbers, high first. Assumes nothing.
use Rattle.std.specs.Prelude.{ℕ, zero, suc, ◌+◌, ◌*◌, ◌/◌, ◌%◌, ◌^◌}
use Rattle.ground.specs.declared.Point.{Point}
use Rattle.ground.specs.Levels.{lat, lon, degree, minute, second}
use Rattle.ground.specs.Cells.{location_size}

-- An angle's degrees, minutes, seconds and 64ths of a second
abbrev pub degrees : ℕ → ℕ
degrees a = a / degree

abbrev pub minutes : ℕ → ℕ
minutes a = a % degree / minute

abbrev pub seconds : ℕ → ℕ
seconds a = a % minute / second

abbrev pub sixty_fourths : ℕ → ℕ
sixty_fourths a = a % second / location_size

-- For each direction 27 bits
abbrev pub direction_bits : ℕ
direction_bits = 27

-- 9 for degrees, 6 for minutes, 6 for seconds, 6 for 64ths of a second
unfoldable pub bits_of : ℕ → ℕ
bits_of a = ((degrees a * 64 + minutes a) * 64 + seconds a) * 64 + sixty_fourths a

-- The same parts in 27 bits; the first of the degree bits is the hemisphere
abbrev pub degrees_in : ℕ → ℕ
degrees_in bits = bits / 2 ^ 18

abbrev pub minutes_in : ℕ → ℕ
minutes_in bits = bits / 2 ^ 12 % 64

abbrev pub seconds_in : ℕ → ℕ
seconds_in bits = bits / 2 ^ 6 % 64

abbrev pub sixty_fourths_in : ℕ → ℕ
sixty_fourths_in bits = bits % 64

abbrev pub hemisphere_in : ℕ → ℕ
hemisphere_in bits = bits / 2 ^ 26

-- The angle that 27 bits tell
unfoldable pub angle_in : ℕ → ℕ
angle_in bits = degrees_in bits * degree + minutes_in bits * minute + seconds_in bits * second + sixty_fourths_in bits * location_size

-- The last n bits of two numbers, paired, the first's before the second's
unfoldable pub paired : ℕ → ℕ → ℕ → ℕ
paired zero a b = 0
paired (suc n) a b = paired n (a / 2) (b / 2) * 4 + a % 2 * 2 + b % 2

-- The latter bit of each of the last n pairs
unfoldable pub latters : ℕ → ℕ → ℕ
latters zero x = 0
latters (suc n) x = latters n (x / 4) * 2 + x % 2

-- The former bit of each
abbrev pub formers : ℕ → ℕ → ℕ
formers n x = latters n (x / 2)

-- Bits are paired, latitude first, into 54; a 1 is added at the end
unfoldable pub location_of : Point → ℕ
location_of p = paired direction_bits (bits_of p.lat.0) (bits_of p.lon.0) * 2 + 1

-- The same 27 bits of each direction in a location, whose last bit closes it
abbrev pub lat_in : ℕ → ℕ
lat_in location = formers direction_bits (location / 2)

abbrev pub lon_in : ℕ → ℕ
lon_in location = latters direction_bits (location / 2)

-- The reference that a location tells
abbrev pub reference_in : ℕ → Point
reference_in location = record { lat = lat (angle_in (lat_in location)); lon = lon (angle_in (lon_in location)) }
