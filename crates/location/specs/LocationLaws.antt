-- The laws of the location: pairs are taken apart and put together again, and so are angles and references. Assumes nothing.
use Rattle.std.specs.Prelude.{ℕ, zero, suc, ◌+◌, ◌-◌, ◌*◌, ◌/◌, ◌%◌, ◌^◌, ◌≤◌, ◌<◌, ◌≡◌, refl}
use Rattle.std.proofs.Common.{add-zero, add-suc, pow-suc, div-one, div-add-mod', mod-lt, sub-one, arith, ap₂, ◌∙◌, sym, subst, lit<}
use Rattle.std.proofs.Math.Nat.{pow-succ', pow-le-pow_right, div-div-eq-div-mul}
use Rattle.std.proofs.Math.Path.{ap}
use Rattle.std.proofs.Math.Arith.{mod-mul, digits_mod}
use Rattle.ground.specs.declared.Point.{Point}
use Rattle.ground.specs.Levels.{lat, lon, degree, minute, second}
use Rattle.ground.specs.Cells.{location_size}
use Rattle.location.specs.Location.{
  direction_bits,
  degrees,
  minutes,
  seconds,
  sixty_fourths,
  bits_of,
  degrees_in,
  minutes_in,
  seconds_in,
  sixty_fourths_in,
  angle_in,
  paired,
  latters,
  formers,
  location_of,
  lat_in,
  lon_in,
  reference_in,
}

-- The laws of pairs: no bits, one bit more, and how large they are
pub paired_none : (n a b : ℕ) → n ≡ 0 → paired n a b ≡ 0
unfolding paired latters
paired_none n a b e = rw e

pub paired_more : (n a b : ℕ) → (n ≡ 0 → ⊥) → paired n a b ≡ paired (n - 1) (a / 2) (b / 2) * 4 + (a % 2 * 2 + b % 2)
unfolding paired latters
paired_more zero a b h = absurd (h refl)
paired_more (suc n) a b h = rw sub-one (omega arith)

paired_most : (n a b : ℕ) → paired n a b < 4 ^ n
unfolding paired latters
paired_most zero a b = omega arith
paired_most (suc n) a b = rw pow-suc (omega (arith, paired_most n (a / 2) (b / 2)))

pub latters_most : (n x : ℕ) {r : ℕ} → r ≡ latters n x → r < 2 ^ n
unfolding paired latters
latters_most zero x e = omega arith
latters_most (suc n) x e = rw pow-suc (omega (arith, latters_most n (x / 4) refl))

-- The latter bits of pairs, taken some at a time
pub latters_split : (m n x : ℕ) → latters (m + n) x ≡ latters m (x / 4 ^ n) * 2 ^ n + latters n x
unfolding paired latters
latters_split m zero x = rw (add-zero m, div-one x) (omega arith)
latters_split m (suc n) x =
    let deep : x / 4 ^ suc n ≡ x / 4 / 4 ^ n = ap (λ (k : ℕ). x / k) (pow-succ' 4 n) ∙ sym (div-div-eq-div-mul x 4 (4 ^ n)) in
    rw (add-suc m n, deep) (rw pow-suc (omega (arith, latters_split m n (x / 4))))

-- Of at most 27 bits each, what is paired has 54 bits
pub paired_below : (n a b : ℕ) {r : ℕ} → r ≡ paired n a b → n ≤ direction_bits → r < 2 ^ 54
paired_below n a b e h = omega (arith, paired_most n a b, pow-le-pow_right {n = 4} (omega arith) h)

-- Paired bits are taken apart again
pub latters_paired : (n a b : ℕ) → b < 2 ^ n → latters n (paired n a b) ≡ b
unfolding paired latters
latters_paired zero a b h = omega arith
latters_paired (suc n) a b h =
    let k : b < 2 ^ n * 2 = rw pow-suc at h in
    let high : (paired n (a / 2) (b / 2) * 4 + a % 2 * 2 + b % 2) / 4 ≡ paired n (a / 2) (b / 2) = omega arith in
    rw high (omega (arith, latters_paired n (a / 2) (b / 2) (omega arith)))

pub formers_paired : (n a b : ℕ) → a < 2 ^ n → formers n (paired n a b) ≡ a
unfolding paired latters
formers_paired zero a b h = omega arith
formers_paired (suc n) a b h =
    let k : a < 2 ^ n * 2 = rw pow-suc at h in
    let high : (paired n (a / 2) (b / 2) * 4 + a % 2 * 2 + b % 2) / 2 / 4 ≡ paired n (a / 2) (b / 2) / 2 = omega arith in
    rw high (omega (arith, formers_paired n (a / 2) (b / 2) (omega arith)))

-- Bits taken apart are paired again
pub paired_back : (n x : ℕ) → x < 4 ^ n → paired n (formers n x) (latters n x) ≡ x
unfolding paired latters
paired_back zero x h = omega arith
paired_back (suc n) x h =
    let k : x < 4 ^ n * 4 = rw pow-suc at h in
    let first : (latters n (x / 2 / 4) * 2 + x / 2 % 2) / 2 ≡ latters n (x / 4 / 2) =
    omega (arith, ap (latters n) (swapped x)) in
    let second : (latters n (x / 4) * 2 + x % 2) / 2 ≡ latters n (x / 4) = omega arith in
    rw (first, second) (omega (arith, paired_back n (x / 4) (omega arith)))
  where
    swapped : (x : ℕ) → x / 2 / 4 ≡ x / 4 / 2
    swapped x = omega arith

-- The four parts that 27 bits tell, and the four that an angle has
pub record Tells (bits d m s f : ℕ) : Type 0 where
  pub degrees : degrees_in bits ≡ d
  pub minutes : minutes_in bits ≡ m
  pub seconds : seconds_in bits ≡ s
  pub sixty_fourths : sixty_fourths_in bits ≡ f

pub record Has (a d m s f : ℕ) : Type 0 where
  pub degrees : degrees a ≡ d
  pub minutes : minutes a ≡ m
  pub seconds : seconds a ≡ s
  pub sixty_fourths : sixty_fourths a ≡ f

-- Bits put together from parts tell them
tells_parts : (d m s f : ℕ) → m < 64 → s < 64 → f < 64 → Tells (((d * 64 + m) * 64 + s) * 64 + f) d m s f
tells_parts d m s f hm hs hf =
    let sixth : (((d * 64 + m) * 64 + s) * 64 + f) / 2 ^ 6 ≡ (d * 64 + m) * 64 + s = omega arith in
    let twelfth : (((d * 64 + m) * 64 + s) * 64 + f) / 2 ^ 12 ≡ d * 64 + m = omega arith in
    record {
      degrees = omega arith;
      minutes = ap (λ (n : ℕ). n % 64) twelfth ∙ digits_mod d hm;
      seconds = ap (λ (n : ℕ). n % 64) sixth ∙ digits_mod (d * 64 + m) hs;
      sixty_fourths = digits_mod ((d * 64 + m) * 64 + s) hf;
    }

-- An angle put together from parts has them
has_parts : (d m s f : ℕ) → m < 60 → s < 60 → f < 64 → Has (d * degree + m * minute + s * second + f * location_size) d m s f
has_parts d m s f hm hs hf = record {
  degrees = omega arith;
  minutes = ap (λ (n : ℕ). n / minute) (rest d degree (m * minute + s * second + f * location_size) (omega arith) (omega arith)) ∙ omega arith;
  seconds = ap (λ (n : ℕ). n / second) (rest (d * 60 + m) minute (s * second + f * location_size) (omega arith) (omega arith)) ∙ omega arith;
  sixty_fourths =
      ap (λ (n : ℕ). n / location_size) (rest ((d * 60 + m) * 60 + s) second (f * location_size) (omega arith) (omega arith)) ∙ omega arith;
}
  where
    rest : (q c r : ℕ) {a : ℕ} → a ≡ q * c + r → r < c → a % c ≡ r
    rest q c r e h = ap (λ (n : ℕ). n % c) e ∙ digits_mod q h

-- A remainder by a multiple has the same remainder
mod_of_mod : (k c a : ℕ) → 0 < k → 0 < c → a % (k * c) % c ≡ a % c
mod_of_mod k c a hk hc = ap (λ (n : ℕ). n % c) (mod-mul a hk hc) ∙ digits_mod (a / c % k) (mod-lt a hc)

-- An angle that is a multiple of the smallest size is the sum of its parts
parts_sum : (a : ℕ) → a % location_size ≡ 0 → degrees a * degree + minutes a * minute + seconds a * second + sixty_fourths a * location_size ≡ a
parts_sum a h =
    sum (degrees a * degree) (minutes a * minute) (seconds a * second) (sixty_fourths a * location_size)
    (div-add-mod' a degree)
    (div-add-mod' (a % degree) minute) (mod_of_mod 60 minute a (lit< tt) (lit< tt))
    (div-add-mod' (a % minute) second) (mod_of_mod 60 second a (lit< tt) (lit< tt))
    (div-add-mod' (a % second) location_size) (mod_of_mod 64 location_size a (lit< tt) (lit< tt) ∙ h)
  where
    sum : (d m s f : ℕ) {a1 a2 a3 b2 b3 b4 : ℕ} → d + a1 ≡ a → m + b2 ≡ a1 → b2 ≡ a2 → s + b3 ≡ a2 → b3 ≡ a3 → f + b4 ≡ a3 → b4 ≡ 0
        → d + m + s + f ≡ a
    sum d m s f e1 e2 e3 e4 e5 e6 e7 = omega arith

-- 27 bits are put together from their parts
bits_sum : (b : ℕ) → ((degrees_in b * 64 + minutes_in b) * 64 + seconds_in b) * 64 + sixty_fourths_in b ≡ b
bits_sum b =
    let sixth : b / 2 ^ 6 * 64 + b % 64 ≡ b = omega arith in
    let twelfth : b / 2 ^ 12 * 64 + b / 2 ^ 6 % 64 ≡ b / 2 ^ 6 = omega arith in
    let eighteenth : b / 2 ^ 18 * 64 + b / 2 ^ 12 % 64 ≡ b / 2 ^ 12 = omega arith in
    sum (b / 2 ^ 18) (b / 2 ^ 12 % 64) (b / 2 ^ 6 % 64) (b % 64) eighteenth twelfth sixth
  where
    sum : (d m s f : ℕ) {b1 b2 : ℕ} → d * 64 + m ≡ b1 → b1 * 64 + s ≡ b2 → b2 * 64 + f ≡ b → ((d * 64 + m) * 64 + s) * 64 + f ≡ b
    sum d m s f e1 e2 e3 = omega arith

-- The bits of an angle tell its parts
pub bits_tell : (a : ℕ) → Tells (bits_of a) (degrees a) (minutes a) (seconds a) (sixty_fourths a)
unfolding bits_of
bits_tell a = tells_parts (degrees a) (minutes a) (seconds a) (sixty_fourths a) (omega arith) (omega arith) (omega arith)

-- An angle below 256 degrees has 26 bits after the hemisphere's
pub bits_below : (a : ℕ) → a < 256 * degree → bits_of a < 2 ^ 26
bits_below a h =
    let t = bits_tell a in
    let few : degrees a < 256 = omega arith in
    let e : bits_of a / 2 ^ 18 ≡ degrees a = t.degrees in
    omega arith

-- The angle that 27 bits of a location tell, whichever they are, is below 2 to the 32
pub angle_fits : (x : ℕ) {bits angle : ℕ} → bits ≡ latters direction_bits x → angle ≡ angle_in bits → angle < 2 ^ 32
unfolding angle_in
angle_fits x h e = omega (arith, latters_most direction_bits x h)

-- An angle that a reference can have: a multiple of the smallest size, below its end
pub record Angle (end a : ℕ) : Type 0 where
  pub whole : a % location_size ≡ 0
  pub below : a < end

-- Bits whose degrees are at most so many, minutes and seconds at most 59
pub record Sixtieths (most bits : ℕ) : Type 0 where
  pub degrees : degrees_in bits ≤ most
  pub minutes : minutes_in bits ≤ 59
  pub seconds : seconds_in bits ≤ 59

-- The bits of an angle below so many degrees and one are such
pub bits_sixtieths : (most a : ℕ) → a < (most + 1) * degree → Sixtieths most (bits_of a)
bits_sixtieths most a h =
    let t = bits_tell a in
    let few : degrees a ≤ most = omega arith in
    record {
      degrees = subst (λ (n : ℕ). n ≤ most) (sym t.degrees) few;
      minutes = subst (λ (n : ℕ). n ≤ 59) (sym t.minutes) (minutes_most a);
      seconds = subst (λ (n : ℕ). n ≤ 59) (sym t.seconds) (seconds_most a);
    }
  where
    minutes_most : (a : ℕ) → minutes a ≤ 59
    minutes_most a = omega arith

    seconds_most : (a : ℕ) → seconds a ≤ 59
    seconds_most a = omega arith

-- and such bits tell an angle that a reference can have
pub told_angle : (most b : ℕ) → Sixtieths most b → Angle ((most + 1) * degree) (angle_in b)
unfolding angle_in
told_angle most b s = record { whole = whole (degrees_in b) (minutes_in b) (seconds_in b) (sixty_fourths_in b); below = omega arith }
  where
    whole : (d m s f : ℕ) → (d * degree + m * minute + s * second + f * location_size) % location_size ≡ 0
    whole d m s f = omega arith

-- The angle of a reference is told by its bits
bits_back : (a : ℕ) → a % location_size ≡ 0 → angle_in (bits_of a) ≡ a
unfolding angle_in
bits_back a h =
    let t = bits_tell a in
    rw (t.degrees, t.minutes, t.seconds, t.sixty_fourths) (parts_sum a h)

-- Bits whose minutes and seconds are at most 59 are those of the angle that they tell
angle_back : (most b : ℕ) → Sixtieths most b → bits_of (angle_in b) ≡ b
unfolding bits_of angle_in
angle_back most b k =
    let t = has_parts (degrees_in b) (minutes_in b) (seconds_in b) (sixty_fourths_in b) (omega arith) (omega arith) (omega arith) in
    rw (t.degrees, t.minutes, t.seconds, t.sixty_fourths) (bits_sum b)

-- A location has 55 bits, and the last is 1
pub location_below : (p : Point) → location_of p < 2 ^ 55
unfolding location_of
location_below p = closed (paired_below direction_bits (bits_of p.lat.0) (bits_of p.lon.0) refl (omega arith))
  where
    closed : {n : ℕ} → n < 2 ^ 54 → n * 2 + 1 < 2 ^ 55
    closed h = omega arith

pub location_odd : (p : Point) → location_of p % 2 ≡ 1
unfolding location_of
location_odd p = odd (paired direction_bits (bits_of p.lat.0) (bits_of p.lon.0))
  where
    odd : (n : ℕ) → (n * 2 + 1) % 2 ≡ 1
    odd n = omega arith

half : (n : ℕ) → (n * 2 + 1) / 2 ≡ n
half n = omega arith

abbrev point : ℕ → ℕ → Point
point a b = record { lat = lat a; lon = lon b }

-- A location tells the bits of its reference
module _ {south west : ℕ} (p : Point) (lat_angle : Angle south p.lat.0) (lon_angle : Angle west p.lon.0) (few : south ≤ 256 * degree)
    (many : west ≤ 256 * degree) where
  pub lat_back : lat_in (location_of p) ≡ bits_of p.lat.0
  unfolding location_of
  lat_back =
      ap (formers direction_bits) (half (paired direction_bits (bits_of p.lat.0) (bits_of p.lon.0)))
      ∙ formers_paired direction_bits (bits_of p.lat.0) (bits_of p.lon.0) (omega (arith, bits_below p.lat.0 (omega arith)))

  pub lon_back : lon_in (location_of p) ≡ bits_of p.lon.0
  unfolding location_of
  lon_back =
      ap (latters direction_bits) (half (paired direction_bits (bits_of p.lat.0) (bits_of p.lon.0)))
      ∙ latters_paired direction_bits (bits_of p.lat.0) (bits_of p.lon.0) (omega (arith, bits_below p.lon.0 (omega arith)))

  -- and so the reference
  pub reference_back : reference_in (location_of p) ≡ p
  reference_back =
      ap₂ point
      (ap angle_in lat_back ∙ bits_back p.lat.0 lat_angle.whole)
      (ap angle_in lon_back ∙ bits_back p.lon.0 lon_angle.whole)

-- A location of 55 bits, the last 1, whose bits are such, is that of the reference that it tells
pub location_back : (location : ℕ) {most least : ℕ} → location < 2 ^ 55 → location % 2 ≡ 1 → Sixtieths most (lat_in location)
    → Sixtieths least (lon_in location) → location_of (reference_in location) ≡ location
unfolding location_of
location_back location {most} {least} below odd south west =
    ap₂ (λ (x y : ℕ). paired direction_bits x y * 2 + 1) (angle_back most (lat_in location) south) (angle_back least (lon_in location) west)
    ∙ ap (λ (n : ℕ). n * 2 + 1) (paired_back direction_bits (location / 2) (halved below))
    ∙ doubled location odd
  where
    halved : {n : ℕ} → n < 2 ^ 55 → n / 2 < 4 ^ direction_bits
    halved h = omega arith

    doubled : (n : ℕ) → n % 2 ≡ 1 → n / 2 * 2 + 1 ≡ n
    doubled n h = omega arith
