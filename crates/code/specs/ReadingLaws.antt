-- The laws of reading: what its checks leave, and what it tells where they pass. Assumes nothing.
use Rattle.std.specs.Prelude.{ℕ, zero, suc, ◌≤◌, ◌%◌, ◌≡◌, refl, Bool, true, false, cond, ◌||◌, List, ◌++◌, T, eqb, ltb}
use Rattle.std.proofs.Common.{arith, ap, ◌∙◌, sym, ltb-false, ne_eqb, le-ltb, eqb-true}
use Rattle.std.proofs.lemmas.Bool.{eqb-false}
use Rattle.replies.specs.Replies.{Said, accepted, run}
use Rattle.replies.specs.RepliesLaws.{numbered, Passed, passed, run_append, run_second, both_pass}
use Rattle.facts.specs.Tests.{neither, none_of}
use Rattle.location.specs.Location.{degrees_in, minutes_in, seconds_in, hemisphere_in, lat_in, lon_in}
use Rattle.location.specs.LocationLaws.{Sixtieths}
use Rattle.spelling.specs.Spelling.{location_in, rest_in, text_checks, two_numbers, no_numbers, numbers_in}
use Rattle.spelling.specs.SpellingLaws.{TwentyLetters, text_numbered, text_passed, letters_spell}
use Rattle.code.specs.declared.Fields.{Fields}
use Rattle.code.specs.Code.{
  fields_in,
  finest_scale,
  no_scale,
  other_hemisphere,
  past_degrees,
  past59,
  short_span,
  location_checks,
  span_checks,
  Told,
  tells_of,
  tells_nothing,
  told_where,
  reading_numbers,
  reading_on,
  reading,
}
use Rattle.code.specs.WritingLaws.{within, in_range}

-- A location that a code can have; its degrees leave no hemisphere bit
pub record Located (location : ℕ) : Type 0 where
  pub closed : location % 2 ≡ 1
  pub lat : Sixtieths 89 (lat_in location)
  pub lon : Sixtieths 179 (lon_in location)

-- No check on the location has number 0
location_numbered : (location : ℕ) → T (numbered (location_checks location))
unfolding location_checks
location_numbered location = tt

-- What checks 13 to 16 leave
pub location_passed : (location : ℕ) → (run (location_checks location)).number ≡ 0 → Located location
unfolding location_checks
location_passed location e = located (passed (location_checks location) tt e)
  where
    odd : (n : ℕ) → (n % 2 ≡ 0 → ⊥) → n % 2 ≡ 1
    odd n h = at (n % 2) refl
      where
        at : (r : ℕ) → n % 2 ≡ r → n % 2 ≡ 1
        at zero k = absurd (h k)
        at (suc r) k = omega arith

    sixtieths : (most bits : ℕ) → ltb most (degrees_in bits) ≡ false → past59 bits ≡ false → Sixtieths most bits
    sixtieths most bits d s =
        let ms = neither (ltb 59 (minutes_in bits)) (ltb 59 (seconds_in bits)) s in
        record {
          degrees = ltb-false most (degrees_in bits) d;
          minutes = ltb-false 59 (minutes_in bits) ms.0;
          seconds = ltb-false 59 (seconds_in bits) ms.1;
        }

    located : Passed (location_checks location) → Located location
    located (closing, (hemisphere, (degrees, (sixty, _)))) =
        let d = neither (ltb 89 (degrees_in (lat_in location))) (ltb 179 (degrees_in (lon_in location))) degrees in
        let s = neither (past59 (lat_in location)) (past59 (lon_in location)) sixty in
        record {
          closed = odd location (eqb-false (location % 2) 0 closing);
          lat = sixtieths 89 (lat_in location) d.0 s.0;
          lon = sixtieths 179 (lon_in location) d.1 s.1;
        }

-- Such a location passes them
pub located_passes : (location : ℕ) → Located location → run (location_checks location) ≡ accepted
unfolding location_checks
located_passes location l =
    let closing : eqb (location % 2) 0 ≡ false = ne_eqb (location % 2) 0 (λ e. omega (arith, l.closed)) in
    let hemisphere : other_hemisphere location ≡ false =
    none_of (own_hemisphere l.lat (omega arith)) (own_hemisphere l.lon (omega arith)) in
    let degrees : past_degrees location ≡ false =
    none_of (le-ltb 89 (degrees_in (lat_in location)) l.lat.degrees) (le-ltb 179 (degrees_in (lon_in location)) l.lon.degrees) in
    let sixty : (past59 (lat_in location) || past59 (lon_in location)) ≡ false = none_of (in_sixty l.lat) (in_sixty l.lon) in
    rw (closing, hemisphere, degrees, sixty)
  where
    own_hemisphere : {most bits : ℕ} → Sixtieths most bits → most ≤ 255 → ltb 0 (hemisphere_in bits) ≡ false
    own_hemisphere {most} {bits} s h = le-ltb 0 (hemisphere_in bits) (omega (arith, s.degrees))

    in_sixty : {most bits : ℕ} → Sixtieths most bits → past59 bits ≡ false
    in_sixty {most} {bits} s = none_of (le-ltb 59 (minutes_in bits) s.minutes) (le-ltb 59 (seconds_in bits) s.seconds)

-- A scale and spans that a code can have
pub record Spanned (f : Fields) : Type 0 where
  pub scale : (14 ≤ f.scale) × (f.scale ≤ finest_scale)
  pub east : 2 ≤ f.east
  pub north : 2 ≤ f.north
  pub west : 1 ≤ f.west
  pub south : 1 ≤ f.south

-- What checks 17 and 18 leave
pub spans_passed : (f : Fields) → (run (span_checks f)).number ≡ 0 → Spanned f
unfolding span_checks
spans_passed f e = spanned (passed (span_checks f) tt e)
  where
    spanned : Passed (span_checks f) → Spanned f
    spanned (scale, (spans, _)) =
        let en_ws = neither (ltb f.east 2 || ltb f.north 2) (ltb f.west 1 || ltb f.south 1) spans in
        let en = neither (ltb f.east 2) (ltb f.north 2) en_ws.0 in
        let ws = neither (ltb f.west 1) (ltb f.south 1) en_ws.1 in
        record {
          scale = within 14 finest_scale f.scale scale;
          east = ltb-false f.east 2 en.0;
          north = ltb-false f.north 2 en.1;
          west = ltb-false f.west 1 ws.0;
          south = ltb-false f.south 1 ws.1;
        }

-- Such fields pass them
pub spanned_passes : (f : Fields) → Spanned f → run (span_checks f) ≡ accepted
unfolding span_checks
spanned_passes f s =
    let scale : no_scale f.scale ≡ false = in_range s.scale in
    let en : (ltb f.east 2 || ltb f.north 2) ≡ false = none_of (le-ltb f.east 2 s.east) (le-ltb f.north 2 s.north) in
    let ws : (ltb f.west 1 || ltb f.south 1) ≡ false = none_of (le-ltb f.west 1 s.west) (le-ltb f.south 1 s.south) in
    let spans : short_span f ≡ false = none_of en ws in
    rw (scale, spans)

-- Where the location passes, two numbers tell what their fields tell
pub location_then : (location rest : ℕ) → (run (location_checks location)).number ≡ 0
    → reading_numbers location rest ≡ told_where (run (span_checks (fields_in location rest))) (fields_in location rest)
unfolding reading_numbers
location_then location rest e =
    let f : Fields = fields_in location rest in
    ap (λ (s : Said). told_where s f) (run_second (location_checks location) (span_checks f) (location_numbered location) e)

-- Where all pass, they tell their fields
pub numbers_accepted : (location rest : ℕ) → Located location → Spanned (fields_in location rest)
    → reading_numbers location rest ≡ tells_of (fields_in location rest)
numbers_accepted location rest l s =
    let f : Fields = fields_in location rest in
    location_then location rest (ap (λ (s : Said). s.number) (located_passes location l))
    ∙ ap (λ (s : Said). told_where s f) (spanned_passes f s)

-- A telling with number 0 comes from checks that say 0
told_zero : (s : Said) (f : Fields) → (told_where s f).said.number ≡ 0 → s.number ≡ 0
told_zero s f e = at (eqb s.number 0) refl e
  where
    at : (b : Bool) → eqb s.number 0 ≡ b → (cond b (tells_of f) (tells_nothing s)).said.number ≡ 0 → s.number ≡ 0
    at true k h = eqb-true s.number 0 k
    at false k h = h

-- Twenty letters tell what their two numbers tell
pub reading_letters : {text : List ℕ} → TwentyLetters text → reading text ≡ reading_numbers (location_in text) (rest_in text)
unfolding reading
reading_letters t = ap reading_on (letters_spell t)

-- The two steps of reading are one table: 11 to 18, in order
pub reading_in_order : (text : List ℕ) → reading text
    ≡ told_where (run (text_checks text ++ (location_checks (location_in text) ++ span_checks (fields_in (location_in text) (rest_in text)))))
    (fields_in (location_in text) (rest_in text))
unfolding reading reading_numbers numbers_in
reading_in_order text =
    let f : Fields = fields_in (location_in text) (rest_in text) in
    let later = location_checks (location_in text) ++ span_checks f in
    at (run (text_checks text)) (eqb (run (text_checks text)).number 0) refl
    ∙ sym (ap (λ (s : Said). told_where s f) (run_append (text_checks text) later (text_numbered text)))
  where
    at : (s : Said) (b : Bool) → eqb s.number 0 ≡ b → reading_on (cond b (two_numbers (location_in text) (rest_in text)) (no_numbers s))
        ≡ told_where (cond b (run (location_checks (location_in text) ++ span_checks (fields_in (location_in text) (rest_in text)))) s)
        (fields_in (location_in text) (rest_in text))
    at s true k = refl
    at s false k = rw k

-- A text that reading accepts: twenty letters, whose location, scale and spans a code can have
pub record Readable (text : List ℕ) : Type 0 where
  pub letters : TwentyLetters text
  pub located : Located (location_in text)
  pub spanned : Spanned (fields_in (location_in text) (rest_in text))

-- It tells its fields
pub reading_accepted : {text : List ℕ} → Readable text → reading text ≡ tells_of (fields_in (location_in text) (rest_in text))
reading_accepted {text} r = reading_letters r.letters ∙ numbers_accepted (location_in text) (rest_in text) r.located r.spanned

-- and no other text is accepted
pub accepted_reading : (text : List ℕ) → (reading text).said ≡ accepted → Readable text
accepted_reading text e =
    let f : Fields = fields_in (location_in text) (rest_in text) in
    let later = location_checks (location_in text) ++ span_checks f in
    let told : (told_where (run (text_checks text ++ later)) f).said.number ≡ 0 =
    ap (λ (t : Told). t.said.number) (sym (reading_in_order text)) ∙ ap (λ (s : Said). s.number) e in
    let text_zero = both_pass (text_checks text) later (text_numbered text) (told_zero (run (text_checks text ++ later)) f told) in
    let zero = both_pass (location_checks (location_in text)) (span_checks f) (location_numbered (location_in text)) text_zero.1 in
    record {
      letters = text_passed text text_zero.0;
      located = location_passed (location_in text) zero.0;
      spanned = spans_passed f zero.1;
    }
