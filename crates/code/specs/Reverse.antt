-- Reading is the reverse of writing (the mission's demand 2), for all inputs. Assumes nothing.
use Rattle.std.specs.Prelude.{ℕ, ◌≤◌, ◌≡◌, List, ◌++◌, length, take, drop}
use Rattle.std.proofs.Common.{arith, ap, ◌∙◌, sym, take_at}
use Rattle.std.proofs.Math.Path.{ap₂, subst}
use Rattle.replies.specs.Replies.{accepted, Outcome, outcome}
use Rattle.location.specs.Location.{location_of, lat_in, lon_in}
use Rattle.location.specs.LocationLaws as location
use Rattle.spelling.specs.Spelling.{spelled_both, location_in, rest_in}
use Rattle.spelling.specs.SpellingLaws as spelling
use Rattle.code.specs.declared.Fields.{Fields}
use Rattle.code.specs.Code.{rest_of, code_of, fields_in, writing, reading, Told, tells_of}
use Rattle.code.specs.WritingLaws.{Good, code_twenty, accepted_writing, good_writing}
use Rattle.code.specs.FieldsLaws.{fields_back, rest_below, rest_back}
use Rattle.code.specs.ReadingLaws.{Located, Spanned, Readable, reading_accepted, accepted_reading}

module _ (f : Fields) (g : Good f) where
  -- The two numbers of the code of good fields are those it was written from
  code_location : location_in (code_of f) ≡ location_of f.reference
  unfolding code_of
  code_location = spelling.location_read (location_of f.reference) (rest_of f) (location.location_below f.reference)

  code_rest : rest_in (code_of f) ≡ rest_of f
  unfolding code_of
  code_rest = spelling.rest_read (location_of f.reference) (rest_of f) (rest_below f g)

  -- and so are its fields
  code_fields : fields_in (location_in (code_of f)) (rest_in (code_of f)) ≡ f
  code_fields = ap₂ fields_in code_location code_rest ∙ fields_back f g

  good_located : Located (location_of f.reference)
  good_located =
      let p = f.reference in
      let lat_bits = location.lat_back p g.lat g.lon (omega arith) (omega arith) in
      let lon_bits = location.lon_back p g.lat g.lon (omega arith) (omega arith) in
      record {
        closed = location.location_odd p;
        lat = subst (location.Sixtieths 89) (sym lat_bits) (location.bits_sixtieths 89 p.lat.0 g.lat.below);
        lon = subst (location.Sixtieths 179) (sym lon_bits) (location.bits_sixtieths 179 p.lon.0 g.lon.below);
      }

  good_spanned : Spanned f
  good_spanned = record { scale = g.scale; east = g.east.0; north = g.north.0; west = g.west.0; south = g.south.0 }

  -- It can be read
  code_readable : Readable (code_of f)
  unfolding code_of
  code_readable = record {
    letters = spelling.spelled_letters (location_of f.reference) (rest_of f);
    located = subst Located (sym code_location) good_located;
    spanned = subst Spanned (sym code_fields) good_spanned;
  }

  -- Reading the code of good fields tells them
  pub reading_code : reading (code_of f) ≡ tells_of f
  reading_code = reading_accepted code_readable ∙ ap tells_of code_fields

module _ {text : List ℕ} (r : Readable text) where
  -- The fields that a readable text tells are good
  told_good : Good (fields_in (location_in text) (rest_in text))
  unfolding fields_in
  told_good =
      let s = r.spanned in
      record {
        lat = location.told_angle 89 (lat_in (location_in text)) r.located.lat;
        lon = location.told_angle 179 (lon_in (location_in text)) r.located.lon;
        scale = s.scale;
        east = (s.east, omega arith);
        north = (s.north, omega arith);
        west = (s.west, omega arith);
        south = (s.south, omega arith);
        number = omega arith;
      }

  -- Their code is the text
  pub code_reading : code_of (fields_in (location_in text) (rest_in text)) ≡ text
  unfolding code_of fields_in
  code_reading =
      ap₂ spelled_both
      (location.location_back (location_in text) (spelling.location_in_below r.letters) r.located.closed r.located.lat r.located.lon)
      (rest_back (location_in text) (rest_in text) (spelling.rest_in_below r.letters))
      ∙ spelling.spelled_back r.letters

-- Reading what writing accepted gives the fields back
pub reading_written : (room : List ℕ) (f : Fields) → (writing room f).said ≡ accepted → reading (take 20 (writing room f).room) ≡ tells_of f
reading_written room f e =
    let a = accepted_writing room f e in
    ap (λ (o : Outcome). reading (take 20 o.room)) (good_writing room f a.0 a.1)
    ∙ ap reading (take_at (code_of f) (drop 20 room) 20 (code_twenty f))
    ∙ reading_code f a.1

-- Writing what reading accepted gives the same twenty bytes, into any room that has twenty, and no others
pub writing_read : (text room : List ℕ) → (reading text).said ≡ accepted → 20 ≤ length room
    → writing room (reading text).fields ≡ record { said = accepted; room = text ++ drop 20 room }
writing_read text room e h =
    let r = accepted_reading text e in
    ap (λ (t : Told). writing room t.fields) (reading_accepted r)
    ∙ good_writing room (fields_in (location_in text) (rest_in text)) h (told_good r)
    ∙ ap (λ (s : List ℕ). outcome accepted s room) (code_reading r)
