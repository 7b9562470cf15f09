-- The twenty characters (document 01, "The twenty characters" and "Replies"): the fields of a code and its two numbers, the rectangle, and
-- what writing and reading answer. Assumes nothing.
use Rattle.std.specs.Prelude.{ℕ, ◌+◌, ◌-◌, ◌*◌, ◌/◌, ◌%◌, ◌^◌, min, Bool, cond, not, ◌||◌, List, [], ◌∷◌, ◌++◌, eqb, leb, ltb, length, Result, Ok, Err}
use Rattle.replies.specs.Replies.{Said, refused, accepted, Check, check, run, Outcome, outcome}
use Rattle.ground.specs.declared.Point.{Point}
use Rattle.ground.specs.declared.Rectangle.{Rectangle}
use Rattle.ground.specs.Levels.{lat, lon, lat_end, lon_end, size_of}
use Rattle.ground.specs.Cells.{location_size}
use Rattle.letters.specs.Digits.{value_of}
use Rattle.location.specs.Location.{location_of, reference_in, lat_in, lon_in, degrees_in, minutes_in, seconds_in, hemisphere_in}
use Rattle.spelling.specs.declared.Misspelled.{Misspelled}
use Rattle.spelling.specs.declared.Misspelled.TheVariants as spelling
use Rattle.spelling.specs.Spelling.{spelled_both, Numbers, numbers_in}
use Rattle.code.specs.declared.Fields.{Fields}
use Rattle.code.specs.declared.WriteError.{WriteError}
use Rattle.code.specs.declared.WriteError.TheVariants as writes
use Rattle.code.specs.declared.Reading.{Reading}
use Rattle.code.specs.declared.ReadError.{ReadError}
use Rattle.code.specs.declared.ReadError.TheVariants as reads

-- The location is one number. The rest is another: scale, 1 character; four spans, order E, W, S, N; unit number, 4 characters, base 32,
-- high first
unfoldable pub rest_of : Fields → ℕ
rest_of f = value_of (f.scale ∷ f.east ∷ f.west ∷ f.south ∷ f.north ∷ []) * 32 ^ 4 + f.number

-- The code of fields: its two numbers spelled
unfoldable pub code_of : Fields → List ℕ
code_of f = spelled_both (location_of f.reference) (rest_of f)

-- The value of a character of the rest, by how many stand after it
abbrev pub character_in : ℕ → ℕ → ℕ
character_in rest after = rest / 32 ^ after % 32

-- The fields that two numbers tell
unfoldable pub fields_in : ℕ → ℕ → Fields
fields_in location rest = record {
  reference = reference_in location;
  scale = character_in rest 8;
  east = character_in rest 7;
  west = character_in rest 6;
  south = character_in rest 5;
  north = character_in rest 4;
  number = rest % 32 ^ 4;
}

-- Reading back: the rectangle runs from the reference by W-1, E-1, S-1 and N-1 cells of size s, and stops at 0, at 90° and at 180°
unfoldable pub rectangle_of : Fields → Rectangle
rectangle_of f = record {
  west = lon (f.reference.lon.0 - (f.west - 1) * size_of f.scale);
  east = lon (min (f.reference.lon.0 + (f.east - 1) * size_of f.scale) lon_end);
  south = lat (f.reference.lat.0 - (f.south - 1) * size_of f.scale);
  north = lat (min (f.reference.lat.0 + (f.north - 1) * size_of f.scale) lat_end);
}

-- Whether a number is outside a range, ends included
abbrev pub outside : ℕ → ℕ → ℕ → Bool
outside least most x = ltb x least || ltb most x

-- A scale is at most 27, whatever the finest level is
abbrev pub finest_scale : ℕ
finest_scale = 27

-- Whether a scale is not 14 to 27
abbrev pub no_scale : ℕ → Bool
no_scale scale = outside 14 finest_scale scale

-- Whether an angle is no multiple of 32, or at or above its end
abbrev pub no_reference : ℕ → ℕ → Bool
no_reference a end = not (eqb (a % location_size) 0) || leb end a

-- Reference not a multiple of 32, or at or above 90° or 180°
abbrev pub no_point : Point → Bool
no_point p = no_reference p.lat.0 lat_end || no_reference p.lon.0 lon_end

-- E or N not 2 to 31, W or S not 1 to 31
abbrev pub no_spans : Fields → Bool
no_spans f = outside 2 31 f.east || outside 2 31 f.north || outside 1 31 f.west || outside 1 31 f.south

-- Writing from fields, 21
unfoldable pub room_check : List ℕ → List Check
room_check room = check 21 (ltb (length room) 20) ∷ []

-- Writing from fields, 22 to 25
unfoldable pub field_checks : Fields → List Check
field_checks f =
    check 22 (no_point f.reference)
    ∷ check 23 (no_scale f.scale)
    ∷ check 24 (no_spans f)
    ∷ check 25 (ltb 1048575 f.number)
    ∷ []

-- Writing, from a room and fields to what it says and the room
unfoldable pub writing : List ℕ → Fields → Outcome
writing room f = outcome (run (room_check room ++ field_checks f)) (code_of f) room

-- The number and the place of each answer of writing
abbrev pub says : Result (Unit {0}) WriteError → Said
says (Ok done) = accepted
says (Err writes.Output) = refused 21 0
says (Err writes.Reference) = refused 22 0
says (Err writes.Scale) = refused 23 0
says (Err writes.Span) = refused 24 0
says (Err writes.Number) = refused 25 0

-- What writing leaves, from its answer and the room
abbrev pub leaves : Result (Unit {0}) WriteError → List ℕ → Outcome
leaves answer room = record { said = says answer; room = room }

-- A hemisphere bit 1
abbrev pub other_hemisphere : ℕ → Bool
other_hemisphere location = ltb 0 (hemisphere_in (lat_in location)) || ltb 0 (hemisphere_in (lon_in location))

-- Latitude degrees above 89 or longitude degrees above 179
abbrev pub past_degrees : ℕ → Bool
past_degrees location = ltb 89 (degrees_in (lat_in location)) || ltb 179 (degrees_in (lon_in location))

-- Minutes or seconds above 59, in the bits of a direction
abbrev pub past59 : ℕ → Bool
past59 bits = ltb 59 (minutes_in bits) || ltb 59 (seconds_in bits)

-- E or N below 2, W or S below 1
abbrev pub short_span : Fields → Bool
short_span f = (ltb f.east 2 || ltb f.north 2) || (ltb f.west 1 || ltb f.south 1)

-- Reading, 11 and 12, is on the text: `textChecks` of spelling. 13 to 16 is on the location
unfoldable pub location_checks : ℕ → List Check
location_checks location =
    check 13 (eqb (location % 2) 0)
    ∷ check 14 (other_hemisphere location)
    ∷ check 15 (past_degrees location)
    ∷ check 16 (past59 (lat_in location) || past59 (lon_in location))
    ∷ []

-- Reading, 17 and 18, is on the fields
unfoldable pub span_checks : Fields → List Check
span_checks f =
    check 17 (no_scale f.scale)
    ∷ check 18 (short_span f)
    ∷ []

-- What reading tells: number and place, every field and rectangle side
pub record Told : Type 0 where
  pub said : Said
  pub fields : Fields
  pub rectangle : Rectangle

-- An accepted reading tells the fields and their rectangle
abbrev pub tells_of : Fields → Told
tells_of f = record { said = accepted; fields = f; rectangle = rectangle_of f }

-- A refused reading has every field and rectangle side 0
abbrev pub tells_nothing : Said → Told
tells_nothing s = record {
  said = s;
  fields = record {
    reference = record { lat = lat 0; lon = lon 0 };
    scale = 0;
    east = 0;
    west = 0;
    south = 0;
    north = 0;
    number = 0;
  };
  rectangle = record { west = lon 0; east = lon 0; south = lat 0; north = lat 0 };
}

-- What fields tell where the checks say this
abbrev pub told_where : Said → Fields → Told
told_where said f = cond (eqb said.number 0) (tells_of f) (tells_nothing said)

-- Reading from two numbers, of whatever size: 13 to 18. Bits above the location's 55 and the rest's 45 tell nothing
unfoldable pub reading_numbers : ℕ → ℕ → Told
reading_numbers location rest =
    told_where (run (location_checks location ++ span_checks (fields_in location rest))) (fields_in location rest)

-- What a text tells where it spells this
abbrev pub reading_on : Numbers → Told
reading_on n = cond (eqb n.said.number 0) (reading_numbers n.location n.rest) (tells_nothing n.said)

-- Reading, from a text to what it tells: its two numbers, 11 and 12, and then what they tell, 13 to 18
unfoldable pub reading : List ℕ → Told
reading text = reading_on (numbers_in text)

-- The number, the place, the fields and the sides of each answer of reading
abbrev pub tells : Result Reading ReadError → Told
tells (Ok read) = record { said = accepted; fields = read.fields; rectangle = read.rectangle }
tells (Err reads.Length) = tells_nothing (refused 11 0)
tells (Err (reads.Letter byte)) = tells_nothing (refused 12 byte)
tells (Err reads.Closing) = tells_nothing (refused 13 0)
tells (Err reads.Hemisphere) = tells_nothing (refused 14 0)
tells (Err reads.Degrees) = tells_nothing (refused 15 0)
tells (Err reads.Sixty) = tells_nothing (refused 16 0)
tells (Err reads.Scale) = tells_nothing (refused 17 0)
tells (Err reads.Span) = tells_nothing (refused 18 0)

-- Why a text that spells no numbers is not read
abbrev pub misspelled : Misspelled → ReadError
misspelled spelling.Length = reads.Length
misspelled (spelling.Letter byte) = reads.Letter byte
