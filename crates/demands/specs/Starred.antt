-- The starred cases of document 01 ("Tried on both sides", 1 to 10; 5 as in document 02, request 2): one table, and one statement about
-- the definitions that the checker computes. Assumes nothing.
use Rattle.std.specs.Prelude.{ℕ, Option, Some, None, ◌+◌, ◌*◌, ◌/◌, ◌%◌, Bool, true, false, ◌&&◌, List, [], ◌∷◌, map, T, eqb, replicate}
use Prim.Native.String.{String}
use Rattle.replies.specs.Replies.{Said}
use Rattle.facts.specs.Texts.{bytes, same_text}
use Rattle.ground.specs.declared.Point.{Point}
use Rattle.ground.specs.declared.Rectangle.{Rectangle}
use Rattle.ground.specs.declared.Cell.{Cell}
use Rattle.ground.specs.Levels.{second, minute, degree, size_of}
use Rattle.ground.specs.Cells.{afresh, low_side, high_side, sides_of, location_cell, corner_of}
use Rattle.ground.specs.Rectangles.{at, south_west, centre_of}
use Rattle.letters.specs.Letters.{letters, spelled_in}
use Rattle.boundary.specs.Boundary.{edges_of, places_of, ground_inside}
use Rattle.side.specs.Side.{left, left_or_on}
use Rattle.edge.specs.Edge.{misses, crosses_east}
use Rattle.pair.specs.Pair.{overlapping, aside_of, share_point, share_more}
use Rattle.crossed.specs.Crossed.{placed_of, meet, pair_of}
use Rattle.location.specs.Location.{bits_of, angle_in, paired, latters, location_of}
use Rattle.spelling.specs.Spelling.{spelled_both, text_checks, numbers_in}
use Rattle.code.specs.Code.{rest_of, code_of, rectangle_of, fields_in, location_checks, span_checks, Told, reading_numbers, reading}
use Rattle.unit.specs.declared.Kind.{Kind}
use Rattle.unit.specs.declared.Kind.TheVariants.{Building, Other}
use Rattle.corners.specs.Corners.{corners_of}
use Rattle.unit.specs.Extents.{extremes_of}
use Rattle.chosen.specs.Chosen.{choose}
use Rattle.unit.specs.Unit.{scale_of, fields_at, level_of, fields_of, chosen_cell, corner_checks, coding}

-- What a case tries, and what comes out
pub data Case : Type 0 where
  codes : Kind → ℕ → List ℕ → String → Case
  refuses : Kind → ℕ → List ℕ → ℕ → Case
  one_cell : List ℕ → ℕ → ℕ → ℕ → Case
  centres : List ℕ → ℕ → ℕ → ℕ → Case
  reads : String → ℕ → ℕ → ℕ → ℕ → Case
  refuses_text : String → ℕ → ℕ → Case
  scales : ℕ → ℕ → Case
  spells : List ℕ → String → Case

-- An angle of so many degrees, minutes and seconds
abbrev pub angle : ℕ → ℕ → ℕ → ℕ
angle degrees minutes seconds = degrees * degree + minutes * minute + seconds * second

-- The table; corners are (latitude, longitude)
abbrev pub starred : List Case
starred =
    -- 1
    codes Building 1 (294250496 ∷ 857567232 ∷ 294250496 ∷ 857569280 ∷ 294252544 ∷ 857569280 ∷ 294252544 ∷ 857567232 ∷ [])
    "0W7ARCTDHYYRA99A0001"
    -- the unit is one 1-second cell, of level 21, at 39°54'37", 116°18'54"
    ∷ one_cell (294250496 ∷ 857567232 ∷ 294250496 ∷ 857569280 ∷ 294252544 ∷ 857569280 ∷ 294252544 ∷ 857567232 ∷ []) 21 (angle 39 54 37)
    (angle 116 18 54)
    -- 2: west, east, south, north
    ∷ reads "0W7ARCTDHYYRA99A0001" 857567200 857569376 294250464 294252640
    -- 3: 48 seconds are 98,304 u, 60 are 122,880
    ∷ codes Other 0 (98304 ∷ 98304 ∷ 98304 ∷ 122880 ∷ 122880 ∷ 122880 ∷ 122880 ∷ 98304 ∷ []) "000000XCYYYNEDDE0000"
    -- its cut level 17 cell has its centre at 54 seconds, which are 110,592 u
    ∷ centres (98304 ∷ 98304 ∷ 98304 ∷ 122880 ∷ 122880 ∷ 122880 ∷ 122880 ∷ 98304 ∷ []) 17 110592 110592
    -- 4
    ∷ codes Other 0 (0 ∷ 0 ∷ 0 ∷ 960 ∷ 32 ∷ 960 ∷ 32 ∷ 0 ∷ []) "00000000001UY1120000"
    -- 5
    ∷ codes Other 0 (0 ∷ 0 ∷ 0 ∷ 961 ∷ 32 ∷ 961 ∷ 32 ∷ 0 ∷ []) "00000000001TH1120000"
    -- 6
    ∷ refuses Other 0 (0 ∷ 0 ∷ 0 ∷ 32 ∷ 32 ∷ 0 ∷ []) 7
    -- 7
    ∷ scales 1023 27
    ∷ scales 1024 26
    -- 8
    ∷ spells (2 ∷ 0 ∷ 1 ∷ 0 ∷ 0 ∷ 2 ∷ 0 ∷ 1 ∷ 0 ∷ 0 ∷ 2 ∷ 0 ∷ 1 ∷ 0 ∷ 0 ∷ 2 ∷ 0 ∷ 1 ∷ 0 ∷ 0 ∷ 2 ∷ 0 ∷ 1 ∷ 0 ∷ 0 ∷ 2 ∷ 0 ∷ []) "GGGGGGGGGGH"
    -- 9
    ∷ refuses_text "GGGGGGGGGGHUY1120000" 14 0
    ∷ refuses_text "GGGGGGGGGGGUY1120000" 13 0
    -- 10
    ∷ refuses_text "00000000001UY112000O" 12 19
    ∷ []

-- An answer says a number and a place
abbrev pub saying : Said → ℕ → ℕ → Bool
saying s number place = eqb s.number number && eqb s.place place

-- A reading is accepted with these sides
abbrev pub sides : Told → ℕ → ℕ → ℕ → ℕ → Bool
sides t west east south north =
    saying t.said 0 0 && eqb t.rectangle.west.0 west && eqb t.rectangle.east.0 east
    && eqb t.rectangle.south.0 south && eqb t.rectangle.north.0 north

-- A point has this latitude and longitude
abbrev pub lies : Point → ℕ → ℕ → Bool
lies p lat lon = eqb p.lat.0 lat && eqb p.lon.0 lon

-- Two rectangles have the same sides
abbrev pub same_sides : Rectangle → Rectangle → Bool
same_sides r s = lies (south_west r) s.south.0 s.west.0 && lies (at r.north r.east) s.north.0 s.east.0

-- A chosen cell has a level and its south-west corner this latitude and longitude, and the unit's extents are its sides
abbrev pub is_unit : Option Cell → Rectangle → ℕ → ℕ → ℕ → Bool
is_unit None r level lat lon = false
is_unit (Some c) r level lat lon = eqb c.level level && lies (corner_of c) lat lon && same_sides (sides_of c) r

-- A cell's centre, halfway between its sides as cut
abbrev pub centre : Cell → Point
centre c = centre_of (sides_of c)

-- A chosen cell has a level, and its centre this latitude and longitude
abbrev pub centred : Option Cell → ℕ → ℕ → ℕ → Bool
centred None level lat lon = false
centred (Some c) level lat lon = eqb c.level level && lies (centre c) lat lon

-- Twenty bytes of room
abbrev pub room : List ℕ
room = replicate 20 46

-- The number that bits make, high first
abbrev pub bits_from : ℕ → List ℕ → ℕ
bits_from x [] = x
bits_from x (b ∷ bs) = bits_from (x * 2 + b) bs

-- Annex B's digits hold a latitude's bit and a longitude's; a 1 is added at the end
abbrev pub annex_b : List ℕ → List ℕ
annex_b digits =
    spelled_in letters 11 (paired 27 (bits_from 0 (map (λ d. d / 2) digits)) (bits_from 0 (map (λ d. d % 2) digits)) * 2 + 1)

-- A case comes out as the table says
abbrev pub holds : Case → Bool
holds (codes kind number corners code) =
    saying (coding room corners kind number).said 0 0 && same_text (coding room corners kind number).room (bytes code)
holds (refuses kind number corners refusal) =
    saying (coding room corners kind number).said refusal 0 && same_text (coding room corners kind number).room room
holds (one_cell corners level lat lon) = is_unit (chosen_cell (corners_of corners)) (extremes_of (corners_of corners)) level lat lon
holds (centres corners level lat lon) = centred (chosen_cell (corners_of corners)) level lat lon
holds (reads code west east south north) = sides (reading (bytes code)) west east south north
holds (refuses_text text refusal place) = saying (reading (bytes text)).said refusal place
holds (scales span level) = eqb (scale_of span) level
holds (spells digits text) = same_text (annex_b digits) (bytes text)

-- Every case of a table comes out so
abbrev pub every : List Case → Bool
every [] = true
every (c ∷ cs) = holds c && every cs

-- The starred cases hold of the definitions
pub starred_hold : T (every starred)
unfolding size_of
    afresh
    low_side
    high_side
    sides_of
    centre_of
    location_cell
    edges_of
    places_of
    left
    left_or_on
    misses
    crosses_east
    ground_inside
    overlapping
    aside_of
    share_point
    share_more
    placed_of
    meet
    pair_of
    bits_of
    angle_in
    paired
    latters
    location_of
    rest_of
    spelled_both
    code_of
    rectangle_of
    fields_in
    text_checks
    numbers_in
    location_checks
    span_checks
    reading_numbers
    reading
    corners_of
    extremes_of
    choose
    scale_of
    fields_at
    level_of
    fields_of
    corner_checks
    coding
starred_hold = tt
