-- The page's own input and output (document 01, "The listing program"; its second line as in document 02, request 2), by computation.
-- Assumes nothing.
use Rattle.std.specs.Prelude.{◌≡◌, refl}
use Rattle.facts.specs.Texts.{bytes}
use Rattle.ground.specs.Levels.{size_of}
use Rattle.ground.specs.Cells.{afresh, low_side, high_side, sides_of, location_cell}
use Rattle.ground.specs.Rectangles.{centre_of}
use Rattle.boundary.specs.Boundary.{edges_of, places_of, ground_inside}
use Rattle.side.specs.Side.{left, left_or_on}
use Rattle.edge.specs.Edge.{misses, crosses_east}
use Rattle.pair.specs.Pair.{overlapping, share_point, share_more}
use Rattle.crossed.specs.Crossed.{placed_of, meet, pair_of}
use Rattle.location.specs.Location.{bits_of, paired, location_of}
use Rattle.spelling.specs.Spelling.{spelled_both}
use Rattle.code.specs.Code.{rest_of, code_of}
use Rattle.corners.specs.Corners.{corners_of}
use Rattle.unit.specs.Extents.{extremes_of}
use Rattle.chosen.specs.Chosen.{choose}
use Rattle.unit.specs.Unit.{scale_of, fields_at, level_of, fields_of, corner_checks, coding, kind_of}
use Rattle.lines.specs.Lines.{cut, value_after, is_within, form, lines_of, spelling, reply_line, line_said, replies, output_of}
use Rattle.register.specs.Said.{code_said, said}

page : output_of said (bytes "F 0 0 0 0 960 32 960 32 0\nF 0 0 0 0 961 32 961 32 0\n\nB 0 0 0 0 960 32 960 32 0\n")
    ≡ bytes "1 00000000001UY1120000\n2 00000000001TH1120000\n3 refused 9 0\n4 refused 6 0\n"
unfolding size_of
    afresh
    low_side
    high_side
    sides_of
    centre_of
    location_cell
    edges_of
    places_of
    left
    left_or_on
    misses
    crosses_east
    ground_inside
    overlapping
    share_point
    share_more
    placed_of
    meet
    pair_of
    bits_of
    paired
    location_of
    rest_of
    spelled_both
    code_of
    corners_of
    extremes_of
    choose
    scale_of
    fields_at
    level_of
    fields_of
    corner_checks
    coding
    kind_of
    cut
    value_after
    is_within
    form
    lines_of
    spelling
    reply_line
    line_said
    replies
    output_of
    code_said
page = refl
