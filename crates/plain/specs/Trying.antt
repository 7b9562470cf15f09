-- What the plain road tries: a cell of levels 9 to 27 within the range, so that the test of the boundary is what document 01 says of it
-- ("The cell inside"). Assumes nothing.
use Rattle.std.specs.Prelude.{ℕ, ◌≤◌, ◌<◌, ◌≡◌, Bool, cond, ◌&&◌, List, Some, None}
use Rattle.std.proofs.Common.{sym, ap, subst, ◌∙◌}
use Rattle.ground.specs.declared.Rectangle.{Rectangle}
use Rattle.ground.specs.declared.Cell.{Cell}
use Rattle.ground.specs.Levels.{lat, lon, lat_end, IsLevel}
use Rattle.ground.specs.Cells.{low_side, sides_of, IsCell, is_cell}
use Rattle.ground.proofs.CellsLaws.{is_cell_lem}
use Rattle.ground.proofs.SidesLaws.{side_end}
use Rattle.edge.specs.Edge.{Edge}
use Rattle.boundary.specs.Boundary.{inside}
use Rattle.chosen.specs.Chosen.{try_south, try_west, try_level}
use Rattle.plain.specs.Asked.{West}
use Rattle.plain.specs.Turns.{SidesLeft, sides_begin}

-- What is tried is a cell
tried_cell : {level west south end : ℕ} → IsLevel level → West level west → low_side level south ≡ south → south < end → end ≤ lat_end
    → IsCell (record { level = level; west = lon west; south = lat south })
unfolding sides_of
tried_cell l w is less most =
    record {
      level = l;
      west = w.is;
      south = is;
      east_end = w.end;
      north_end = side_end _ l 90 is less most;
    }

-- and what the boundary says of it tells what trying gives
pub south_tried : (es : List Edge) {level west south end : ℕ} → IsLevel level → West level west → low_side level south ≡ south
    → south < end → end ≤ lat_end
    → {b t : Bool}
    → b ≡ (is_cell (record { level = level; west = lon west; south = lat south })
    && inside es (record { level = level; west = lon west; south = lat south }))
    → b ≡ t
    → try_south es level west south ≡ cond t (Some (record { level = level; west = lon west; south = lat south })) None
south_tried es {level} {west} {south} l w is less most {b} {t} says e =
    let c : Cell = record { level = level; west = lon west; south = lat south } in
    let told : inside es c ≡ t = sym (says ∙ ap (λ (x : Bool). x && inside es c) (is_cell_lem c (tried_cell l w is less most))) ∙ e in
    ap (λ (x : Bool). cond x (Some c) None) told

module _ (r : Rectangle) (es : List Edge) {level a : ℕ} (l : IsLevel level) where
  -- At first all south sides over the extent are to be tried
  pub souths_begin : (west : ℕ) → a ≡ low_side level r.south.0
      → SidesLeft (try_south es level west) level r.north.0 (try_west r es level west) a
  souths_begin west e =
      subst (SidesLeft (try_south es level west) level r.north.0 (try_west r es level west)) (sym e)
      (sides_begin l r.south.0 r.north.0)

  -- and all west sides
  pub wests_begin : a ≡ low_side level r.west.0 → SidesLeft (try_west r es level) level r.east.0 (try_level r es level) a
  wests_begin e =
      subst (SidesLeft (try_west r es level) level r.east.0 (try_level r es level)) (sym e) (sides_begin l r.west.0 r.east.0)
