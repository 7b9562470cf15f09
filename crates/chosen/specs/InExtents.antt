-- A cell that is inside lies within the extents (document 01, "The cell inside" and "Scale"). Assumes nothing.
use Rattle.std.specs.Prelude.{◌-◌, ◌≤◌, ◌<◌, ◌≡◌, true, false, List}
use Rattle.std.proofs.Common.{arith, sym, ◌∙◌, true≢false}
use Rattle.facts.specs.Numbers.{not_above}
use Rattle.facts.specs.Lists.{Each, each_so}
use Rattle.ground.specs.declared.Point.{Point}
use Rattle.ground.specs.declared.Rectangle.{Rectangle}
use Rattle.ground.specs.declared.Cell.{Cell}
use Rattle.ground.specs.Levels.{lat, lon}
use Rattle.ground.specs.Rectangles.{Within, Holds, Lies, Wide}
use Rattle.ground.specs.Cells.{sides_of, IsCell, corner_of}
use Rattle.ground.proofs.CellsLaws.{cell_wide}
use Rattle.edge.specs.Edge.{Edge}
use Rattle.boundary.specs.Boundary.{point_inside, inside}
use Rattle.boundary.specs.Closed.{Closed, Ends, west_apart, east_apart, south_apart, north_apart}
use Rattle.boundary.proofs.InsideLaws.{inside_point}
use Rattle.chosen.specs.Chosen.{Over}

module _ {r : Rectangle} {es : List Edge} (o : Over r es) (c : Cell) (is : IsCell c) (t : inside es c ≡ true) where
  wide : Wide (sides_of c)
  wide = cell_wide c is.level

  -- A point of the cell is inside, so that the extents are not all on one side of it
  never : (p : Point) → Lies (sides_of c) p → (P : Point → Type 0) → ((v : Point) → Holds r v → P v)
      → (Closed es → Each (Ends P) es → point_inside p es ≡ false) → ⊥
  never p lies P all apart =
      let ends : Each (Ends P) es = each_so (λ e h. (all e.start h.0, all e.end h.1)) es o.held in
      true≢false (sym (inside_point es (sides_of c) t o.closed lies) ∙ apart o.closed ends)

  -- A cell that is inside lies within the extents
  pub in_extents : Within (sides_of c) r
  unfolding sides_of
  in_extents =
      let within_low : Lies (sides_of c) low = omega (arith, wide.across, wide.up) in
      let within_east : Lies (sides_of c) east = omega (arith, wide.across, wide.up) in
      let within_north : Lies (sides_of c) north = omega (arith, wide.across, wide.up) in
      record {
        west = not_above λ h. never low within_low (λ v. low.lon.0 < v.lon.0) (λ v k. omega (arith, k.west)) (west_apart low);
        east = not_above λ h. never east within_east (λ v. v.lon.0 ≤ east.lon.0) (λ v k. omega (arith, k.east, wide.across)) (east_apart east);
        south = not_above λ h. never low within_low (λ v. low.lat.0 < v.lat.0) (λ v k. omega (arith, k.south)) (south_apart low);
        north = not_above λ h. never north within_north (λ v. v.lat.0 ≤ north.lat.0) (λ v k. omega (arith, k.north, wide.up)) (north_apart north);
      }
    where
      low : Point
      low = corner_of c

      east : Point
      east = record { lat = c.south; lon = lon ((sides_of c).east.0 - 1) }

      north : Point
      north = record { lat = lat ((sides_of c).north.0 - 1); lon = c.west }
