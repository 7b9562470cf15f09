-- The extents of a unit (document 01, "Replies" and "Scale"). Assumes nothing.
use Rattle.std.specs.Prelude.{ℕ, ◌-◌, min, max, List, [], ◌∷◌, map}
use Rattle.ground.specs.declared.Point.{Point}
use Rattle.ground.specs.declared.Rectangle.{Rectangle}
use Rattle.ground.specs.Levels.{lat, lon}

-- The least and the greatest of some angles, 0 where there are none
abbrev pub least_from : ℕ → List ℕ → ℕ
least_from x [] = x
least_from x (y ∷ ys) = least_from (min x y) ys

abbrev pub greatest_from : ℕ → List ℕ → ℕ
greatest_from x [] = x
greatest_from x (y ∷ ys) = greatest_from (max x y) ys

abbrev pub least : List ℕ → ℕ
least [] = 0
least (x ∷ xs) = least_from x xs

abbrev pub greatest : List ℕ → ℕ
greatest [] = 0
greatest (x ∷ xs) = greatest_from x xs

abbrev pub lats : List Point → List ℕ
lats corners = map (λ p. p.lat.0) corners

abbrev pub lons : List Point → List ℕ
lons corners = map (λ p. p.lon.0) corners

-- The unit's own extremes: least and greatest longitude, least and greatest latitude
unfoldable pub extremes_of : List Point → Rectangle
extremes_of corners = record {
  west = lon (least (lons corners));
  east = lon (greatest (lons corners));
  south = lat (least (lats corners));
  north = lat (greatest (lats corners));
}

-- The two extents
abbrev pub lat_extent : Rectangle → ℕ
lat_extent r = r.north.0 - r.south.0

abbrev pub lon_extent : Rectangle → ℕ
lon_extent r = r.east.0 - r.west.0

-- Span is the larger of the two extents
abbrev pub span_of : Rectangle → ℕ
span_of r = max (lat_extent r) (lon_extent r)
