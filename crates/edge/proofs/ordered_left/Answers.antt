-- `edge::ordered_left` meets its contract: the corner furthest right tells for all four. Assumes nothing.
use mathlib.Core.Path.{ap, ap₂, sym, ◌∙◌}
use mathlib.Core.Bool.{not}
use Rattle.ground.specs.declared.Lat.{Lat}
use Rattle.ground.specs.declared.Lon.{Lon}
use Rattle.side.specs.Side.{left}
use Rattle.edge.specs.Extreme.{extreme, all_left_lem}
use Rattle.side.specs.SideLaws.{not_right}
use Rattle.edge.proofs.ordered_left.Goals as goal

pub returns : goal.returns
returns c =
    let a = c.args in
    ap not
    (c.right.ensures
    ∙ ap₂ (λ (y : Lat) (x : Lon). left a.b a.a (record { lat = y; lon = x })) c.extreme_lat.ensures
    c.extreme_lon.ensures)
    ∙ sym (not_right a.a a.b (extreme a.a a.b a.r))
    ∙ sym (all_left_lem a.a a.b a.r c.requires)
