-- `edge::each_left` meets its contract: a corner that is right of the line decides, and the last where none is.
-- Assumes nothing.
use Rattle.side.specs.SideLaws.{told_left, not_right}
use Rattle.edge.proofs.each_left.Goals as goal

pub returns-then-right : goal.returns-then-right
returns-then-right c =
    let a = c.args in
    let r = a.r in
    rw (
    told_left a.a a.b (record { lat = r.south; lon = r.west }) c.right.ensures c.if-right.true)

pub returns-then-right-2 : goal.returns-then-right-2
returns-then-right-2 c =
    let a = c.args in
    let r = a.r in
    rw (
      told_left a.a a.b (record { lat = r.south; lon = r.west }) c.right.ensures c.if-right.false,
      told_left a.a a.b (record { lat = r.south; lon = r.east }) c.right-2.ensures c.if-right-2.true,
    )

pub returns-then-right-3 : goal.returns-then-right-3
returns-then-right-3 c =
    let a = c.args in
    let r = a.r in
    rw (
      told_left a.a a.b (record { lat = r.south; lon = r.west }) c.right.ensures c.if-right.false,
      told_left a.a a.b (record { lat = r.south; lon = r.east }) c.right-2.ensures c.if-right-2.false,
      told_left a.a a.b (record { lat = r.north; lon = r.west }) c.right-3.ensures c.if-right-3.true,
    )

pub returns : goal.returns
returns c =
    let a = c.args in
    let r = a.r in
    rw (
      c.right-4.ensures,
      told_left a.a a.b (record { lat = r.south; lon = r.west }) c.right.ensures c.if-right.false,
      told_left a.a a.b (record { lat = r.south; lon = r.east }) c.right-2.ensures c.if-right-2.false,
      told_left a.a a.b (record { lat = r.north; lon = r.west }) c.right-3.ensures c.if-right-3.false,
      not_right a.a a.b (record { lat = r.north; lon = r.east }),
    )
