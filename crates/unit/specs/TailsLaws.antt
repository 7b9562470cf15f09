-- Long tails (document 02, request 2): within the 1° extent one step always suffices. At L 14 no span is above 31; one level coarser than
-- a finer L the spans are at most 19. So the level of a code is 14 to 27 and its spans are at most 31. Assumes nothing.
use Rattle.std.specs.Prelude.{ℕ, ◌≤◌, ◌<◌, ◌≡◌, Bool, true, false, cond, ◌||◌, ◌⊎◌, ltb}
use Rattle.std.proofs.Common.{arith, sym, ◌∙◌, true≢false, inl, inr, ltb-false, le-ltb}
use Rattle.std.proofs.Math.Path.{refl}
use Rattle.facts.specs.Numbers.{either_way}
use Rattle.facts.specs.Tests.{neither, none_of}
use Rattle.ground.specs.declared.Point.{Point}
use Rattle.ground.specs.declared.Rectangle.{Rectangle}
use Rattle.ground.specs.Levels.{degree}
use Rattle.code.specs.declared.Fields.{Fields}
use Rattle.code.specs.Code.{finest_scale}
use Rattle.unit.specs.Extents.{span_of}
use Rattle.unit.specs.Unit.{scale_of, fields_at, above31, coarser, level_of}
use Rattle.unit.specs.ScaleLaws.{scale_level, coarser_level, scale_written, reach_14, reach_coarser}
use Rattle.unit.specs.SpansLaws.{ReferenceIn, SpansMost, spans_most}

-- Fields of which none of the four is above 31 have spans of at most 31
below_31 : (f : Fields) → above31 f ≡ false → SpansMost 31 f
below_31 f e =
    let ew_sn = neither (ltb 31 f.east || ltb 31 f.west) (ltb 31 f.south || ltb 31 f.north) e in
    let ew = neither (ltb 31 f.east) (ltb 31 f.west) ew_sn.0 in
    let sn = neither (ltb 31 f.south) (ltb 31 f.north) ew_sn.1 in
    record {
      east = ltb-false 31 f.east ew.0;
      west = ltb-false 31 f.west ew.1;
      south = ltb-false 31 f.south sn.0;
      north = ltb-false 31 f.north sn.1;
    }

-- and the other way
none_above : (f : Fields) → SpansMost 31 f → above31 f ≡ false
none_above f m =
    none_of (none_of (le-ltb 31 f.east m.east) (le-ltb 31 f.west m.west))
    (none_of (le-ltb 31 f.south m.south) (le-ltb 31 f.north m.north))

-- A scale that a code can have, and spans of at most 31
pub record Fits (f : Fields) : Type 0 where
  pub least : 14 ≤ f.scale
  pub most : f.scale ≤ finest_scale
  pub spans : SpansMost 31 f

-- From a reference within extents of at most a degree
module _ {r : Rectangle} {p : Point} (w : ReferenceIn r p) (small : span_of r ≤ degree) (number : ℕ) where
  -- L as in document 01
  abbrev first : ℕ
  first = scale_of (span_of r)

  -- At L 14 no span is above 31
  pub spans_14 : first ≡ 14 → SpansMost 31 (fields_at first r number p)
  spans_14 e = spans_most w first (scale_level (span_of r)) number 30 (reach_14 (span_of r) small e)

  -- One level coarser than a finer L they are at most 19
  pub spans_coarser : 14 < first → SpansMost 19 (fields_at (coarser first) r number p)
  spans_coarser h =
      spans_most w (coarser first) (coarser_level (scale_level (span_of r))) number 18 (reach_coarser (span_of r) small h)

  -- So one step always suffices
  pub one_step : Fits (fields_at (level_of r number p) r number p)
  unfolding fields_at level_of
  one_step = at (above31 (fields_at first r number p)) refl (either_way first 14)
    where
      written : (14 ≤ first) × (first ≤ finest_scale)
      written = scale_written (span_of r) small

      at : (b : Bool) → above31 (fields_at first r number p) ≡ b → (first ≤ 14) ⊎ (14 < first)
          → Fits (fields_at (cond b (coarser first) first) r number p)
      at false e side = record { least = written.0; most = written.1; spans = below_31 (fields_at first r number p) e }
      at true e (inl low) =
          let same : first ≡ 14 = omega (arith, written) in
          absurd (true≢false (sym e ∙ none_above (fields_at first r number p) (spans_14 same)))
      at true e (inr high) =
          let few = spans_coarser high in
          record {
            least = omega arith;
            most = omega (arith, written);
            spans = record {
              east = omega (arith, few.east);
              west = omega (arith, few.west);
              south = omega (arith, few.south);
              north = omega (arith, few.north);
            };
          }
