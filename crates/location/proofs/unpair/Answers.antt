-- `location::unpair` meets its contract: three times nine bits, by the law. Assumes nothing.
use native.Mathlib.Omega.{arith}
use Rattle.location.specs.LocationLaws.{latters_most, latters_split}
use Rattle.location.proofs.unpair.Goals as goal

pub overflow_mul-result : goal.overflow_mul-result
overflow_mul-result c = omega (arith, latters_most 9 _ c.latter_nine.ensures)

pub overflow_mul-result-2 : goal.overflow_mul-result-2
overflow_mul-result-2 c = omega (arith, latters_most 9 _ c.latter_nine-2.ensures)

pub overflow_add-result : goal.overflow_add-result
overflow_add-result c = omega (arith, latters_most 9 _ c.latter_nine.ensures, latters_most 9 _ c.latter_nine-2.ensures)

pub overflow_add-result-2 : goal.overflow_add-result-2
overflow_add-result-2 c =
    omega (arith, latters_most 9 _ c.latter_nine.ensures, latters_most 9 _ c.latter_nine-2.ensures, latters_most 9 _ c.latter_nine-3.ensures)

pub returns : goal.returns
returns c =
    let x = c.args.x in
    omega (arith, latters_split 9 18 x, latters_split 9 9 x)
