-- `ground::size` meets its contract: halving works out what the table of document 01 says. Assumes nothing.
use native.Mathlib.Omega.{arith}
use mathlib.Core.Path.{ap, sym, ◌∙◌}
use mathlib.Core.Logic.{inl, inr}
use borrow.Author.Rules.{rules}
use Rattle.ground.specs.Levels.{size_of}
use Rattle.ground.proofs.LevelsLaws.{size_none, size_seconds, size_minutes, size_coarsest}
use Rattle.ground.proofs.size.Goals as goal

pub returns-then-level-gt-FINEST : goal.returns-then-level-gt-FINEST
returns-then-level-gt-FINEST c = sym (size_none c.args.level (inr c.if-level-gt-FINEST.true))

pub returns-then-level-gt-MINUTE_LEVEL : goal.returns-then-level-gt-MINUTE_LEVEL
returns-then-level-gt-MINUTE_LEVEL c = sym (size_seconds c.args.level (omega arith) c.if-level-gt-MINUTE_LEVEL.true)

pub returns-then-level-gt-COARSEST : goal.returns-then-level-gt-COARSEST
returns-then-level-gt-COARSEST c = sym (size_minutes c.args.level (omega arith) c.if-level-gt-COARSEST.true (search rules))

pub returns-then-level-eq-COARSEST : goal.returns-then-level-eq-COARSEST
returns-then-level-eq-COARSEST c = sym (ap size_of c.if-level-eq-COARSEST.true ∙ size_coarsest)

pub returns-else-level-eq-COARSEST : goal.returns-else-level-eq-COARSEST
returns-else-level-eq-COARSEST c = sym (size_none c.args.level (inl (omega (arith, c.if-level-eq-COARSEST.false))))
