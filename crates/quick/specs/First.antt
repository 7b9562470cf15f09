-- What a search gives for a rectangle of ground: the first of what was found before it and of the wanted cells in it, by level, then west
-- side, then south side (document 01, "What the work covers" and "The cell inside"). Assumes nothing.
use Rattle.std.specs.Prelude.{ℕ, ◌≤◌, ◌<◌, ◌≡◌, ◌⊎◌, Bool, true, cond, List, leb, ltb, Option, Some, None}
use Rattle.ground.specs.declared.Lon.{Lon}
use Rattle.ground.specs.declared.Rectangle.{Rectangle}
use Rattle.ground.specs.declared.Cell.{Cell}
use Rattle.ground.specs.Rectangles.{Within}
use Rattle.ground.specs.Cells.{sides_of, IsCell}
use Rattle.edge.specs.Edge.{Edge}
use Rattle.boundary.specs.Boundary.{inside}
use Rattle.chosen.specs.Chosen.{Before}

-- A wanted cell in a rectangle of ground: of a level from one to another, inside, and within the ground
pub record Wanted (es : List Edge) (from finest : ℕ) (r : Rectangle) (c : Cell) : Type 0 where
  pub cell : IsCell c
  pub least : from ≤ c.level
  pub most : c.level ≤ finest
  pub is : inside es c ≡ true
  pub lies : Within (sides_of c) r

-- A cell comes before what is found; where nothing is, each does
abbrev pub Ahead : Cell → Option Cell → Type 0
Ahead d (Some c) = Before d c
Ahead d None = Unit {0}

-- A wanted cell that comes before what was found
abbrev pub Gained : List Edge → ℕ → ℕ → Rectangle → Option Cell → Option Cell → Type 0
Gained es from finest r found (Some c) = Wanted es from finest r c × Ahead c found
Gained es from finest r found None = ⊥

-- The answer is what was found, or such a cell, and no wanted cell comes before it
pub record First (es : List Edge) (from finest : ℕ) (r : Rectangle) (found answer : Option Cell) : Type 0 where
  pub origin : (answer ≡ found) ⊎ Gained es from finest r found answer
  pub none : (d : Cell) → Wanted es from finest r d → Ahead d answer → ⊥

-- Ground lies east of the west side of what is found, or north of its south side, so that no cell there has its west side and is lower
abbrev pub Past : Option Cell → Rectangle → Type 0
Past (Some c) r = (c.west.0 < r.west.0) ⊎ (c.south.0 < r.south.0)
Past None r = Unit {0}

-- No cell from a west side on, of a level from one to another, comes before what is found: of the same level only one further west does
abbrev pub settled_at : Option Cell → Lon → ℕ → ℕ → Bool
settled_at (Some c) west from finest = cond (ltb west.0 c.west.0) (ltb c.level from) (leb c.level from)
settled_at None west from finest = ltb finest from
