-- `ground::rectangles::centre` meets its contract: halfway in each direction. Assumes nothing.
use Rattle.ground.specs.Rectangles.{centre_of}
use Rattle.ground.proofs.rectangles.centre.Goals as goal

pub returns : goal.returns
unfolding centre_of
returns c = rw (c.halfway.ensures, c.halfway-2.ensures)
