use Rattle.fab_read.specs.Tiles.{no_matrix}
use Rattle.fab_read.proofs.matrix.read_matrix.Goals as goal

pub returns-in-None-clause-read : goal.returns-in-None-clause-read
returns-in-None-clause-read g c = λ files is. rw (c.in-None.is, c.new.ensures.items) no_matrix
