use Rattle.std.proofs.Common.{refl}
use Rattle.fab_read.specs.Tiles.{by_default}
use Rattle.fab_read.proofs.table.read_places.Goals as goal

pub returns-in_ok-default_places-in-None-clause-read : goal.returns-in_ok-default_places-in-None-clause-read
returns-in_ok-default_places-in-None-clause-read g c = λ files is. rw c.in-None.is (by_default refl c.in_ok-default_places-in-None.ensures.places)
