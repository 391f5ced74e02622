use Rattle.std.proofs.Common.{◌≡◌, fold, take, nat_eq}
use Rattle.fab_ways_laws.specs.fab_legal_Sinks.{site_of}
use Rattle.fab_ways_laws.specs.Placing.{reads_net}
use Rattle.fab_place.specs.inner.Boxes.{included}
use Rattle.fab_place.proofs.Listed.{kept_from}
use Rattle.fab_place.proofs.costing.add_cells.Given as goal

abbrev pub invariant-loop-number : goal.invariant-loop-number
invariant-loop-number l = l.area ≡ fold included l.fn.area (kept_from (reads_net l.reset l.net) (λ number. site_of nat_eq l.lines number) 0 (take l.number l.cells))
