use Rattle.std.proofs.Common.{◌≡◌, drop, nat_eq}
use Rattle.fab_ways_laws.specs.fab_legal_Sinks.{site_of}
use Rattle.fab_place.proofs.costing.numbered_site.Given as goal

abbrev pub invariant-loop-line : goal.invariant-loop-line
invariant-loop-line l = site_of nat_eq (drop l.line-index l.lines) l.number ≡ site_of nat_eq l.lines l.number
