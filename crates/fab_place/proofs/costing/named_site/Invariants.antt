use Rattle.std.proofs.Common.{◌≡◌, drop}
use Rattle.std.specs.Str.{bytes_eq}
use Rattle.fab_ways_laws.specs.fab_legal_Sinks.{site_of}
use Rattle.fab_place.proofs.costing.named_site.Given as goal

abbrev pub invariant-loop-line : goal.invariant-loop-line
invariant-loop-line l = site_of bytes_eq (drop l.line-index l.lines) l.port ≡ site_of bytes_eq l.lines l.port
