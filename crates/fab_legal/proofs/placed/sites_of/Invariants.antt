use Rattle.std.proofs.Common.{◌≡◌, take}
use Rattle.fab_legal.specs.Lines.{sited}
use Rattle.fab_legal.proofs.placed.sites_of.Given as goal

abbrev pub invariant-loop-line : goal.invariant-loop-line
invariant-loop-line l = l.sites.items ≡ sited (take l.line-index l.line-items)
