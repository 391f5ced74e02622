use Rattle.std.proofs.Common.{◌≡◌, ◌++◌, take}
use Rattle.fab_legal.specs.Lines.{sited}
use Rattle.fab_legal.proofs.placed.put_pads.Given as goal

abbrev pub invariant-loop-pad : goal.invariant-loop-pad
invariant-loop-pad l = l.sites.items ≡ l.fn.sites.items ++ sited (take l.pad-index l.pads)
