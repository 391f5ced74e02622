use Rattle.std.proofs.Common.{◌≡◌, take}
use Rattle.fab_fasm.specs.Printing.{printed}
use Rattle.fab_fasm.proofs.printing.print_fasm.Given as goal

abbrev pub invariant-loop-feature : goal.invariant-loop-feature
invariant-loop-feature l = l.out.items ≡ printed (take l.feature-index l.features)
