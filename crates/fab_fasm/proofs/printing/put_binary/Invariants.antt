use Rattle.std.proofs.Common.{◌≡◌, ◌-◌, ◌/◌, ◌^◌, ◌++◌}
use Rattle.fab_fasm.specs.Printing.{binary}
use Rattle.fab_fasm.proofs.printing.put_binary.Given as goal

abbrev pub invariant-loop-place : goal.invariant-loop-place
invariant-loop-place l = l.out.items ≡ l.initial.out.items ++ binary (l.width - l.place) (l.number / 2 ^ l.place)
