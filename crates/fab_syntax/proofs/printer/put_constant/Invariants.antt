use Rattle.std.proofs.Common.{◌≡◌, ◌++◌, map}
use Rattle.fab_syntax.specs.Spelling.{digit}
use Rattle.fab_syntax.proofs.printer.put_constant.Given as goal

abbrev pub invariant-loop-bit : goal.invariant-loop-bit
invariant-loop-bit l = l.out.items ≡ l.initial.out.items ++ map (λ bit. digit bit.now) l.yielded
