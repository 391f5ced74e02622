use Rattle.std.proofs.Common.{◌≡◌, ◌++◌, map, take}
use Rattle.fab_sample.specs.Lines.{text}
use Rattle.fab_sample.specs.Netlists.{digit}
use Rattle.fab_sample.proofs.stimulus.print_stimulus.Given as goal

abbrev pub invariant-loop-line : goal.invariant-loop-line
invariant-loop-line l = l.out.items ≡ l.initial.out.items ++ text (map (map digit) (map (λ line. line.items) (take l.line-index l.lines)))
