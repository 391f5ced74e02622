use Rattle.std.proofs.Common.{◌≡◌, ◌++◌, take}
use Rattle.fab_sample.specs.Lines.{text}
use Rattle.fab_sample.specs.Lists.{pairs}
use Rattle.fab_sample.proofs.lists.put_pairs.Given as goal

abbrev pub invariant-loop-input : goal.invariant-loop-input
invariant-loop-input l = l.out.items ≡ l.fn.out.items ++ text (pairs l.output (take l.input-index l.inputs))
