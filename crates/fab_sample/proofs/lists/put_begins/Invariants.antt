use Rattle.std.proofs.Common.{◌≡◌, ◌++◌}
use Rattle.std.specs.List.{flat_map, range_with_len}
use Rattle.fab_sample.specs.Lines.{text}
use Rattle.fab_sample.specs.Lists.{wire_lines}
use Rattle.fab_sample.proofs.lists.put_begins.Given as goal

abbrev pub invariant-loop-bit : goal.invariant-loop-bit
invariant-loop-bit l = l.out.items ≡ l.fn.out.items ++ text (flat_map (wire_lines l.fn.side) (range_with_len 0 l.bit))
