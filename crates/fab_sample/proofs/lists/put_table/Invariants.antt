use Rattle.std.proofs.Common.{◌≡◌, ◌++◌}
use Rattle.std.specs.List.{flat_map, range_with_len}
use Rattle.fab_sample.specs.Lines.{text}
use Rattle.fab_sample.specs.Lists.{input_lines}
use Rattle.fab_sample.proofs.lists.put_table.Given as goal

abbrev pub invariant-loop-pin : goal.invariant-loop-pin
invariant-loop-pin l = l.out.items ≡ l.fn.out.items ++ text (flat_map (input_lines l.fn.prefix l.fn.inputs) (range_with_len 0 l.pin))
