use Rattle.std.proofs.Common.{◌≡◌, ◌++◌}
use Rattle.std.specs.List.{flat_map, range_with_len}
use Rattle.fab_sample.specs.Lines.{text}
use Rattle.fab_sample.specs.Netlists.{row_if_on}
use Rattle.fab_sample.proofs.netlist.put_on_rows.Given as goal

abbrev pub invariant-loop-spelled : goal.invariant-loop-spelled
invariant-loop-spelled l = l.out.items ≡ l.fn.out.items ++ text (flat_map (row_if_on l.fn.table) (range_with_len 0 l.spelled))
