use Rattle.std.proofs.Common.{◌≡◌, ◌++◌, map, take}
use Rattle.fab_texts.specs.Printed.{rows_text}
use Rattle.fab_impl.specs.Spelled.{edge_line}
use Rattle.fab_impl.proofs.writer.put_edges.Given as goal

abbrev pub invariant-loop-from : goal.invariant-loop-from
invariant-loop-from l = l.out.items ≡ l.fn.out.items ++ rows_text (map (edge_line l.fabric) (take l.from-index l.edges))
