use Rattle.std.proofs.Common.{◌≡◌, ◌++◌, map, take}
use Rattle.fab_texts.specs.Printed.{rows_text}
use Rattle.fab_state.specs.Spelled.{pad_line}
use Rattle.fab_state.proofs.writer.put_pads.Given as goal

abbrev pub invariant-loop-port : goal.invariant-loop-port
invariant-loop-port l = l.out.items ≡ l.fn.out.items ++ rows_text (map (pad_line l.first) (take l.port-index l.pads))
