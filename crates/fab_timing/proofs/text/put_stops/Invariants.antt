use Rattle.std.proofs.Common.{◌≡◌, ◌++◌, map, take}
use Rattle.fab_texts.specs.Printed.{rows_text}
use Rattle.fab_timing.specs.Text.{stop_line}
use Rattle.fab_timing.proofs.text.put_stops.Given as goal

abbrev pub invariant-loop-wire : goal.invariant-loop-wire
invariant-loop-wire l = l.out.items ≡ l.fn.out.items ++ rows_text (map (stop_line l.fabric) (take l.wire-index l.stops))
