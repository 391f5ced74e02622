use Rattle.std.proofs.Common.{◌≡◌, ◌++◌, map, take}
use Rattle.fab_texts.specs.Printed.{rows_text}
use Rattle.fab_state.specs.Spelled.{ff_line}
use Rattle.fab_state.proofs.writer.put_registers.Given as goal

abbrev pub invariant-loop-site : goal.invariant-loop-site
invariant-loop-site l = l.out.items ≡ l.fn.out.items ++ rows_text (map ff_line (take l.site-index l.ffs))
