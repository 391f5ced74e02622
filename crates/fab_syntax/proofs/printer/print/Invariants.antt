use Rattle.std.proofs.Common.{◌≡◌, ◌++◌, drop, map}
use Rattle.fab_syntax.specs.Plain.{plain_module}
use Rattle.fab_syntax.specs.Spelling.{text_bytes}
use Rattle.fab_syntax.proofs.printer.print.Given as goal

abbrev pub invariant-loop-module : goal.invariant-loop-module
invariant-loop-module l =
    l.out.items ++ text_bytes (map plain_module (drop l.module-index l.module-items)) ≡ text_bytes (map plain_module l.module-items)
