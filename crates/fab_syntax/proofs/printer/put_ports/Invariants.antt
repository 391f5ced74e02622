use Rattle.std.proofs.Common.{◌≡◌, ◌++◌, drop}
use Rattle.fab_syntax.specs.Spelling.{ports_text}
use Rattle.fab_syntax.proofs.printer.put_ports.Given as goal

abbrev pub invariant-loop-i : goal.invariant-loop-i
invariant-loop-i l = l.out.items ++ ports_text (drop l.i l.ports) ≡ l.initial.out.items ++ ports_text l.ports
