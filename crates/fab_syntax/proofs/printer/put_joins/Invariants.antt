use Rattle.std.proofs.Common.{◌≡◌, ◌++◌, drop, map, nat_eq, true}
use Rattle.fab_syntax.specs.Plain.{plain_join}
use Rattle.fab_syntax.specs.Spelling.{joins_text}
use Rattle.fab_syntax.proofs.printer.put_joins.Given as goal

abbrev pub invariant-loop-i : goal.invariant-loop-i
invariant-loop-i l =
    l.out.items ++ joins_text (nat_eq l.i 0) (map plain_join (drop l.i l.joins))
    ≡ l.initial.out.items ++ joins_text true (map plain_join l.joins)
