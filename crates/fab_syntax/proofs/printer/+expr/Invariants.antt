use Rattle.std.proofs.Common.{◌≡◌, ◌++◌, drop, map, nat_eq, true}
use Rattle.fab_syntax.specs.Plain.{plain_expr, plain_exprs}
use Rattle.fab_syntax.specs.Spelling.{exprs_text}
use Rattle.fab_syntax.proofs.printer.+expr.Given as goal

abbrev pub invariant-put_concatenation-loop-i : goal.invariant-put_concatenation-loop-i
invariant-put_concatenation-loop-i l =
    l.out.items ++ exprs_text (nat_eq l.i 0) (plain_exprs (map plain_expr (drop l.i l.parts)))
    ≡ l.initial.out.items ++ exprs_text true (plain_exprs (map plain_expr l.parts))
