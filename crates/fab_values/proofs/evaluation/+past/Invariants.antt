use Rattle.std.proofs.Common.{◌≡◌, ◌+◌, map, drop}
use Rattle.fab_syntax.specs.Plain.{plain_expr, plain_exprs}
use Rattle.fab_values.specs.Evaluation.{exprs_width}
use Rattle.fab_values.proofs.evaluation.+past.Given as goal

-- what is left of the place, beside the widths of the parts passed and to come
abbrev pub invariant-past_parts-loop-part : goal.invariant-past_parts-loop-part
invariant-past_parts-loop-part l =
    l.rest + exprs_width l.values.declarations (plain_exprs (map plain_expr l.parts))
    ≡ l.bit + exprs_width l.values.declarations (plain_exprs (map plain_expr (drop l.part-index l.parts)))
