use Rattle.std.proofs.Common.{ℕ, List, map, drop}
use Rattle.fab_syntax.specs.Plain.{plain_expr, plain_exprs, plain_text}
use Rattle.fab_meaning.specs.Reads.{some_mentions}
use Rattle.fab_equations.specs.Instances.{Instance}
use Rattle.fab_equations.specs.Numbering.{IsInstanceOfNumber}
use Rattle.fab_load_points.specs.inner.Causes.{AddsNames}
use Rattle.fab_load_points.proofs.causes.+add_names.Given as goal

-- with the names of the parts that are left all are added
abbrev pub invariant-add_parts-loop-part : goal.invariant-add_parts-loop-part
invariant-add_parts-loop-part l =
    (i : Instance) → IsInstanceOfNumber (plain_text l.equations) l.instance i → (last : List ℕ) →
    AddsNames (plain_text l.equations) i.path (some_mentions (plain_exprs (map plain_expr (drop l.part-index l.parts)))) l.reads.items last →
    AddsNames (plain_text l.equations) i.path (some_mentions (plain_exprs (map plain_expr l.parts))) l.initial.reads.items last
