use Rattle.std.proofs.Common.{◌≡◌, take}
use Rattle.fab_syntax.specs.Plain.{plain_text}
use Rattle.fab_equations.specs.Instances.{expressions}
use Rattle.fab_equations.specs.inner.Building.{listed, IsBefore}
use Rattle.fab_equations.proofs.tables.tables_of.Given as goal

abbrev pub invariant-loop-definition : goal.invariant-loop-definition
invariant-loop-definition l =
    (listed l.exprs.items ≡ expressions (take l.definition-index (plain_text l.text))) × IsBefore (plain_text l.text) l.definition-index l.before
