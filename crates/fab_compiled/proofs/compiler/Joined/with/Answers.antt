use Rattle.std.proofs.Common.{List}
use Rattle.fab_syntax.specs.Plain.{PlainExpr, PlainExprs, more}
use Rattle.fab_values.specs.Declarations.{Declaration}
use Rattle.fab_compiled.specs.declared.compiler.Joined.{Joined}
use Rattle.fab_compiled.specs.Compiling.{IsCompiled}
use Rattle.fab_compiled.specs.inner.Joining.{AreJoined}
use Rattle.fab_compiled.proofs.Compiling.{ok_map}
use Rattle.fab_compiled.proofs.Joining.{more_joined}
use Rattle.fab_compiled.proofs.compiler.Joined.with.Goals as goal

pub returns-else-joined-lt-GROUP : goal.returns-else-joined-lt-GROUP
returns-else-joined-lt-GROUP c =
    let low = c.args.self.low in
    let group = c.args.self.group in
    let longer = c.in_ok-group.group in
    let high = c.args.high in
    ok_map c.flush.result
    (λ (m : Joined). (ds : List Declaration) (es : PlainExprs) → AreJoined ds es low.tree.value low.width longer.tree.value longer.width →
    AreJoined ds es m.low.tree.value m.low.width m.group.tree.value m.group.width)
    (λ (m : Joined). (ds : List Declaration) (e : PlainExpr) (es : PlainExprs) → AreJoined ds es low.tree.value low.width group.tree.value group.width →
    IsCompiled ds e high.tree.value high.width → AreJoined ds (more e es) m.low.tree.value m.low.width m.group.tree.value m.group.width)
    c.flush.ensures
    (λ m flushed ds e es joined part. flushed ds (more e es)
    (more_joined ds es low.tree.value low.width group.tree.value group.width joined e high.tree.value high.width part longer.tree.value longer.width c.in_ok-group.ensures))
