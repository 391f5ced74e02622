use Rattle.std.proofs.Common.{ap, ◌∙◌}
use Rattle.fab_syntax.specs.Plain.{plain_expr}
use Rattle.fab_sound.specs.inner.Checks.{plain_all, waiting_parts}
use Rattle.fab_sound.proofs.Waiting.{waiting_push, plain_push, fewer, one_found}
use Rattle.fab_sound.proofs.expressions.subexpressions.Goals as goal

pub loop-next-smaller : goal.loop-next-smaller
loop-next-smaller c =
    let popped = ap waiting_parts c.in-Some.ensures.items ∙ waiting_push c.pop.new.self.items c.in-Some.next in
    fewer (plain_expr c.in-Some.next.now) (waiting_parts c.loop-next.waiting.items) (waiting_parts c.pop.new.self.items) (waiting_parts c.put_operands.new.waiting.items)
    popped c.in_ok-put_operands.ensures

pub loop-next-preserved : goal.loop-next-preserved
loop-next-preserved c =
    let popped = ap waiting_parts c.in-Some.ensures.items ∙ waiting_push c.pop.new.self.items c.in-Some.next in
    let more = ap plain_all c.in_ok-push-2.ensures.items ∙ plain_push c.loop-next.found.items c.in-Some.next in
    one_found (plain_expr c.in-Some.next.now) (plain_all c.loop-next.found.items) (plain_all c.push-in-Some.new.self.items)
    (waiting_parts c.loop-next.waiting.items) (waiting_parts c.pop.new.self.items) (waiting_parts c.put_operands.new.waiting.items)
    more popped c.in_ok-put_operands.ensures
    ∙ c.loop-next.invariant
