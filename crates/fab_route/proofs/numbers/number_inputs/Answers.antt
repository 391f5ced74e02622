use Rattle.std.proofs.Common.{ap, ◌∙◌, sym, arith}
use Rattle.std.proofs.lemmas.Bool.{false≢true}
use Rattle.fab_route.proofs.Numbered.{input_step, other_step}
use Rattle.fab_route.proofs.numbers.number_inputs.Goals as goal
use Rattle.fab_route.proofs.numbers.number_inputs.Goals.{then-is_input+in_ok-push-2, else-is_input}

pub loop-number-preserved : goal.loop-number-preserved
loop-number-preserved c = elim c.if-is_input.branch [
  | then-is_input+in_ok-push-2 w ↦ input_step c.args.fabric.now c.loop-number.number c.loop-number.wires.items c.loop-number.nodes.items c.loop-number.invariant c.if-is_input.wires.items c.push.new.self.items _ (ap (λ v. v.items) w.wires-is ∙ w.in_ok-push-2.ensures.items) c.in_ok-push.ensures.items (omega (arith, c.len.ensures, c.loop-number.invariant.few)) (c.is_input.ensures.0 w.if-is_input.true)
  | else-is_input w ↦ other_step c.args.fabric.now c.loop-number.number c.loop-number.wires.items c.loop-number.nodes.items c.loop-number.invariant c.if-is_input.wires.items c.push.new.self.items _ (ap (λ v. v.items) w.wires-is) c.in_ok-push.ensures.items (omega (arith, c.len.ensures, c.loop-number.invariant.few)) (λ is. false≢true (sym w.if-is_input.false ∙ c.is_input.ensures.1 is))
]
