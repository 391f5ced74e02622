use Rattle.std.proofs.Common.{◌≡◌, ℕ, length, arith, subst}
use Rattle.fab_route.specs.inner.Numbers.{AreBefore}
use Rattle.fab_route.proofs.Tabled.{more_before}
use Rattle.fab_route.proofs.numbers.outputs_before.Goals as goal

pub loop-wire-preserved : goal.loop-wire-preserved
loop-wire-preserved c = record {
  long = omega (arith, c.in_ok-push.ensures.len, c.loop-wire.invariant.long);
  before = more_before c.args.fabric.now c.loop-wire.wire-index c.args.wires.now c.loop-wire.outputs.items c.push.new.self.items c.output_before.result c.loop-wire.invariant.long c.loop-wire.invariant.before c.in_ok-push.ensures.items c.output_before.ensures;
}

pub returns-clause-before : goal.returns-clause-before
returns-clause-before c =
    let all : c.loop-wire.wire-index ≡ length c.args.wires.now = omega (arith, c.loop-wire-test.false, c.loop-wire.auto.wire-index-end) in
    subst (λ (n : ℕ). AreBefore c.args.fabric.now n c.args.wires.now c.loop-wire.outputs.items) all c.loop-wire.invariant.before
