use Rattle.std.proofs.Common.{subst, arith}
use Rattle.fab_ternary.specs.declared.Tern.{Tern}
use Rattle.fab_phases.specs.inner.Enables.{IsEnabled}
use Rattle.fab_phases.proofs.Passing.{closed_more, fresh_closed, none_closed}
use Rattle.fab_phases.proofs.enables.next_enabled.Goals as goal

pub enables-init : goal.enables-init
enables-init c = record {
  low = omega arith;
  passed = none_closed c.args.network.now c.args.demand.now c.args.enables.now c.args.from;
  enables = c.requires.enables;
}

pub returns-then-number-end-clause-next : goal.returns-then-number-end-clause-next
returns-then-number-end-clause-next c =
    let next = rw c.in-Some.is at c.next_stale.ensures in
    fresh_closed c.args.network.now c.args.demand.now c.args.enables.now c.enables.watches c.args.from c.enables.begin c.args.end c.enables.invariant.enables
    c.enables.invariant.passed (λ reader low less. next.passed reader low (omega (arith, less, c.if-number-end.true)))

pub look-requires-clause-within : goal.look-requires-clause-within
look-requires-clause-within c = omega (arith, c.if-number-end.false, c.requires.end)

pub enables-preserved : goal.enables-preserved
enables-preserved c =
    let next = rw c.in-Some.is at c.next_stale.ensures in
    record {
      low = omega (arith, next.low, c.enables.invariant.low);
      passed = closed_more c.args.network.now c.args.demand.now c.args.enables.now c.args.from c.in-Some.number
          (fresh_closed c.args.network.now c.args.demand.now c.args.enables.now c.enables.watches c.args.from c.enables.begin c.in-Some.number
          c.enables.invariant.enables c.enables.invariant.passed next.passed)
          (subst (λ (value : Tern). IsEnabled c.args.network.now c.args.demand.now c.args.enables.now c.in-Some.number value) c.in-No.is c.look.ensures.value);
      enables = c.look.ensures.enables;
    }

pub enables-smaller : goal.enables-smaller
enables-smaller c =
    let next = rw c.in-Some.is at c.next_stale.ensures in
    omega (arith, next.low, next.within, c.enables.invariant.enables.long)

pub returns-in_default-look-clause-next : goal.returns-in_default-look-clause-next
returns-in_default-look-clause-next c =
    let next = rw c.in-Some.is at c.next_stale.ensures in
    record {
      low = omega (arith, next.low, c.enables.invariant.low);
      within = c.if-number-end.false;
      passed = fresh_closed c.args.network.now c.args.demand.now c.args.enables.now c.enables.watches c.args.from c.enables.begin c.in-Some.number
          c.enables.invariant.enables c.enables.invariant.passed next.passed;
      value = c.look.ensures.value;
    }

pub returns-clause-next : goal.returns-clause-next
returns-clause-next c =
    let none = rw c.in_default.is at c.next_stale.ensures in
    let long = c.enables.invariant.enables.long in
    fresh_closed c.args.network.now c.args.demand.now c.args.enables.now c.enables.watches c.args.from c.enables.begin c.args.end c.enables.invariant.enables
    c.enables.invariant.passed (λ reader low less. none reader low (omega (arith, less, long, c.requires.end)))
