use Rattle.std.proofs.Common.{length, inl, inr, refl, sym, ap, ◌∙◌}
use Rattle.fab_syntax.specs.Plain.{plain_expr, wire, reg}
use Rattle.fab_values.specs.Declarations.{number_of}
use Rattle.fab_equations.specs.inner.Building.{listed, put_at}
use Rattle.fab_equations.specs.declared.tables.LocalDriver.TheVariants.{Value, Flop, Hold}
use Rattle.fab_equations.proofs.ItemSteps.{wire_step, assign_step, latch_step, clocked_step}
use Rattle.fab_equations.proofs.driving.add_item.Goals as goal

pub returns-in_ok-add_expr-in-Assign-clause-inside : goal.returns-in_ok-add_expr-in-Assign-clause-inside
returns-in_ok-add_expr-in-Assign-clause-inside c =
    rw c.in-Assign.is (λ spot so_far names known item old.
    assign_step spot so_far c.in-Assign.target (plain_expr c.in-Assign.value) (listed c.args.exprs.now.items) c.args.inside.now _ c.in_ok-add_expr-in-Assign.field-0
    item c.in_ok-add_expr-in-Assign.ensures.number refl refl refl
    (c.put.ensures ∙ ap (λ p. put_at c.args.inside.now.drivers.items p (Value c.in_ok-add_expr-in-Assign.field-0)) (c.number.ensures ∙ (λ j. number_of (names j) (c.bytes.ensures j)))) old)

pub returns-in_ok-add_expr-in-Latch-clause-inside : goal.returns-in_ok-add_expr-in-Latch-clause-inside
returns-in_ok-add_expr-in-Latch-clause-inside c =
    rw c.in-Latch.is (λ spot so_far names known item old.
    latch_step spot so_far c.in-Latch.target (plain_expr c.in-Latch.gate) (plain_expr c.in-Latch.value) (listed c.args.exprs.now.items) c.args.inside.now _
    c.in_ok-gate-in-Latch.gate c.in_ok-add_expr-in-Latch.field-0
    item c.in_ok-gate-in-Latch.ensures.number (c.in_ok-add_expr-in-Latch.ensures.number ∙ ap length c.in_ok-gate-in-Latch.ensures.added) refl refl refl
    (c.put-in-Latch.ensures ∙ ap (λ p. put_at c.args.inside.now.drivers.items p (Hold c.in_ok-gate-in-Latch.gate c.in_ok-add_expr-in-Latch.field-0))
    (c.number-in-Latch.ensures ∙ (λ j. number_of (names j) (c.bytes-in-Latch.ensures j)))) old)

pub returns-in_ok-add_expr-in-Clocked-clause-inside : goal.returns-in_ok-add_expr-in-Clocked-clause-inside
returns-in_ok-add_expr-in-Clocked-clause-inside c =
    rw c.in-Clocked.is (λ spot so_far names known item old.
    clocked_step spot so_far c.in-Clocked.clock c.in-Clocked.target (plain_expr c.in-Clocked.value) (listed c.args.exprs.now.items) c.args.inside.now _
    c.in_ok-clock-in-Clocked.clock c.in_ok-add_expr-in-Clocked.field-0
    item (ap (λ ds. number_of ds c.in-Clocked.clock) (sym names) ∙ c.in_ok-clock-in-Clocked.ensures) c.in_ok-add_expr-in-Clocked.ensures.number refl refl refl
    (c.put-in-Clocked.ensures ∙ ap (λ p. put_at c.args.inside.now.drivers.items p (Flop c.in_ok-clock-in-Clocked.clock c.in_ok-add_expr-in-Clocked.field-0))
    (c.number-in-Clocked.ensures ∙ (λ j. number_of (names j) (c.bytes-in-Clocked.ensures j)))) old)

pub returns-in-Wire-clause-inside : goal.returns-in-Wire-clause-inside
returns-in-Wire-clause-inside c spot so_far names known item old =
    elim c.in-Wire.is [
      | inl wires ↦ rw wires.2 (wire_step spot so_far (wire wires.0 wires.1) c.args.inside.now refl (λ name. refl) old)
      | inr regs ↦ rw regs.2 (wire_step spot so_far (reg regs.0 regs.1) c.args.inside.now refl (λ name. refl) old)
    ]

pub returns-in-Wire-2-clause-inside : goal.returns-in-Wire-2-clause-inside
returns-in-Wire-2-clause-inside c spot so_far names known item old =
    elim c.in-Wire.is [
      | inl wires ↦ rw wires.2 (wire_step spot so_far (wire wires.0 wires.1) c.args.inside.now refl (λ name. refl) old)
      | inr regs ↦ rw regs.2 (wire_step spot so_far (reg regs.0 regs.1) c.args.inside.now refl (λ name. refl) old)
    ]

pub returns-in-Instance : goal.returns-in-Instance
returns-in-Instance c = rw c.in-Instance.is (rw c.deref.ensures.value at c.add_child.ensures)
