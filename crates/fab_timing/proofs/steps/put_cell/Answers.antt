use Rattle.std.proofs.Common.{rules, ◌≡◌, ℕ, None, length, subst}
use Rattle.std.proofs.lemmas.Result.{on_ok_weaker}
use Rattle.fab_fabric.specs.declared.wire.Wire.{Wire}
use Rattle.fab_legal.specs.Steps.{pin_wire}
use Rattle.fab_timing.specs.inner.Adding.{Adds, AddedBelow}
use Rattle.fab_timing.specs.inner.Passes.{HasStep, IsFromPin, TimedStep}
use Rattle.fab_timing.proofs.Passes.{cell_added}
use Rattle.fab_timing.proofs.steps.put_cell.Goals as goal

pub returns-clause-added : goal.returns-clause-added
returns-clause-added c =
    let fabric = c.args.fabric.now in
    let site = c.args.site in
    let cell = c.args.cell.now in
    let Was : TimedStep → Type 0 = HasStep c.args.before.now.items in
    let IsThere : TimedStep → Type 0 = HasStep c.put_pins.new.before.items in
    let none : cell.latch ≡ None = search rules in
    let many : c.len.result ≡ length cell.inputs = search rules in
    on_ok_weaker c.put_pins.result
    (λ added. cell_added fabric site cell Was IsThere none
    (subst (λ (n : ℕ). Adds (AddedBelow (IsFromPin fabric site (pin_wire fabric site 7)) n) Was IsThere) many
    (subst (λ (w : Wire). Adds (AddedBelow (IsFromPin fabric site w) c.len.result) Was IsThere) c.in_ok-output.ensures.wire added))) c.put_pins.ensures.added
