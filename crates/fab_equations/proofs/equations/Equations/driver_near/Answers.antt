use Rattle.std.proofs.Common.{sym, subst, arith}
use Rattle.fab_syntax.specs.Plain.{plain_text}
use Rattle.fab_equations.specs.Equations.{IsDriven, SourceFits}
use Rattle.fab_equations.specs.declared.driver.Driver.TheVariants as driven
use Rattle.fab_equations.specs.declared.driver.Source.{Source}
use Rattle.fab_equations.specs.declared.tables.LocalDriver.TheVariants.{Input, Value, Flop, Hold, Output}
use Rattle.fab_equations.proofs.Driven.{named_so, input_bit, outside_drives, joined_drives, value_drives, hold_drives, flop_clock, flop_drives, output_has, output_fits, output_drives}
use Rattle.fab_equations.proofs.DriverFits.{joined_fits, value_fits, flop_fits, hold_fits}
use Rattle.fab_equations.proofs.equations.Equations.driver_near.Goals as goal

pub joined-requires : goal.joined-requires
joined-requires c =
    let so = named_so (plain_text c.args.self.now) c.args.point c.bit_near-local.result c.bit_near-local.ensures c.here-here.result c.here-here.ensures c.index.result.now c.index.ensures Input c.in-Input.is in
    input_bit (plain_text c.args.self.now) c.args.point c.bit_near-local.result c.bit_near-local.ensures c.here-here.result c.here-here.ensures so

pub returns-in-Some-clause-drives : goal.returns-in-Some-clause-drives
returns-in-Some-clause-drives c =
    let so = named_so (plain_text c.args.self.now) c.args.point c.bit_near-local.result c.bit_near-local.ensures c.here-here.result c.here-here.ensures c.index.result.now c.index.ensures Input c.in-Input.is in
    joined_drives (plain_text c.args.self.now) c.args.point c.bit_near-local.result c.bit_near-local.ensures c.here-here.result c.here-here.ensures so c.in-Some.join c.in-Some.ensures

pub returns-in-None-clause-drives : goal.returns-in-None-clause-drives
returns-in-None-clause-drives c =
    let so = named_so (plain_text c.args.self.now) c.args.point c.bit_near-local.result c.bit_near-local.ensures c.here-here.result c.here-here.ensures c.index.result.now c.index.ensures Input c.in-Input.is in
    outside_drives (plain_text c.args.self.now) c.args.point c.bit_near-local.result c.bit_near-local.ensures c.here-here.result c.here-here.ensures so c.in-None.ensures

pub returns-in-Value-clause-drives : goal.returns-in-Value-clause-drives
returns-in-Value-clause-drives c =
    let so = named_so (plain_text c.args.self.now) c.args.point c.bit_near-local.result c.bit_near-local.ensures c.here-here.result c.here-here.ensures c.index.result.now c.index.ensures (Value c.in-Value.expr) c.in-Value.is in
    let drives = value_drives (plain_text c.args.self.now) c.args.point c.bit_near-local.result c.bit_near-local.ensures c.here-here.result c.here-here.ensures c.in-Value.expr so in
    subst (λ s. IsDriven (plain_text c.args.self.now) c.args.point (driven.Value s)) (sym c.source.ensures) drives

pub clock_point-requires : goal.clock_point-requires
clock_point-requires c =
    let so = named_so (plain_text c.args.self.now) c.args.point c.bit_near-local.result c.bit_near-local.ensures c.here-here.result c.here-here.ensures c.index.result.now c.index.ensures (Flop c.in-Flop.clock c.in-Flop.expr) c.in-Flop.is in
    flop_clock (plain_text c.args.self.now) c.args.point c.bit_near-local.result c.bit_near-local.ensures c.here-here.result c.here-here.ensures c.in-Flop.clock c.in-Flop.expr so

pub returns-in-Flop-clause-drives : goal.returns-in-Flop-clause-drives
returns-in-Flop-clause-drives c =
    let so = named_so (plain_text c.args.self.now) c.args.point c.bit_near-local.result c.bit_near-local.ensures c.here-here.result c.here-here.ensures c.index.result.now c.index.ensures (Flop c.in-Flop.clock c.in-Flop.expr) c.in-Flop.is in
    let drives = flop_drives (plain_text c.args.self.now) c.args.point c.bit_near-local.result c.bit_near-local.ensures c.here-here.result c.here-here.ensures c.in-Flop.clock c.in-Flop.expr so c.clock_point.result c.clock_point.ensures in
    subst (λ s. IsDriven (plain_text c.args.self.now) c.args.point (driven.Flop c.clock_point.result s)) (sym c.source-in-Flop.ensures) drives

pub returns-in-Hold-clause-drives : goal.returns-in-Hold-clause-drives
returns-in-Hold-clause-drives c =
    let so = named_so (plain_text c.args.self.now) c.args.point c.bit_near-local.result c.bit_near-local.ensures c.here-here.result c.here-here.ensures c.index.result.now c.index.ensures (Hold c.in-Hold.gate c.in-Hold.expr) c.in-Hold.is in
    let drives = hold_drives (plain_text c.args.self.now) c.args.point c.bit_near-local.result c.bit_near-local.ensures c.here-here.result c.here-here.ensures c.in-Hold.gate c.in-Hold.expr so in
    let gate : Source → Source = λ s. record { instance = s.instance; expr = s.expr; bit = 0 } in
    subst (λ s. IsDriven (plain_text c.args.self.now) c.args.point (driven.Hold (gate s) c.source-in-Hold-2.result)) (sym c.source-in-Hold.ensures)
    (subst (λ s. IsDriven (plain_text c.args.self.now) c.args.point (driven.Hold (record { instance = c.bit_near-local.result.instance; expr = c.in-Hold.gate; bit = 0 }) s))
    (sym c.source-in-Hold-2.ensures) drives)

pub child_of-requires : goal.child_of-requires
child_of-requires c =
    let so = named_so (plain_text c.args.self.now) c.args.point c.bit_near-local.result c.bit_near-local.ensures c.here-here.result c.here-here.ensures c.index.result.now c.index.ensures (Output c.in-Output.child c.in-Output.first) c.in-Output.is in
    output_has (plain_text c.args.self.now) c.args.point c.bit_near-local.result c.bit_near-local.ensures c.here-here.result c.here-here.ensures c.in-Output.child c.in-Output.first so

pub overflow_add-result : goal.overflow_add-result
overflow_add-result c =
    let so = named_so (plain_text c.args.self.now) c.args.point c.bit_near-local.result c.bit_near-local.ensures c.here-here.result c.here-here.ensures c.index.result.now c.index.ensures (Output c.in-Output.child c.in-Output.first) c.in-Output.is in
    let fits = output_fits (plain_text c.args.self.now) c.args.point c.bit_near-local.result c.bit_near-local.ensures c.here-here.result c.here-here.ensures c.in-Output.child c.in-Output.first so c.child_of.result c.child_of.ensures c.here-below.result c.here-below.ensures in
    omega (arith, fits)

pub overflow_add-result-in-Output : goal.overflow_add-result-in-Output
overflow_add-result-in-Output c =
    let so = named_so (plain_text c.args.self.now) c.args.point c.bit_near-local.result c.bit_near-local.ensures c.here-here.result c.here-here.ensures c.index.result.now c.index.ensures (Output c.in-Output.child c.in-Output.first) c.in-Output.is in
    let fits = output_fits (plain_text c.args.self.now) c.args.point c.bit_near-local.result c.bit_near-local.ensures c.here-here.result c.here-here.ensures c.in-Output.child c.in-Output.first so c.child_of.result c.child_of.ensures c.here-below.result c.here-below.ensures in
    omega (arith, fits)

pub returns-in-Output-clause-drives : goal.returns-in-Output-clause-drives
returns-in-Output-clause-drives c =
    let so = named_so (plain_text c.args.self.now) c.args.point c.bit_near-local.result c.bit_near-local.ensures c.here-here.result c.here-here.ensures c.index.result.now c.index.ensures (Output c.in-Output.child c.in-Output.first) c.in-Output.is in
    output_drives (plain_text c.args.self.now) c.args.point c.bit_near-local.result c.bit_near-local.ensures c.here-here.result c.here-here.ensures c.in-Output.child c.in-Output.first so c.child_of.result c.child_of.ensures c.here-below.result c.here-below.ensures

pub returns-in-Some-clause-fit : goal.returns-in-Some-clause-fit
returns-in-Some-clause-fit c =
    let so = named_so (plain_text c.args.self.now) c.args.point c.bit_near-local.result c.bit_near-local.ensures c.here-here.result c.here-here.ensures c.index.result.now c.index.ensures Input c.in-Input.is in
    joined_fits (plain_text c.args.self.now) c.args.point c.bit_near-local.result c.bit_near-local.ensures c.here-here.result c.here-here.ensures so c.in-Some.join c.in-Some.ensures

pub returns-in-Value-clause-fit : goal.returns-in-Value-clause-fit
returns-in-Value-clause-fit c =
    let so = named_so (plain_text c.args.self.now) c.args.point c.bit_near-local.result c.bit_near-local.ensures c.here-here.result c.here-here.ensures c.index.result.now c.index.ensures (Value c.in-Value.expr) c.in-Value.is in
    let fits = value_fits (plain_text c.args.self.now) c.args.point c.bit_near-local.result c.bit_near-local.ensures c.here-here.result c.here-here.ensures c.in-Value.expr so in
    subst (SourceFits (plain_text c.args.self.now)) (sym c.source.ensures) fits

pub returns-in-Flop-clause-fit : goal.returns-in-Flop-clause-fit
returns-in-Flop-clause-fit c =
    let so = named_so (plain_text c.args.self.now) c.args.point c.bit_near-local.result c.bit_near-local.ensures c.here-here.result c.here-here.ensures c.index.result.now c.index.ensures (Flop c.in-Flop.clock c.in-Flop.expr) c.in-Flop.is in
    let fits = flop_fits (plain_text c.args.self.now) c.args.point c.bit_near-local.result c.bit_near-local.ensures c.here-here.result c.here-here.ensures c.in-Flop.clock c.in-Flop.expr c.clock_point.result so in
    subst (SourceFits (plain_text c.args.self.now)) (sym c.source-in-Flop.ensures) fits

pub returns-in-Hold-clause-fit : goal.returns-in-Hold-clause-fit
returns-in-Hold-clause-fit c =
    let so = named_so (plain_text c.args.self.now) c.args.point c.bit_near-local.result c.bit_near-local.ensures c.here-here.result c.here-here.ensures c.index.result.now c.index.ensures (Hold c.in-Hold.gate c.in-Hold.expr) c.in-Hold.is in
    let fits = hold_fits (plain_text c.args.self.now) c.args.point c.bit_near-local.result c.bit_near-local.ensures c.here-here.result c.here-here.ensures c.in-Hold.gate c.in-Hold.expr so in
    let gate : Source → Source = λ s. record { instance = s.instance; expr = s.expr; bit = 0 } in
    (subst (λ s. SourceFits (plain_text c.args.self.now) (gate s)) (sym c.source-in-Hold.ensures) fits.0, subst (SourceFits (plain_text c.args.self.now)) (sym c.source-in-Hold-2.ensures) fits.1)
