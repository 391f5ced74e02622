use Rattle.std.proofs.Common.{◌≡◌, ◌∙◌, ℕ, Some, List, Bool, Vec, Global, map, length, slice_get, ap, sym, subst, arith}
use Rattle.fab_syntax.specs.Plain.{plain_text}
use Rattle.fab_meaning.specs.Runs.{user_clock_name}
use Rattle.fab_network.specs.declared.network.Drive.{Drive}
use Rattle.fab_state.specs.Plain.{PlainState, Register}
use Rattle.fab_wiring.specs.Clocks.{IsClockAt}
use Rattle.fab_sim.specs.Making.{AreLoadingPoints, IsNetworkOf}
use Rattle.fab_sim.specs.inner.Made.{stored_by, IsMadeOf}
use Rattle.fab_sim.proofs.Building.{register_loads, strobe_within, data_given, stored_marks, free_marks}
use Rattle.fab_sim.proofs.Made.{made_new}
use Rattle.fab_sim.proofs.machine.Machine.new.Goals as goal

pub machine_of-requires-clause-strobe : goal.machine_of-requires-clause-strobe
machine_of-requires-clause-strobe c =
    let points = c.in_ok-points.ensures in
    let less = strobe_within (plain_text c.args.equations.now) c.args.state.now c.in_ok-points.points points.stands in
    omega (arith, less, c.points-count.ensures)

pub machine_of-requires-clause-carrier : goal.machine_of-requires-clause-carrier
machine_of-requires-clause-carrier c bit less =
    let points = c.in_ok-points.ensures in
    let network = c.in_ok-network.ensures in
    data_given (plain_text c.args.equations.now) c.in_ok-network.network c.args.state.now c.in_ok-points.points network.drives points.stands bit less

pub registers_of-requires : goal.registers_of-requires
registers_of-requires c = ap length c.deref-2.ensures.value ∙ c.in_ok-loads.ensures.long ∙ sym c.in_ok-network.ensures.long

pub returns-clause-made : goal.returns-clause-made
returns-clause-made c =
    let text = plain_text c.args.equations.now in
    let points = c.in_ok-points.ensures in
    let network = c.in_ok-network.ensures in
    let values = c.in_ok-values.ensures in
    let loads = c.in_ok-loads.ensures in
    let registers = c.in_ok-registers.ensures in
    let made = c.in_ok-machine.ensures in
    let of : IsNetworkOf text c.in_ok-network.network = record {
      sound = c.text_is_sound.ensures.sound;
      narrow = c.text_is_sound.ensures.narrow;
      few = omega (arith, c.points-count.ensures);
      long = network.long;
      fit = network.fit;
      drives = network.drives;
    } in
    let marks : (number : ℕ) (drive : Drive) (load : Bool) → slice_get c.in_ok-network.network.drives.items number ≡ Some drive → slice_get c.in_ok-loads.loads.items number ≡ Some load →
    slice_get c.in_ok-registers.registers.items number ≡ Some (stored_by drive load) =
    λ number drive load at there. registers.marks number drive load at (ap (λ (ls : List Bool). slice_get ls number) c.deref-2.ensures.value ∙ there) in
    let trees = c.in_ok-network.network.trees.items in
    let drives = c.in_ok-network.network.drives.items in
    let are = register_loads text c.in_ok-loads.loads.items c.in_ok-registers.registers.items loads.long loads.loading (registers.long ∙ network.long)
    (stored_marks text trees drives network.drives c.in_ok-loads.loads.items c.in_ok-registers.registers.items loads.long marks)
    (free_marks text trees drives network.drives c.in_ok-loads.loads.items c.in_ok-registers.registers.items loads.long marks) in
    made_new text c.args.state.now c.in_ok-network.network c.in_ok-points.points c.in_ok-registers.registers.items c.in_ok-values.values c.in_ok-machine.machine of
    c.requires points.stands are
    (values ∙ ap (map (λ (register : Register). register.1)) (c.deref.ensures.value ∙ ap (λ (s : PlainState). s.ffs) c.state.view_is))
    (subst (λ (ls : List Bool). IsMadeOf c.in_ok-network.network c.in_ok-points.points ls c.in_ok-machine.machine) c.deref-3.ensures.value made.made)
    made.values
    (subst (λ (kept : Vec Bool Global). AreLoadingPoints text kept.items) (sym made.loads) (record { long = loads.long; marked = loads.loading }))
    (subst (IsClockAt text user_clock_name) (sym made.clock) c.clock_of-clock.ensures)
