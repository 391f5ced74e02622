use Rattle.std.proofs.Common.{ℕ, subst, length-set, slice_set, arith}
use Rattle.fab_systems_laws.specs.Ternary.{no}
use Rattle.fab_ternary.specs.declared.Tern.TheVariants.{No}
use Rattle.fab_network.specs.Passes.{kept_tern}
use Rattle.fab_state_points.specs.Standing.{data_width, first_data}
use Rattle.fab_sim.specs.inner.Starting.{AreFilled}
use Rattle.fab_sim.proofs.Setting.{all_set}
use Rattle.fab_sim.proofs.starting.set_out.Goals as goal

pub fill-requires : goal.fill-requires
fill-requires c =
    let room = c.requires.carrier in
    let long = length-set c.args.given.now c.args.points.now.stream.strobe No in
    omega (arith, room, long, c.first.ensures, c.width.ensures)

pub returns : goal.returns
returns c =
    let carrier = c.args.points.now.stream.carrier in
    let old = kept_tern (slice_set c.args.given.now c.args.points.now.stream.strobe No) in
    let new = kept_tern c.fill.new.given in
    let cleared : AreFilled (first_data carrier) (data_width carrier) no old new =
    subst (λ (width : ℕ). AreFilled (first_data carrier) width no old new) c.width.ensures
    (subst (λ (first : ℕ). AreFilled first c.width.result no old new) c.first.ensures c.fill.ensures) in
    all_set c.args.points.now c.args.values.now c.args.given.now c.fill.new.given c.open.new.given c.feed.new.given c.deref.result.now c.deref-2.result.now
    c.deref.ensures.value c.deref-2.ensures.value c.requires.strobe cleared c.open.ensures.opened c.open.ensures.others c.feed.ensures
