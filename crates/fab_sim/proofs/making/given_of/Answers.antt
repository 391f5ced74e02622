use Rattle.std.proofs.Common.{ℕ, subst}
use Rattle.fab_systems_laws.specs.Ternary.{unknown}
use Rattle.fab_network.specs.Passes.{kept_tern}
use Rattle.fab_state_points.specs.Standing.{data_width, first_data}
use Rattle.fab_sim.specs.inner.Starting.{AreFilled}
use Rattle.fab_sim.proofs.Building.{first_written}
use Rattle.fab_sim.proofs.making.given_of.Goals as goal

pub returns-clause-first : goal.returns-clause-first
returns-clause-first c =
    let made = c.in_ok-given.ensures in
    let carrier = c.args.stream.carrier in
    let old = kept_tern c.deref_mut.result.now in
    let new = kept_tern c.fill.new.given in
    let opened : AreFilled (first_data carrier) (data_width carrier) unknown old new =
    subst (λ (width : ℕ). AreFilled (first_data carrier) width unknown old new) c.width.ensures
    (subst (λ (first : ℕ). AreFilled first c.width.result unknown old new) c.first.ensures c.fill.ensures) in
    first_written c.args.count c.args.stream c.in_ok-given.given.len c.in_ok-given.given.items c.deref_mut.result.now c.fill.new.given
    c.requires.strobe c.in_ok-given.given.ok.0 (made.items_if_clones_equal (λ y same. same)) c.deref_mut.ensures.value c.fill.auto.given opened
