use Rattle.std.proofs.Common.{◌+◌, ◌-◌, ℕ, List, refl, sym, ◌∙◌, subst, arith}
use Rattle.std.proofs.lemmas.Option.{slice_get_within}
use Rattle.fab_ternary.specs.declared.Tern.{Tern}
use Rattle.fab_network.specs.declared.network.Clock.TheVariants.{Loader}
use Rattle.fab_network.specs.declared.network.Drive.TheVariants.{Given}
use Rattle.fab_network.specs.Passes.{kept_tern}
use Rattle.fab_demand.specs.Demand.{IsAsked}
use Rattle.fab_state_points.specs.Standing.{data_width, first_data}
use Rattle.fab_sim.specs.Making.{IsGivenFirst}
use Rattle.fab_sim.proofs.Building.{made_loading}
use Rattle.fab_sim.proofs.Loaded.{data_wide}
use Rattle.fab_sim.proofs.making.machine_of.Goals as goal

pub given_of-requires-clause-carrier : goal.given_of-requires-clause-carrier
given_of-requires-clause-carrier c =
    let carrier = c.args.points.stream.carrier in
    let some = data_wide carrier in
    let end = data_width carrier - 1 in
    let last = slice_get_within c.args.network.drives.items (first_data carrier + end) Given (c.requires.carrier end (omega (arith, some))) in
    omega (arith, some, last)

pub loading_of-requires-clause-asked : goal.loading_of-requires-clause-asked
loading_of-requires-clause-asked c =
    let made = c.in_ok-demand.ensures in
    made.clear.enough c.args.network Loader (kept_tern c.deref.result.now)

pub returns-clause-made : goal.returns-clause-made
returns-clause-made c =
    let given = c.in_ok-given.ensures in
    let demand = c.in_ok-demand.ensures in
    let loading = c.in_ok-loading.ensures in
    let network = c.args.network in
    let stream = c.args.points.stream in
    let asked = subst (λ (ts : List Tern). IsAsked network Loader (kept_tern ts) c.loading_of.new.demand) c.deref.ensures.value loading.asked in
    record {
      network_is = refl;
      points_are = refl;
      given = given.long ∙ sym c.requires.long;
      demand = loading.more.long ∙ demand.long ∙ sym c.requires.long;
      first = subst (λ (n : ℕ). IsGivenFirst n stream (kept_tern c.in_ok-given.given.items)) (sym c.requires.long) given.first;
      loading = made_loading c.given_is_kept.ensures network c.in_ok-loading.loading c.args.registers.now (first_data stream.carrier) (data_width stream.carrier) c.loading_of.new.demand
          c.in_ok-given.given.items asked
          loading.loading c.requires.carrier given.first.carrier;
    }
