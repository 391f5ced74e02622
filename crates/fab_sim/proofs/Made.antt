-- A machine that is made is new.
use Rattle.std.proofs.Common.{◌≡◌, ℕ, Bool, List, Vec, Global, length, map, sym, ap, ◌∙◌, subst}
use Rattle.fab_syntax.specs.Plain.{PlainModule}
use Rattle.fab_meaning.specs.Runs.{user_clock_name}
use Rattle.fab_network.specs.declared.network.Network.{Network}
use Rattle.fab_network.specs.Passes.{kept_tern}
use Rattle.fab_phases.specs.Words.{IsLoadingAt}
use Rattle.fab_wiring.specs.Clocks.{IsClockAt}
use Rattle.fab_state.specs.Plain.{PlainState, Register}
use Rattle.fab_state_points.specs.Standing.{StandsAt, data_width, first_data}
use Rattle.fab_state_points.specs.declared.points.StatePoints.{StatePoints}
use Rattle.fab_sim.specs.Once.{StandsOnce}
use Rattle.fab_sim.specs.Making.{AreLoadingPoints, AreLoads, IsGivenFirst, IsNetworkOf}
use Rattle.fab_sim.specs.Machine.{IsNew}
use Rattle.fab_sim.specs.inner.Made.{IsMadeOf}
use Rattle.fab_sim.specs.declared.machine.Machine.{Machine}

pub made_new : (text : List PlainModule) (state : PlainState) (network : Network) (points : StatePoints) (loads : List Bool) (values : Vec Bool Global)
    (machine : Machine) →
    IsNetworkOf text network → StandsOnce state → StandsAt text state points → AreLoads text loads → values.items ≡ map (λ (register : Register). register.1)
    state.ffs →
    IsMadeOf network points loads machine → machine.values ≡ values → AreLoadingPoints text machine.loads.items → IsClockAt text user_clock_name machine.clock → IsNew text state machine
made_new text state network points loads values machine of once stands are values_are made values_is all clock = record {
  of = record {
    network = subst (IsNetworkOf text) (sym made.network_is) of;
    once = once;
    stands = subst (StandsAt text state) (sym made.points_are) stands;
    values = ap (λ (v : Vec Bool Global). v.items) values_is ∙ values_are;
    given = made.given ∙ of.long;
    demand = made.demand ∙ of.long;
    loads = all;
    clock = clock;
  };
  loads = loads;
  are = are;
  loading =
      subst (λ (n : Network). IsLoadingAt n machine.loading loads (first_data machine.points.stream.carrier) (data_width machine.points.stream.carrier) machine.demand machine.given.items)
      (sym made.network_is)
      (subst (λ (p : StatePoints). IsLoadingAt network machine.loading loads (first_data p.stream.carrier) (data_width p.stream.carrier) machine.demand machine.given.items)
      (sym made.points_are) made.loading);
  first =
      subst (λ (n : ℕ). IsGivenFirst n machine.points.stream (kept_tern machine.given.items)) of.long
      (subst (λ (p : StatePoints). IsGivenFirst (length network.drives.items) p.stream (kept_tern machine.given.items))
      (sym made.points_are) made.first);
}
