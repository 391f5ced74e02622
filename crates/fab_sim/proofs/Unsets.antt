-- A machine and memory make a stepper that is to be set.
use Rattle.std.proofs.Common.{◌≡◌, ℕ, Bool, List, Vec, Global, length, sym, ap, ◌∙◌, subst, arith}
use Rattle.fab_syntax.specs.Plain.{PlainModule}
use Rattle.fab_ternary_laws.specs.Shown.{Terns}
use Rattle.fab_state.specs.Plain.{PlainState}
use Rattle.fab_ternary.specs.declared.Tern.{Tern}
use Rattle.fab_network.specs.declared.network.Network.{Network}
use Rattle.fab_network.specs.Passes.{kept_tern}
use Rattle.fab_equations.specs.Instances.{points}
use Rattle.fab_state_points.specs.Standing.{StandsAt}
use Rattle.fab_stepping.specs.Boards.{IsBoardOf, LeadToThemselves}
use Rattle.fab_sim.specs.Machine.{IsFresh}
use Rattle.fab_sim.specs.Making.{AreLoadingPoints, IsNetworkOf}
use Rattle.fab_sim.specs.inner.Rooms.{IsRoomFor}
use Rattle.fab_sim.specs.Stepper.{AreFreeInputs}
use Rattle.fab_sim.specs.inner.Unset.{IsUnset}
use Rattle.fab_sim.specs.declared.machine.Machine.{Machine}
use Rattle.fab_sim.specs.declared.stepper.Stepper.{Stepper}
use Rattle.fab_sim.specs.declared.stepping.Room.{Room}

pub unset_so : (text : List PlainModule) (state : PlainState) (loaded : Terns) (machine : Machine) (room : Room) (stepper : Stepper) (loads values : List Bool) →
    IsFresh text state loaded machine → IsRoomFor text state room → stepper.network ≡ machine.network → stepper.points ≡ machine.points →
    stepper.board.terns ≡ room.terns → stepper.board.held ≡ machine.given → stepper.board.leads ≡ room.leads → stepper.solution ≡ room.solution →
    stepper.order ≡ room.order → stepper.free ≡ room.free → loads ≡ machine.loads.items → values ≡ machine.values.items → IsUnset text state loaded loads values stepper
unset_so text state loaded machine room stepper loads values fresh for network points_are terns held leads solution order free loads_are values_are =
    let many = fresh.of.network.long in
    let few = fresh.of.network.few in
    let board : IsBoardOf machine.network stepper.board = record {
      few = omega (arith, many, few);
      terns = ap (λ (v : Vec Tern Global). length v.items) terns ∙ for.long ∙ sym many;
      held = ap (λ (v : Vec Tern Global). length v.items) held ∙ fresh.of.given ∙ sym many;
      leads = subst (λ (v : Vec ℕ Global). LeadToThemselves (length machine.network.drives.items) v.items) (sym leads)
          (subst (λ (n : ℕ). LeadToThemselves n room.leads.items) (sym many) for.leads);
    } in
    record {
      network = subst (IsNetworkOf text) (sym network) fresh.of.network;
      once = fresh.of.once;
      points_stand = subst (StandsAt text state) (sym points_are) fresh.of.stands;
      board = subst (λ (n : Network). IsBoardOf n stepper.board) (sym network) board;
      zeros = λ point l. ap (λ (v : Vec Tern Global). kept_tern v.items point) terns ∙ for.zeros point l;
      held = λ number p d at driven holds. ap (λ (v : Vec Tern Global). kept_tern v.items number) held ∙ fresh.held number p d at driven holds;
      loading = subst (AreLoadingPoints text) (sym loads_are) fresh.of.loads;
      values_are = values_are ∙ fresh.of.values;
      solution_long = ap (λ (v : Vec Tern Global). length v.items) solution ∙ for.solution;
      order = subst (λ (v : Vec ℕ Global). LeadToThemselves (length (points text)) v.items) (sym order) for.order;
      free = subst (λ (v : Vec Bool Global). AreFreeInputs text state v.items) (sym free) for.free;
    }
