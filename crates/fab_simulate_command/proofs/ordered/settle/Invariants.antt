use Rattle.std.proofs.Common.{◌-◌, ℕ, List}
use Rattle.fab_syntax.specs.Plain.{PlainModule}
use Rattle.fab_state.specs.Plain.{PlainState}
use Rattle.fab_sim.specs.fab_ordering_laws_Ordered.{Moment}
use Rattle.fab_sim.specs.Stepper.{Stands}
use Rattle.fab_simulate_command.proofs.Orders.{HasMade}
use Rattle.fab_simulate_command.proofs.ordered.settle.Given as goal

abbrev pub invariant-loop-block : goal.invariant-loop-block
invariant-loop-block l =
    (text : List PlainModule) (state : PlainState) (draws : ℕ → ℕ) (before : Moment) → Stands text state draws l.fn.stepper before → HasMade text state draws l.stepper (l.most - l._block) before
