use Rattle.std.proofs.Common.{◌≡◌, ℕ, List, length, map, drop}
use Rattle.fab_syntax.specs.Plain.{PlainModule}
use Rattle.fab_state.specs.Plain.{PlainState}
use Rattle.fab_ternary.specs.Terns.{plain_tern}
use Rattle.fab_sim.specs.fab_ordering_laws_Ordered.{Moment}
use Rattle.fab_sim.specs.Stepper.{Stands}
use Rattle.fab_simulate_command.specs.inner.Going.{AreFull}
use Rattle.fab_simulate_command.proofs.Orders.{HasStepped}
use Rattle.fab_simulate_command.proofs.ordered.cycles_in_order.Given as goal

abbrev pub invariant-loop-line : goal.invariant-loop-line
invariant-loop-line g l =
    (text : List PlainModule) (state : PlainState) (draws : ℕ → ℕ) (start : Moment) → Stands text state draws l.fn.stepper start → AreFull state (map (λ line. line.items) l.fn.lines) →
    length state.outs ≡ l.fn.ports →
    HasStepped text state draws l.stepper start (map (λ line. line.items) l.fn.lines) (drop l.line-index (map (λ line. line.items) l.fn.lines)) (map (λ line. map plain_tern line.items) l.traced.items)
