use Rattle.std.proofs.Common.{List, map, drop}
use Rattle.fab_syntax.specs.Plain.{PlainModule}
use Rattle.fab_systems_laws.specs.Ternary.{Tern as PlainTern}
use Rattle.fab_state.specs.Plain.{PlainState}
use Rattle.fab_ternary.specs.Terns.{plain_tern}
use Rattle.fab_simulate_command.specs.inner.Going.{GoesThrough}
use Rattle.fab_simulate_command.proofs.Goings.{HasGone}
use Rattle.fab_simulate_command.proofs.running.cycles.Given as goal

abbrev pub invariant-loop-line : goal.invariant-loop-line
invariant-loop-line g l =
    (text : List PlainModule) (state : PlainState) (shown : List (List PlainTern)) → GoesThrough text state l.fn.machine (map (λ line. line.items) l.fn.lines) shown →
    HasGone text state l.machine (drop l.line-index (map (λ line. line.items) l.fn.lines)) shown (map (λ line. map plain_tern line.items) l.traced.items)
