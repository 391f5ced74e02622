use Rattle.std.proofs.Common.{◌≡◌, drop}
use Rattle.fab_netlist.specs.inner.Passes.{asked}
use Rattle.fab_netlist.proofs.cycle.ask_in_turn.Given as goal

abbrev pub invariant-loop-place : goal.invariant-loop-place
invariant-loop-place l = asked l.covers (drop l.place-index l.places) l.values ≡ asked l.covers l.places l.fn.values
