use Rattle.std.proofs.Common.{◌≡◌, ◌<◌, ℕ, get_or}
use Rattle.fab_netlist.proofs.walk.place_in.Given as goal

abbrev pub invariant-loop-index : goal.invariant-loop-index
invariant-loop-index l = (before : ℕ) → before < l.index → get_or l.places before l.sought ≡ l.sought → ⊥
