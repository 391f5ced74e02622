use Rattle.std.proofs.Common.{◌<◌, ℕ, get_or, length}
use Rattle.fab_netlist.specs.Cycles.{ComesFirst}
use Rattle.fab_netlist.proofs.refusal.first_of.Given as goal

abbrev pub invariant-loop-index : goal.invariant-loop-index
invariant-loop-index l = record {
  within : l.first < length l.round;
  least : (before : ℕ) → before < l.index → ComesFirst l.netlist (get_or l.round l.first 0) (get_or l.round before 0);
}
