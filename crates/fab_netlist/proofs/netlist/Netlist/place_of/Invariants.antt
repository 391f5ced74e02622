use Rattle.std.proofs.Common.{◌≡◌, ℕ, ◌<◌, false, get_or}
use Rattle.std.specs.Str.{bytes_eq}
use Rattle.fab_netlist.specs.Plain.{name_of}
use Rattle.fab_netlist.proofs.netlist.Netlist.place_of.Given as goal

abbrev pub invariant-loop-place : goal.invariant-loop-place
invariant-loop-place l = (k : ℕ) → k < l.place → bytes_eq l.port (name_of l.self (get_or l.self.inputs k 0)) ≡ false
