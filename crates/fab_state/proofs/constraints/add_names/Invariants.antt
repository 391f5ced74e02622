use Rattle.std.proofs.Common.{◌≡◌, map, take}
use Rattle.std.specs.Prelude.{fold}
use Rattle.fab_netlist.specs.Plain.{name_of}
use Rattle.fab_state.specs.Constraints.{with_word}
use Rattle.fab_state.proofs.constraints.add_names.Given as goal

abbrev pub invariant-loop-net : goal.invariant-loop-net
invariant-loop-net l = l.words ≡ fold with_word l.fn.words (map (name_of l.netlist) (take l.net-index l.nets))
