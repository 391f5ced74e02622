use Rattle.std.proofs.Common.{◌≡◌, ℕ, List, filter, fold, map, take}
use Rattle.std.specs.Str.{bytes_eq}
use Rattle.fab_netlist.specs.declared.net_id.NetId.{NetId}
use Rattle.fab_ways_laws.specs.fab_legal_Sinks.{site_of}
use Rattle.fab_ways_laws.specs.Placing.{same_net}
use Rattle.fab_place.specs.inner.Boxes.{included}
use Rattle.fab_place.proofs.costing.add_outputs.Given as goal

abbrev pub invariant-loop-place : goal.invariant-loop-place
invariant-loop-place l =
    l.area ≡ fold included l.fn.area (map (λ (output : List ℕ × NetId). site_of bytes_eq l.lines output.0) (filter (λ (output : List ℕ × NetId). same_net l.net output.1) (take l.place l.outputs)))
