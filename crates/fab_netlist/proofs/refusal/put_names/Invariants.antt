use Rattle.std.proofs.Common.{◌≡◌, ◌++◌, take}
use Rattle.std.specs.List.{flat_map}
use Rattle.fab_base.specs.Report.{spaced}
use Rattle.fab_netlist.specs.Plain.{cover_at, name_of}
use Rattle.fab_netlist.proofs.refusal.put_names.Given as goal

abbrev pub invariant-loop-place : goal.invariant-loop-place
invariant-loop-place l = l.out.items ≡ l.fn.out.items ++ flat_map (λ place. spaced (name_of l.netlist (cover_at l.netlist place).output)) (take l.place-index l.places)
