use Rattle.std.proofs.Common.{◌≡◌, drop}
use Rattle.std.specs.List.{flat_map}
use Rattle.fab_netlist.specs.Kept.{marked}
use Rattle.fab_netlist.proofs.keeping.mark_cover_inputs.Given as goal

abbrev pub invariant-loop-cover : goal.invariant-loop-cover
invariant-loop-cover l = marked (flat_map (λ cover. cover.inputs) (drop l.cover-index l.covers)) l.marks ≡ marked (flat_map (λ cover. cover.inputs) l.covers) l.fn.marks
