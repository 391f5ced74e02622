use Rattle.std.proofs.Common.{◌≡◌, drop}
use Rattle.std.specs.List.{flat_map}
use Rattle.fab_netlist.specs.inner.Survey.{counted}
use Rattle.fab_netlist.proofs.survey.count_cover_inputs.Given as goal

abbrev pub invariant-loop-cover : goal.invariant-loop-cover
invariant-loop-cover l = counted (flat_map (λ cover. cover.inputs) (drop l.cover-index l.covers)) l.table ≡ counted (flat_map (λ cover. cover.inputs) l.covers) l.fn.table
