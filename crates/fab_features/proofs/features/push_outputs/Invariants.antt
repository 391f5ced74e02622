use Rattle.std.proofs.Common.{take}
use Rattle.std.specs.List.{filter_map}
use Rattle.fab_features.specs.Design.{output_feature}
use Rattle.fab_features.specs.inner.Listing.{Pushes}
use Rattle.fab_features.proofs.features.push_outputs.Given as goal

-- the lines of the outputs so far
abbrev pub invariant-loop-output : goal.invariant-loop-output
invariant-loop-output l =
    Pushes l.fn.features.items l.features.items (filter_map (output_feature l.lookup.fabric.now l.lookup.implementation.now l.x l.y) (take l.output-index l.outputs))
