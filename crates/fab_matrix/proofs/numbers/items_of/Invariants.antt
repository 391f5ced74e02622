use Rattle.std.proofs.Common.{◌≡◌, map, take}
use Rattle.fab_syntax.specs.Plain.{plain_item}
use Rattle.fab_matrix.specs.Matrix.{numbered_outputs}
use Rattle.fab_matrix.specs.inner.Grouped.{item_of}
use Rattle.fab_matrix.proofs.numbers.items_of.Given as goal

-- the items so far are those of the outputs so far
abbrev pub invariant-loop-place : goal.invariant-loop-place
invariant-loop-place l =
    map plain_item l.items.items ≡ map (λ output. item_of l.inputs l.groups l.order.keys output.0 output.1) (numbered_outputs (take l.place l.outputs))
