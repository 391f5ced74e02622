use Rattle.std.proofs.Common.{◌≡◌, ◌++◌}
use Rattle.fab_model.specs.Tiles.{counted}
use Rattle.fab_gen_tile.proofs.matrix.push_several.Given as goal

-- those so far
abbrev pub invariant-loop-wire : goal.invariant-loop-wire
invariant-loop-wire l = l.outputs.items ≡ l.initial.outputs.items ++ counted l._wire (λ wire. l.output)
