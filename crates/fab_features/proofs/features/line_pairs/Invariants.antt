use Rattle.std.proofs.Common.{◌≡◌, map, take}
use Rattle.fab_features.specs.inner.Listing.{line_key}
use Rattle.fab_features.proofs.features.line_pairs.Given as goal

abbrev pub invariant-loop-line : goal.invariant-loop-line
invariant-loop-line l = l.pairs.items ≡ map (line_key l.rows) (take l.line-index l.cells)
