use Rattle.std.proofs.Common.{◌≡◌, map, take}
use Rattle.fab_tables.specs.inner.Expanding.{extended}
use Rattle.fab_tables.proofs.expansion.with_each.Given as goal

abbrev pub invariant-loop-name : goal.invariant-loop-name
invariant-loop-name l = l.longer.items ≡ extended (take l.name-index l.names) (map (λ alternative. alternative.now) l.alternatives)
