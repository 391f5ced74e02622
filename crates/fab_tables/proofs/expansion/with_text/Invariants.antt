use Rattle.std.proofs.Common.{◌≡◌, ◌∷◌, []}
use Rattle.fab_tables.specs.inner.Expanding.{extended}
use Rattle.fab_tables.proofs.expansion.with_text.Given as goal

abbrev pub invariant-loop-name : goal.invariant-loop-name
invariant-loop-name l = l.longer.items ≡ extended l.yielded (l.text ∷ [])
