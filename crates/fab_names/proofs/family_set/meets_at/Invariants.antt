use Rattle.std.proofs.Common.{◌≡◌, ◌<◌, ℕ, true, Contains, length, take}
use Rattle.fab_names.specs.inner.Keyed.{family_at}
use Rattle.fab_names.specs.Names.{meet}
use Rattle.fab_names.proofs.family_set.meets_at.Given as goal

abbrev pub invariant-loop-place : goal.invariant-loop-place
invariant-loop-place l = (place : ℕ) → Contains (take l.place-index l.place-items) place → place < length l.all → meet (family_at l.all place) l.new ≡ true → ⊥
