use Rattle.std.proofs.Common.{◌≡◌, ◌++◌, ◌<◌, ℕ, List, true, Contains, length}
use Rattle.std.specs.List.{list_all}
use Rattle.fab_lines.specs.Numbers.{is_digit}
use Rattle.fab_names.specs.inner.Keyed.{family_at, under}
use Rattle.fab_names.specs.Names.{meet}
use Rattle.fab_names.proofs.family_set.Bases.meets.Given as goal

abbrev pub invariant-loop-long : goal.invariant-loop-long
invariant-loop-long l = (front digits : List ℕ) (place : ℕ) → l.new.base ≡ front ++ digits → list_all is_digit digits ≡ true → length front < l.long →
    Contains (under l.self.whole.keys.keys l.self.whole.groups.items front) place → place < length l.all → meet (family_at l.all place) l.new ≡ true → ⊥
