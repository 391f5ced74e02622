use Rattle.std.proofs.Common.{◌≡◌, ◌++◌, ◌<◌, ℕ, List, true, Contains, length}
use Rattle.std.specs.List.{list_all}
use Rattle.fab_lines.specs.Numbers.{is_digit}
use Rattle.fab_names.specs.inner.Keyed.{under}
use Rattle.fab_names.proofs.family_set.add_fronts.Given as goal

abbrev pub invariant-loop-long : goal.invariant-loop-long
invariant-loop-long l = record {
  kept : (other : List ℕ) (there : ℕ) → Contains (under l.fn.fronts.keys.keys l.fn.fronts.groups.items other) there → Contains (under l.fronts.keys.keys l.fronts.groups.items other) there;
  added : (front digits : List ℕ) → l.base ≡ front ++ digits → list_all is_digit digits ≡ true → length front < l.long → Contains (under l.fronts.keys.keys l.fronts.groups.items front) l.place;
}
