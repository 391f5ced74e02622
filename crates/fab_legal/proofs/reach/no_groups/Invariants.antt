use Rattle.std.proofs.Common.{◌≡◌, ℕ, [], vec_len}
use Rattle.fab_bits.specs.Keys.{group_at}
use Rattle.fab_legal.proofs.reach.no_groups.Given as goal

abbrev pub invariant-loop-place : goal.invariant-loop-place
invariant-loop-place l = record {
  len : vec_len l.groups ≡ l._place;
  groups : (place : ℕ) → group_at l.groups.items place ≡ [];
}
