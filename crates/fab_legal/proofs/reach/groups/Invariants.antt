use Rattle.std.proofs.Common.{◌≡◌, ℕ, length, take}
use Rattle.fab_legal.specs.inner.Tables.{targets}
use Rattle.fab_bits.specs.Keys.{group_at}
use Rattle.fab_legal.proofs.reach.groups.Given as goal

abbrev pub invariant-loop-edge : goal.invariant-loop-edge
invariant-loop-edge l = record {
  len : length l.groups.items ≡ length l.lefts.keys;
  groups : (place : ℕ) → group_at l.groups.items place ≡ targets l.lefts.keys (take l.edge-index l.edges) place;
}
