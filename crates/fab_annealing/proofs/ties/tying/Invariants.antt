use Rattle.std.proofs.Common.{◌⊎◌, ◌<◌, ℕ, get_or}
use Rattle.std.specs.List.{All, Contains}
use Rattle.fab_annealing.specs.Measured.{nets_of}
use Rattle.fab_annealing.specs.inner.Tied.{AreDistinct, HasOther, IsAlone}
use Rattle.fab_annealing.proofs.ties.tying.Given as goal

abbrev pub invariant-loop-net : goal.invariant-loop-net
invariant-loop-net l = record {
  touching : All (λ net. Contains (nets_of l.nets l.item) net) l.ties.items;
  others : All (λ net. HasOther l.nets l.item net) l.ties.items;
  distinct : AreDistinct l.ties.items;
  whole : (k : ℕ) → k < l.net-index → Contains l.ties.items (get_or (nets_of l.nets l.item) k 0) ⊎ IsAlone l.nets l.item (get_or (nets_of l.nets l.item) k 0);
}
