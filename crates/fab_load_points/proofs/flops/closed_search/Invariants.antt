use Rattle.std.proofs.Common.{length}
use Rattle.fab_syntax.specs.Plain.{plain_text}
use Rattle.fab_load_points.specs.inner.Flops.{among, AreLoaderFlops, HoldsClosed}
use Rattle.fab_load_points.proofs.flops.closed_search.Given as goal

abbrev pub invariant-rounds : goal.invariant-rounds
invariant-rounds l = record {
  flops : AreLoaderFlops (plain_text l.equations) l.flops.items;
  holds : HoldsClosed (plain_text l.equations) (among (plain_text l.equations) l.flops.items);
}

abbrev pub decreases-rounds : goal.decreases-rounds
decreases-rounds l = length l.flops.items
