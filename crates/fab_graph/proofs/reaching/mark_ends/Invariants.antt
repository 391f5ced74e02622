use Rattle.std.proofs.Common.{◌≡◌, true, [], ◌∷◌, ◌++◌, All, take}
use Rattle.fab_fabric.specs.declared.wire.Wire.{Wire}
use Rattle.fab_graph.specs.Reach.{is_marked}
use Rattle.fab_graph.specs.inner.Search.{IsSearch, left_of}
use Rattle.fab_graph.proofs.reaching.mark_ends.Given as goal

abbrev pub invariant-loop-index : goal.invariant-loop-index
invariant-loop-index l = record {
  search : IsSearch l.graph l.from l.marks.items (l.waiting.items ++ l.fn.wire ∷ []);
  marked : All (λ wire. is_marked l.marks.items wire ≡ true) (take l.index l.ends);
  kept : (other : Wire) → is_marked l.fn.marks.items other ≡ true → is_marked l.marks.items other ≡ true;
  left : left_of l.marks.items l.waiting.items ≡ left_of l.fn.marks.items l.fn.waiting.items;
}
