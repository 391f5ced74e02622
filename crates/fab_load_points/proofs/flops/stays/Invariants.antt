use Rattle.std.proofs.Common.{◌≡◌, [], length}
use Rattle.fab_syntax.specs.Plain.{plain_text}
use Rattle.fab_load_points.specs.inner.Search.{Scene, IsSearch}
use Rattle.fab_load_points.proofs.Rounds.{AllInside}
use Rattle.fab_load_points.proofs.flops.stays.Given as goal

abbrev pub invariant-loop-read : goal.invariant-loop-read
invariant-loop-read l = record {
  long : length l.search.statuses.items ≡ length l.fn.search.statuses.items;
  rest : l.search.stack.items ≡ [];
  search : (scene : Scene (plain_text l.equations)) → IsSearch (plain_text l.equations) scene l.fn.search.statuses.items [] →
      IsSearch (plain_text l.equations) scene l.search.statuses.items [] × AllInside (plain_text l.equations) scene.all l.read-items l.read-index;
}
