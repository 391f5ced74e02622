use Rattle.std.proofs.Common.{◌≡◌, [], drop, filter_map}
use Rattle.std.specs.Str.{bytes_eq}
use Rattle.indexmap.specs.IndexMap.{insert_all}
use Rattle.fab_blif.specs.Flat.{join_in}
use Rattle.fab_blif.specs.inner.Walk.{plain_joins}
use Rattle.fab_blif.proofs.model_copy.ModelCopy.joins_in.Given as goal

abbrev pub invariant-loop-word : goal.invariant-loop-word
invariant-loop-word l = insert_all bytes_eq (plain_joins l.joins.entries) (filter_map (join_in l.self) (drop l.word-index l.words))
    ≡ insert_all bytes_eq [] (filter_map (join_in l.self) l.words)
