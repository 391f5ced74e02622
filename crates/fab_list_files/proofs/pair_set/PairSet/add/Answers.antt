use Rattle.std.proofs.Common.{◌∙◌, ap, Global}
use Rattle.fab_list_files.specs.Lists.{with_pair}
use Rattle.fab_list_files.specs.Keys.{key_pairs}
use Rattle.fab_list_files.proofs.Names.{pairs_of_insert}
use Rattle.fab_list_files.proofs.pair_set.PairSet.add.Goals as goal

pub returns : goal.returns
returns c =
    ap (key_pairs {A = Global}) c.in_ok-insert.ensures.keys
    ∙ pairs_of_insert c.self.inside.keys.keys (c.into_vec.result, c.into_vec-2.result)
    ∙ (λ j. with_pair (c.self.view_is j) (c.into_vec.ensures j, c.into_vec-2.ensures j))
