use Rattle.std.proofs.Common.{◌++◌, List, sym, subst}
use Rattle.fab_tables.specs.Lists.{Pair}
use Rattle.fab_list_files.specs.Keys.{HasSides}
use Rattle.fab_list_files.proofs.Names.{sides_of_all}
use Rattle.fab_list_files.proofs.matrix_pairs.MatrixPairsListState.add.Goals as goal

pub invariant_of-drop : goal.invariant_of-drop
invariant_of-drop c =
    let sides = c.add_all.new.self in
    let pairs = c.pairs.inside.pairs in
    let all : HasSides sides (pairs ++ c.args.new.items) = subst (λ (new : List Pair). HasSides sides (pairs ++ new)) c.deref.ensures.value (c.in_ok-add_all.ensures pairs c.pairs.invariant) in
    subst (HasSides sides) (sym c.in_ok-add_all-2.ensures) (sides_of_all sides pairs c.args.new.items all)
