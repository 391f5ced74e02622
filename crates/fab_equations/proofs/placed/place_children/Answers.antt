use Rattle.std.proofs.Common.{◌≡◌, length, slice_get, Some, refl, arith}
use Rattle.std.proofs.lemmas.Option.{slice_get_read, slice_get_within}
use Rattle.fab_equations.proofs.Placing.{still_kept, one_more}
use Rattle.fab_equations.proofs.placed.place_children.Goals as goal

pub loop-number-preserved : goal.loop-number-preserved
loop-number-preserved c =
    let children = c.args.children.now in
    let number = c.loop-number.number in
    let child = c.index-children-number.result in
    let is : slice_get children number ≡ Some child = slice_get_read children (length children) number child refl (omega arith) c.index-children-number.is in
    record {
      kept = still_kept c.loop-number.placed children c.args.parent number child is c.args.placed.now c.loop-number.invariant.kept;
      noted = one_more c.loop-number.placed children c.args.parent number child is c.loop-number.invariant.noted;
    }

pub returns-clause-all : goal.returns-clause-all
returns-clause-all c number child is =
    let within = slice_get_within c.args.children.now number child is in
    c.loop-number.invariant.noted number child (omega arith) is
