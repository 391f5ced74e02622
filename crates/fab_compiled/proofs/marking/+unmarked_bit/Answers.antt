use Rattle.std.proofs.Common.{◌≡◌, ◌-◌, ◌<◌, false, slice_get, MatchOption, Some, ap, subst}
use Rattle.fab_compiled.specs.declared.tree.Tree.{Tree}
use Rattle.fab_compiled.specs.Trees.{tree_value, tree_width, IsMade}
use Rattle.fab_compiled.specs.inner.Picks.{IsAlike}
use Rattle.fab_compiled.proofs.Picking.{none_then, all_alike, point_alike, low_alike, high_alike}
use Rattle.fab_compiled.proofs.marking.+unmarked_bit.Goals as goal

pub returns-in-Bits : goal.returns-in-Bits
returns-in-Bits t c =
    let within : c.args.bit < c.in-Bits.field-1 = subst (λ (x : Tree). c.args.bit < tree_width x) c.in-Bits.is c.requires.within in
    none_then c.args.marks.now
    (point_alike c.args.marks.now c.args.first c.args.tree.now c.in-Bits.place c.in-Bits.field-1 c.args.bit c.in-Bits.is within)
    c.unmarked_of.result c.unmarked_of.ensures

pub returns-then-bit-width : goal.returns-then-bit-width
returns-then-bit-width t c =
    let low = c.in-Cat.low.value in
    let high = c.in-Cat.high.value in
    let made : (tree_width low ≡ c.in-Cat.width) × IsMade low × IsMade high = subst IsMade c.in-Cat.is c.requires.made in
    none_then c.args.marks.now
    (low_alike c.args.marks.now c.args.first c.args.tree.now low high c.args.bit c.in-Cat.width (λ at. ap (tree_value at) c.in-Cat.is) made.0 made.1 c.if-bit-width.true)
    c.unmarked_bit.result
    (subst (λ (x : Tree). MatchOption c.unmarked_bit.result (IsAlike c.args.marks.now c.args.first x c.args.bit) (λ point. slice_get c.args.marks.now point ≡ Some false))
    c.deref.ensures c.unmarked_bit.ensures)

pub returns-else-bit-width : goal.returns-else-bit-width
returns-else-bit-width t c =
    let low = c.in-Cat.low.value in
    let high = c.in-Cat.high.value in
    let made : (tree_width low ≡ c.in-Cat.width) × IsMade low × IsMade high = subst IsMade c.in-Cat.is c.requires.made in
    none_then c.args.marks.now
    (high_alike c.args.marks.now c.args.first c.args.tree.now low high c.args.bit c.in-Cat.width (λ at. ap (tree_value at) c.in-Cat.is) made.0 made.1 c.if-bit-width.false)
    c.unmarked_bit-else-bit-width.result
    (subst (λ (x : Tree). MatchOption c.unmarked_bit-else-bit-width.result (IsAlike c.args.marks.now c.args.first x (c.args.bit - c.in-Cat.width))
    (λ point. slice_get c.args.marks.now point ≡ Some false))
    c.deref-else-bit-width.ensures c.unmarked_bit-else-bit-width.ensures)

pub returns-in-Cond : goal.returns-in-Cond
returns-in-Cond t c =
    none_then c.args.marks.now (all_alike c.args.marks.now c.args.first c.args.tree.now c.args.bit) c.unmarked.result c.unmarked.ensures

pub returns-in-Equal : goal.returns-in-Equal
returns-in-Equal t c =
    none_then c.args.marks.now (all_alike c.args.marks.now c.args.first c.args.tree.now c.args.bit) c.unmarked-in-Equal.result c.unmarked-in-Equal.ensures

pub returns-in-And : goal.returns-in-And
returns-in-And t c =
    none_then c.args.marks.now (all_alike c.args.marks.now c.args.first c.args.tree.now c.args.bit) c.unmarked-in-And.result c.unmarked-in-And.ensures

pub returns-in-Const : goal.returns-in-Const
returns-in-Const t c =
    none_then c.args.marks.now (all_alike c.args.marks.now c.args.first c.args.tree.now c.args.bit) c.unmarked-in-Const.result c.unmarked-in-Const.ensures
