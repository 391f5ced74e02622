use Rattle.fab_fabric.proofs.Kept.{new_is_indexed}
use Rattle.std.proofs.Common.{List, All, subst, sym, ◌∙◌, arith}
use Rattle.fab_model.specs.Tiles.{PlainTile, IsTile}
use Rattle.fab_fabric.specs.inner.Index.{HaveIndexes}
use Rattle.fab_fabric.proofs.fabric.Fabric.with_mode.Goals as goal

pub invariant_of-result : goal.invariant_of-result
invariant_of-result c =
    let same = c.deref.ensures.value ∙ sym c.deref-2.ensures.value in
    new_is_indexed c.args.types.items c.deref-2.result.now c.args.columns c.len.result c.args.grid.items c.deref-3.result.now c.args.mode c.in_ok-indexes.indexes.items c.in_ok-firsts.firsts.items
    c.in_ok-firsts.wires c.deref-2.ensures.value c.deref-3.ensures.value (omega (arith, c.len.ensures, c.args.grid.ok)) c.requires
    (subst (λ (ts : List PlainTile). HaveIndexes ts c.in_ok-indexes.indexes.items) same c.in_ok-indexes.ensures.indexes)
    (subst (λ (ts : List PlainTile). All IsTile ts) same c.in_ok-indexes.ensures.are_tiles) c.in_ok-firsts.ensures.firsts c.in_ok-firsts.ensures.wires
