use Rattle.std.proofs.Common.{List, Bool, subst, sym, refl}
use Rattle.std.specs.Vec.{with_item}
use Rattle.fab_fabric.specs.Bits.{bits_of_columns, HasBit, SetsBit}
use Rattle.fab_fabric.proofs.BitMaps.{bit_is_set, kept_set}
use Rattle.fab_fabric.proofs.bits.Bits.set.Goals as goal

pub returns : goal.returns
returns c =
    let columns = c.self.inside.columns.items in
    let bits = bits_of_columns columns in
    let x = c.args.x in
    let y = c.args.y in
    let bit = c.args.bit in
    let value = c.args.value in
    let new_tile = with_item c.index_mut-2.result.now bit value in
    let new_column = with_item c.index_mut.result.now y new_tile in
    let new = (with_item c.self.inside.columns x new_column).items in
    let has : HasBit bits x y bit = subst (λ (b : List (List (List Bool))). HasBit b x y bit) (sym c.self.view_is) c.requires in
    let kept = kept_set columns new c.index_mut.result.now new_column c.index_mut-2.result.now new_tile x y bit value has c.index_mut.ensures.value c.index_mut-2.ensures.value refl refl refl in
    subst (λ (b : List (List (List Bool))). SetsBit b (bits_of_columns new) x y bit value) c.self.view_is
    (subst (λ (b : List (List (List Bool))). SetsBit bits b x y bit value) (sym kept) (bit_is_set bits x y bit value has))
