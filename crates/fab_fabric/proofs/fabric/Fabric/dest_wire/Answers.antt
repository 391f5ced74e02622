use Rattle.std.proofs.Common.{◌∙◌, ap, get_or, arith}
use Rattle.fab_model.specs.Wires.{dest_of}
use Rattle.fab_fabric.specs.Wires.{wire_index, numbered_wire}
use Rattle.fab_fabric.proofs.Numbered.{number_within}
use Rattle.fab_fabric.proofs.Joined.{dest_number, number_small}
use Rattle.fab_fabric.proofs.fabric.Fabric.dest_wire.Goals as goal

pub overflow_add-number : goal.overflow_add-number
overflow_add-number c =
    let fabric = c.args.self.now in
    let at = c.args.at in
    let tile = c.in-Some.tile.now in
    let has = c.in-Some.ensures.found in
    let number = dest_number fabric at c.args.bit tile c.in-Some.index.now c.index.result.now c.source_bits.result c.index-rows-at.result c.requires has.0 has.1 c.index.ensures
    (c.index-rows-at.is ∙ ap (λ rows. get_or rows at.row c.index-rows-at.result) c.rows.ensures.rows) c.source_bits.ensures in
    omega (arith, number.0, number_small fabric at.x at.y (dest_of at.row c.args.bit) tile c.requires has.0 has.1.is_tile)

pub overflow_add-number-in-Some : goal.overflow_add-number-in-Some
overflow_add-number-in-Some c =
    let fabric = c.args.self.now in
    let at = c.args.at in
    let tile = c.in-Some.tile.now in
    let has = c.in-Some.ensures.found in
    let number = dest_number fabric at c.args.bit tile c.in-Some.index.now c.index.result.now c.source_bits.result c.index-rows-at.result c.requires has.0 has.1 c.index.ensures
    (c.index-rows-at.is ∙ ap (λ rows. get_or rows at.row c.index-rows-at.result) c.rows.ensures.rows) c.source_bits.ensures in
    omega (arith, number.0, number_small fabric at.x at.y (dest_of at.row c.args.bit) tile c.requires has.0 has.1.is_tile)

pub overflow_cast-number : goal.overflow_cast-number
overflow_cast-number c =
    let fabric = c.args.self.now in
    let at = c.args.at in
    let tile = c.in-Some.tile.now in
    let has = c.in-Some.ensures.found in
    let number = dest_number fabric at c.args.bit tile c.in-Some.index.now c.index.result.now c.source_bits.result c.index-rows-at.result c.requires has.0 has.1 c.index.ensures
    (c.index-rows-at.is ∙ ap (λ rows. get_or rows at.row c.index-rows-at.result) c.rows.ensures.rows) c.source_bits.ensures in
    omega (arith, number.0, number_small fabric at.x at.y (dest_of at.row c.args.bit) tile c.requires has.0 has.1.is_tile)

pub wire_at-requires : goal.wire_at-requires
wire_at-requires c =
    let fabric = c.args.self.now in
    let at = c.args.at in
    let tile = c.in-Some.tile.now in
    let has = c.in-Some.ensures.found in
    let number = dest_number fabric at c.args.bit tile c.in-Some.index.now c.index.result.now c.source_bits.result c.index-rows-at.result c.requires has.0 has.1 c.index.ensures
    (c.index-rows-at.is ∙ ap (λ rows. get_or rows at.row c.index-rows-at.result) c.rows.ensures.rows) c.source_bits.ensures in
    omega (arith, number.0, number_within fabric at.x at.y (dest_of at.row c.args.bit) c.requires)

pub returns-clause-index : goal.returns-clause-index
returns-clause-index c =
    let fabric = c.args.self.now in
    let at = c.args.at in
    let tile = c.in-Some.tile.now in
    let has = c.in-Some.ensures.found in
    let number = dest_number fabric at c.args.bit tile c.in-Some.index.now c.index.result.now c.source_bits.result c.index-rows-at.result c.requires has.0 has.1 c.index.ensures
    (c.index-rows-at.is ∙ ap (λ rows. get_or rows at.row c.index-rows-at.result) c.rows.ensures.rows) c.source_bits.ensures in
    c.wire_at.ensures.index ∙ ap (λ n. numbered_wire (wire_index fabric at.x at.y n)) number.0

pub returns-clause-within : goal.returns-clause-within
returns-clause-within c = c.wire_at.ensures.within
