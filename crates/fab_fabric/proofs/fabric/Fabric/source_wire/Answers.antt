use Rattle.std.proofs.Common.{◌∙◌, ap, arith}
use Rattle.fab_model.specs.Wires.{source_of}
use Rattle.fab_fabric.specs.Wires.{wire_index, numbered_wire}
use Rattle.fab_fabric.proofs.Numbered.{number_within}
use Rattle.fab_fabric.proofs.Joined.{source_number, number_small}
use Rattle.fab_fabric.proofs.fabric.Fabric.source_wire.Goals as goal

pub overflow_add-index : goal.overflow_add-index
overflow_add-index c =
    let fabric = c.args.self.now in
    let at = c.args.at in
    let tile = c.in-Some.field-0-0.now in
    let has = c.in-Some.ensures.found in
    let number = source_number fabric at c.args.bit tile c.in-Some.index.now c.index.result.now c.requires has.0 has.1 c.index.ensures in
    omega (arith, number.0, number_small fabric at.x at.y (source_of at.row c.args.bit) tile c.requires has.0 has.1.is_tile)

pub overflow_cast-index : goal.overflow_cast-index
overflow_cast-index c =
    let fabric = c.args.self.now in
    let at = c.args.at in
    let tile = c.in-Some.field-0-0.now in
    let has = c.in-Some.ensures.found in
    let number = source_number fabric at c.args.bit tile c.in-Some.index.now c.index.result.now c.requires has.0 has.1 c.index.ensures in
    omega (arith, number.0, number_small fabric at.x at.y (source_of at.row c.args.bit) tile c.requires has.0 has.1.is_tile)

pub wire_at-requires : goal.wire_at-requires
wire_at-requires c =
    let fabric = c.args.self.now in
    let at = c.args.at in
    let tile = c.in-Some.field-0-0.now in
    let has = c.in-Some.ensures.found in
    let number = source_number fabric at c.args.bit tile c.in-Some.index.now c.index.result.now c.requires has.0 has.1 c.index.ensures in
    omega (arith, number.0, number_within fabric at.x at.y (source_of at.row c.args.bit) c.requires)

pub returns-clause-index : goal.returns-clause-index
returns-clause-index c =
    let fabric = c.args.self.now in
    let at = c.args.at in
    let tile = c.in-Some.field-0-0.now in
    let has = c.in-Some.ensures.found in
    let number = source_number fabric at c.args.bit tile c.in-Some.index.now c.index.result.now c.requires has.0 has.1 c.index.ensures in
    c.wire_at.ensures.index ∙ ap (λ n. numbered_wire (wire_index fabric at.x at.y n)) number.0

pub returns-clause-within : goal.returns-clause-within
returns-clause-within c = c.wire_at.ensures.within
