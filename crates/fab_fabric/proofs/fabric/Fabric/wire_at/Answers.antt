use Rattle.std.proofs.Common.{◌≤◌, arith, subst, ap}
use Rattle.fab_model.specs.Grid.{PlainFabric}
use Rattle.fab_fabric.specs.Fabric.{wire_count}
use Rattle.fab_fabric.specs.Wires.{numbered_wire}
use Rattle.fab_fabric.proofs.Numbered.{index_within}
use Rattle.fab_fabric.proofs.Spots.{wire_read}
use Rattle.fab_fabric.proofs.fabric.Fabric.wire_at.Goals as goal

pub overflow_add-result : goal.overflow_add-result
overflow_add-result c =
    let i = c.self.inside in
    let fabric : PlainFabric = record { types = i.types.items; columns = i.columns; rows = i.rows; grid = i.grid.items; mode = i.mode } in
    let is = wire_read fabric c.args.self.now i.indexes.items i.firsts.items i.wires c.args.x c.args.y c.args.number c.index.result.now c.self.view_is c.self.invariant c.requires c.index.ensures in
    let within = index_within c.args.self.now c.args.x c.args.y c.args.number c.requires in
    let small : wire_count c.args.self.now ≤ 1048576 = subst (λ (f : PlainFabric). wire_count f ≤ 1048576) c.self.view_is c.self.invariant.is_fabric.few_wires in
    omega (arith, is, within, small)

pub returns-clause-index : goal.returns-clause-index
returns-clause-index c =
    let i = c.self.inside in
    let fabric : PlainFabric = record { types = i.types.items; columns = i.columns; rows = i.rows; grid = i.grid.items; mode = i.mode } in
    ap numbered_wire (wire_read fabric c.args.self.now i.indexes.items i.firsts.items i.wires c.args.x c.args.y c.args.number c.index.result.now c.self.view_is c.self.invariant c.requires c.index.ensures)

pub returns-clause-within : goal.returns-clause-within
returns-clause-within c =
    let i = c.self.inside in
    let fabric : PlainFabric = record { types = i.types.items; columns = i.columns; rows = i.rows; grid = i.grid.items; mode = i.mode } in
    let is = wire_read fabric c.args.self.now i.indexes.items i.firsts.items i.wires c.args.x c.args.y c.args.number c.index.result.now c.self.view_is c.self.invariant c.requires c.index.ensures in
    let within = index_within c.args.self.now c.args.x c.args.y c.args.number c.requires in
    omega (arith, is, within)
