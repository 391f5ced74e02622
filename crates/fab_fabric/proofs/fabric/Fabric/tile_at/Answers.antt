use Rattle.std.proofs.Common.{arith}
use Rattle.fab_model.specs.Grid.{PlainFabric}
use Rattle.fab_fabric.proofs.Tiles.{tile_found, tile_few_bels}
use Rattle.fab_fabric.proofs.fabric.Fabric.tile_at.Goals as goal

pub returns-clause-found : goal.returns-clause-found
returns-clause-found c =
    let i = c.self.inside in
    let fabric : PlainFabric = record { types = i.types.items; columns = i.columns; rows = i.rows; grid = i.grid.items; mode = i.mode } in
    tile_found fabric c.args.self.now i.indexes.items i.firsts.items i.wires c.args.x c.args.y c.index.result.now c.in_ok-number.field-0 c.index-2.result.now c.index-3.result.now
    c.self.view_is c.self.invariant c.if-x-self.false c.if-y-self.false c.index.ensures c.in_ok-number.was c.index-2.ensures c.index-3.ensures

pub returns-clause-small : goal.returns-clause-small
returns-clause-small c = (omega (arith, c.if-x-self.false, c.self.invariant.is_fabric.few_columns), omega (arith, c.if-y-self.false, c.self.invariant.is_fabric.few_rows))

pub returns-clause-few_bels : goal.returns-clause-few_bels
returns-clause-few_bels c =
    let i = c.self.inside in
    let fabric : PlainFabric = record { types = i.types.items; columns = i.columns; rows = i.rows; grid = i.grid.items; mode = i.mode } in
    tile_few_bels fabric i.indexes.items i.firsts.items i.wires c.args.x c.args.y c.index.result.now c.in_ok-number.field-0 c.index-2.result.now c.self.invariant c.if-x-self.false c.if-y-self.false
    c.index.ensures c.in_ok-number.was c.index-2.ensures
