use Rattle.std.proofs.Common.{◌<◌, ◌-◌, rules, nat_le, sym, subst}
use Rattle.std.proofs.lemmas.List.Sorted.{IsPartitionPoint-from_clause}
use Rattle.fab_model.specs.Grid.{PlainFabric}
use Rattle.fab_fabric.specs.Fabric.{wire_count}
use Rattle.fab_fabric.specs.inner.Index.{HasFirsts}
use Rattle.fab_fabric.proofs.Spots.{firsts_rise, some_begin, last_place, spot_is, first_early}
use Rattle.fab_fabric.proofs.fabric.Fabric.spot.Goals as goal

pub overflow_sub-place : goal.overflow_sub-place
overflow_sub-place c =
    let i = c.self.inside in
    let fabric : PlainFabric = record { types = i.types.items; columns = i.columns; rows = i.rows; grid = i.grid.items; mode = i.mode } in
    let r = c.partition_point-place.result in
    let wire = c.args.wire.0 in
    let firsts = c.deref.result.now in
    let has : HasFirsts fabric firsts = subst (HasFirsts fabric) (sym c.deref.ensures.value) c.self.invariant.numbered in
    let few : wire < wire_count fabric = subst (λ (f : PlainFabric). wire < wire_count f) (sym c.self.view_is) c.requires in
    let point = IsPartitionPoint-from_clause (λ first. nat_le first wire) firsts r c.partition_point-place.ensures.partitioned (firsts_rise fabric firsts wire has) (λ a r f k. search rules) in
    some_begin fabric firsts wire r has few c.partition_point-place.ensures.bound point

pub overflow_sub-result : goal.overflow_sub-result
overflow_sub-result c =
    let i = c.self.inside in
    let fabric : PlainFabric = record { types = i.types.items; columns = i.columns; rows = i.rows; grid = i.grid.items; mode = i.mode } in
    let r = c.partition_point-place.result in
    let wire = c.args.wire.0 in
    let firsts = c.deref.result.now in
    let has : HasFirsts fabric firsts = subst (HasFirsts fabric) (sym c.deref.ensures.value) c.self.invariant.numbered in
    let few : wire < wire_count fabric = subst (λ (f : PlainFabric). wire < wire_count f) (sym c.self.view_is) c.requires in
    let point = IsPartitionPoint-from_clause (λ first. nat_le first wire) firsts r c.partition_point-place.ensures.partitioned (firsts_rise fabric firsts wire has) (λ a r f k. search rules) in
    let last = last_place fabric firsts wire r has few c.partition_point-place.ensures.bound point in
    first_early fabric i.firsts.items wire (r - 1) c.index.result.now c.self.invariant.numbered last.begins last.in_grid c.index.ensures

pub returns-clause-number : goal.returns-clause-number
returns-clause-number c =
    let i = c.self.inside in
    let fabric : PlainFabric = record { types = i.types.items; columns = i.columns; rows = i.rows; grid = i.grid.items; mode = i.mode } in
    let r = c.partition_point-place.result in
    let wire = c.args.wire.0 in
    let firsts = c.deref.result.now in
    let has : HasFirsts fabric firsts = subst (HasFirsts fabric) (sym c.deref.ensures.value) c.self.invariant.numbered in
    let few : wire < wire_count fabric = subst (λ (f : PlainFabric). wire < wire_count f) (sym c.self.view_is) c.requires in
    let point = IsPartitionPoint-from_clause (λ first. nat_le first wire) firsts r c.partition_point-place.ensures.partitioned (firsts_rise fabric firsts wire has) (λ a r f k. search rules) in
    let last = last_place fabric firsts wire r has few c.partition_point-place.ensures.bound point in
    (spot_is fabric c.args.self.now i.indexes.items i.firsts.items i.wires wire (r - 1) c.index.result.now c.self.view_is c.self.invariant (record { in_grid = last.in_grid; begins = last.begins; ends = last.ends }) c.index.ensures).0

pub returns-clause-index : goal.returns-clause-index
returns-clause-index c =
    let i = c.self.inside in
    let fabric : PlainFabric = record { types = i.types.items; columns = i.columns; rows = i.rows; grid = i.grid.items; mode = i.mode } in
    let r = c.partition_point-place.result in
    let wire = c.args.wire.0 in
    let firsts = c.deref.result.now in
    let has : HasFirsts fabric firsts = subst (HasFirsts fabric) (sym c.deref.ensures.value) c.self.invariant.numbered in
    let few : wire < wire_count fabric = subst (λ (f : PlainFabric). wire < wire_count f) (sym c.self.view_is) c.requires in
    let point = IsPartitionPoint-from_clause (λ first. nat_le first wire) firsts r c.partition_point-place.ensures.partitioned (firsts_rise fabric firsts wire has) (λ a r f k. search rules) in
    let last = last_place fabric firsts wire r has few c.partition_point-place.ensures.bound point in
    (spot_is fabric c.args.self.now i.indexes.items i.firsts.items i.wires wire (r - 1) c.index.result.now c.self.view_is c.self.invariant (record { in_grid = last.in_grid; begins = last.begins; ends = last.ends }) c.index.ensures).1
