use Rattle.std.proofs.Common.{leb, subst, sym, rules}
use Rattle.std.proofs.lemmas.List.Sorted.{IsPartitionPoint-from_clause, IsPartitionedBy-leb}
use Rattle.fab_syntax.specs.Plain.{plain_text}
use Rattle.fab_equations.specs.inner.Placed.{ArePlaced}
use Rattle.fab_equations.specs.declared.placed.PlacedInstance.{PlacedInstance}
use Rattle.fab_equations.proofs.Located.{placed_rise, instance_found}
use Rattle.fab_equations.proofs.equations.Equations.instance_of.Goals as goal

pub overflow_sub-result : goal.overflow_sub-result
overflow_sub-result c =
    let text = plain_text c.args.self.now in
    let are : ArePlaced text c.self.inside.placed.items = subst (λ t. ArePlaced (plain_text t) c.self.inside.placed.items) c.self.view_is c.self.invariant.placed_are in
    let placed : ArePlaced text c.deref.result.now = subst (ArePlaced text) (sym c.deref.ensures.value) are in
    let parted = IsPartitionedBy-leb (λ (p : PlacedInstance). p.first) c.deref.result.now c.args.point (placed_rise text c.deref.result.now placed) in
    let point = IsPartitionPoint-from_clause (λ (p : PlacedInstance). leb p.first c.args.point) _ _ c.partition_point.ensures.partitioned parted (λ a r q k. search rules) in
    (instance_found text c.deref.result.now placed c.args.point c.partition_point.result c.requires c.partition_point.ensures.bound point).0

pub returns : goal.returns
returns c =
    let text = plain_text c.args.self.now in
    let are : ArePlaced text c.self.inside.placed.items = subst (λ t. ArePlaced (plain_text t) c.self.inside.placed.items) c.self.view_is c.self.invariant.placed_are in
    let placed : ArePlaced text c.deref.result.now = subst (ArePlaced text) (sym c.deref.ensures.value) are in
    let parted = IsPartitionedBy-leb (λ (p : PlacedInstance). p.first) c.deref.result.now c.args.point (placed_rise text c.deref.result.now placed) in
    let point = IsPartitionPoint-from_clause (λ (p : PlacedInstance). leb p.first c.args.point) _ _ c.partition_point.ensures.partitioned parted (λ a r q k. search rules) in
    (instance_found text c.deref.result.now placed c.args.point c.partition_point.result c.requires c.partition_point.ensures.bound point).1
