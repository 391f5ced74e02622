use Rattle.std.proofs.Common.{ℕ, ◌+◌, ◌*◌, List, ◌++◌, length, get_or, refl, sym, ◌∙◌, ap, subst, arith}
use Rattle.fab_astar.specs.Scene.{left, scene_of}
use Rattle.fab_astar.specs.State.{State, IsOffered}
use Rattle.fab_astar.specs.State.IsOffered.{passes, takes}
use Rattle.fab_astar.specs.Tables.{state_of, prices}
use Rattle.fab_astar.proofs.Keeping.{kept_same, kept_on, held_kept, price_kept}
use Rattle.fab_astar.proofs.Taking.{Grows-same, seen_inside}
use Rattle.fab_astar.proofs.Settling.{closed_at_end}
use Rattle.fab_astar.proofs.Relaxing.{inside, pass_step, cut_step, through_low, key_low, offer_step}
use Rattle.fab_astar.proofs.explore.relax.Goals as goal

pub cost-cost-requires : goal.cost-cost-requires
cost-cost-requires g c = omega (arith, seen_inside (g.F.Field.graph c.args.field.now).nodes (state_of c.args.tables.now) c.requires.search.shape c.args.node (omega (arith, c.requires.closing.latest)), c.requires.count)

pub ends-ends-requires : goal.ends-ends-requires
ends-ends-requires g c = seen_inside (g.F.Field.graph c.args.field.now).nodes (state_of c.args.tables.now) c.requires.search.shape c.args.node (omega (arith, c.requires.closing.latest))

pub loop-next-init : goal.loop-next-init
loop-next-init g c = record {
  kept = kept_same c.args.tables.now;
  queue = c.requires.queue;
  so_far = record { search = c.requires.search; closing = c.requires.closing; grows = Grows-same (state_of c.args.tables.now) };
  same = c.cost-cost.ensures;
  size = omega arith;
}

pub is_held-requires : goal.is_held-requires
is_held-requires g c = omega (arith, inside (scene_of (g.F.Field.graph c.args.field.now) (g.F.Field.rest c.args.field.now) c.args.guide c.args._tree.now (prices c.args.tables.now)) (c.args._tree.now ++ c.args._starts.now) c.args.limit (state_of c.args.tables.now) (state_of c.loop-next.tables) c.loop-next.tables.queue c.args.node c.loop-next.next-index (get_or c.ends-ends.result.now c.loop-next.next-index 0) c.requires.scene c.loop-next.invariant.so_far (ap (λ (xs : List ℕ). get_or xs c.loop-next.next-index 0) c.ends-ends.ensures) (omega (arith, ap (λ (xs : List ℕ). length xs) c.ends-ends.ensures)), c.loop-next.invariant.kept.count, c.requires.count)

pub loop-next-preserved-then-is_held : goal.loop-next-preserved-then-is_held
loop-next-preserved-then-is_held g c = record {
  kept = c.loop-next.invariant.kept;
  queue = c.loop-next.invariant.queue;
  so_far = pass_step (scene_of (g.F.Field.graph c.args.field.now) (g.F.Field.rest c.args.field.now) c.args.guide c.args._tree.now (prices c.args.tables.now)) (c.args._tree.now ++ c.args._starts.now) c.args.limit (state_of c.args.tables.now) (state_of c.loop-next.tables) c.loop-next.tables.queue c.args.node c.loop-next.next-index (get_or c.ends-ends.result.now c.loop-next.next-index 0) c.requires.scene c.loop-next.invariant.so_far (ap (λ (xs : List ℕ). get_or xs c.loop-next.next-index 0) c.ends-ends.ensures) (omega (arith, ap (λ (xs : List ℕ). length xs) c.ends-ends.ensures)) (sym (held_kept c.args.tables.now c.loop-next.tables c.loop-next.invariant.kept (get_or c.ends-ends.result.now c.loop-next.next-index 0) ∙ c.requires.held (get_or c.ends-ends.result.now c.loop-next.next-index 0)) ∙ (sym c.is_held.ensures ∙ c.if-is_held.true));
  same = c.loop-next.invariant.same;
  size = omega (arith, c.loop-next.invariant.size);
}

pub price-requires : goal.price-requires
price-requires g c = omega (arith, inside (scene_of (g.F.Field.graph c.args.field.now) (g.F.Field.rest c.args.field.now) c.args.guide c.args._tree.now (prices c.args.tables.now)) (c.args._tree.now ++ c.args._starts.now) c.args.limit (state_of c.args.tables.now) (state_of c.loop-next.tables) c.loop-next.tables.queue c.args.node c.loop-next.next-index (get_or c.ends-ends.result.now c.loop-next.next-index 0) c.requires.scene c.loop-next.invariant.so_far (ap (λ (xs : List ℕ). get_or xs c.loop-next.next-index 0) c.ends-ends.ensures) (omega (arith, ap (λ (xs : List ℕ). length xs) c.ends-ends.ensures)), c.loop-next.invariant.kept.count, c.requires.count)

pub overflow_mul-through : goal.overflow_mul-through
overflow_mul-through g c = omega (arith, through_low (scene_of (g.F.Field.graph c.args.field.now) (g.F.Field.rest c.args.field.now) c.args.guide c.args._tree.now (prices c.args.tables.now)) (c.args._tree.now ++ c.args._starts.now) c.args.limit (state_of c.args.tables.now) (state_of c.loop-next.tables) c.loop-next.tables.queue c.args.node c.loop-next.next-index (get_or c.ends-ends.result.now c.loop-next.next-index 0) c.requires.scene c.loop-next.invariant.so_far (ap (λ (xs : List ℕ). get_or xs c.loop-next.next-index 0) c.ends-ends.ensures) (omega (arith, ap (λ (xs : List ℕ). length xs) c.ends-ends.ensures)), c.price.ensures, price_kept c.args.tables.now c.loop-next.tables c.loop-next.invariant.kept (get_or c.ends-ends.result.now c.loop-next.next-index 0))

pub overflow_add-through : goal.overflow_add-through
overflow_add-through g c = omega (arith, through_low (scene_of (g.F.Field.graph c.args.field.now) (g.F.Field.rest c.args.field.now) c.args.guide c.args._tree.now (prices c.args.tables.now)) (c.args._tree.now ++ c.args._starts.now) c.args.limit (state_of c.args.tables.now) (state_of c.loop-next.tables) c.loop-next.tables.queue c.args.node c.loop-next.next-index (get_or c.ends-ends.result.now c.loop-next.next-index 0) c.requires.scene c.loop-next.invariant.so_far (ap (λ (xs : List ℕ). get_or xs c.loop-next.next-index 0) c.ends-ends.ensures) (omega (arith, ap (λ (xs : List ℕ). length xs) c.ends-ends.ensures)), c.loop-next.invariant.same, c.price.ensures, price_kept c.args.tables.now c.loop-next.tables c.loop-next.invariant.kept (get_or c.ends-ends.result.now c.loop-next.next-index 0))

pub improves-requires : goal.improves-requires
improves-requires g c = omega (arith, inside (scene_of (g.F.Field.graph c.args.field.now) (g.F.Field.rest c.args.field.now) c.args.guide c.args._tree.now (prices c.args.tables.now)) (c.args._tree.now ++ c.args._starts.now) c.args.limit (state_of c.args.tables.now) (state_of c.loop-next.tables) c.loop-next.tables.queue c.args.node c.loop-next.next-index (get_or c.ends-ends.result.now c.loop-next.next-index 0) c.requires.scene c.loop-next.invariant.so_far (ap (λ (xs : List ℕ). get_or xs c.loop-next.next-index 0) c.ends-ends.ensures) (omega (arith, ap (λ (xs : List ℕ). length xs) c.ends-ends.ensures)), c.loop-next.invariant.kept.count, c.requires.count)

pub loop-next-preserved-then-not-improves : goal.loop-next-preserved-then-not-improves
loop-next-preserved-then-not-improves g c = record {
  kept = c.loop-next.invariant.kept;
  queue = c.loop-next.invariant.queue;
  so_far = offer_step (scene_of (g.F.Field.graph c.args.field.now) (g.F.Field.rest c.args.field.now) c.args.guide c.args._tree.now (prices c.args.tables.now)) (c.args._tree.now ++ c.args._starts.now) c.args.limit (state_of c.args.tables.now) (state_of c.loop-next.tables) c.loop-next.tables.queue c.args.node c.loop-next.next-index (get_or c.ends-ends.result.now c.loop-next.next-index 0) c.requires.scene c.loop-next.invariant.so_far (ap (λ (xs : List ℕ). get_or xs c.loop-next.next-index 0) c.ends-ends.ensures) (omega (arith, ap (λ (xs : List ℕ). length xs) c.ends-ends.ensures)) (state_of c.loop-next.tables) c.loop-next.tables.queue (c.cost-cost.result + 2 * c.price.result) ((c.cost-cost.result + 2 * c.price.result) + (left (g.F.Field.rest c.args.field.now) c.args.guide (get_or c.ends-ends.result.now c.loop-next.next-index 0))) (sym (held_kept c.args.tables.now c.loop-next.tables c.loop-next.invariant.kept (get_or c.ends-ends.result.now c.loop-next.next-index 0) ∙ c.requires.held (get_or c.ends-ends.result.now c.loop-next.next-index 0)) ∙ (sym c.is_held.ensures ∙ c.if-is_held.false)) (omega (arith, c.loop-next.invariant.same, c.price.ensures, price_kept c.args.tables.now c.loop-next.tables c.loop-next.invariant.kept (get_or c.ends-ends.result.now c.loop-next.next-index 0))) refl (passes (sym c.improves.ensures ∙ c.if-not-improves.true));
  same = c.loop-next.invariant.same;
  size = omega (arith, c.loop-next.invariant.size);
}

pub left-requires : goal.left-requires
left-requires g c = inside (scene_of (g.F.Field.graph c.args.field.now) (g.F.Field.rest c.args.field.now) c.args.guide c.args._tree.now (prices c.args.tables.now)) (c.args._tree.now ++ c.args._starts.now) c.args.limit (state_of c.args.tables.now) (state_of c.loop-next.tables) c.loop-next.tables.queue c.args.node c.loop-next.next-index (get_or c.ends-ends.result.now c.loop-next.next-index 0) c.requires.scene c.loop-next.invariant.so_far (ap (λ (xs : List ℕ). get_or xs c.loop-next.next-index 0) c.ends-ends.ensures) (omega (arith, ap (λ (xs : List ℕ). length xs) c.ends-ends.ensures))

pub overflow_add-key : goal.overflow_add-key
overflow_add-key g c = omega (arith, key_low (scene_of (g.F.Field.graph c.args.field.now) (g.F.Field.rest c.args.field.now) c.args.guide c.args._tree.now (prices c.args.tables.now)) (c.args._tree.now ++ c.args._starts.now) c.args.limit (state_of c.args.tables.now) (state_of c.loop-next.tables) c.loop-next.tables.queue c.args.node c.loop-next.next-index (get_or c.ends-ends.result.now c.loop-next.next-index 0) c.requires.scene c.loop-next.invariant.so_far (ap (λ (xs : List ℕ). get_or xs c.loop-next.next-index 0) c.ends-ends.ensures) (omega (arith, ap (λ (xs : List ℕ). length xs) c.ends-ends.ensures)), c.loop-next.invariant.same, c.price.ensures, price_kept c.args.tables.now c.loop-next.tables c.loop-next.invariant.kept (get_or c.ends-ends.result.now c.loop-next.next-index 0), c.left.ensures)

pub loop-next-preserved-then-key-limit : goal.loop-next-preserved-then-key-limit
loop-next-preserved-then-key-limit g c = record {
  kept = c.loop-next.invariant.kept;
  queue = c.loop-next.invariant.queue;
  so_far = cut_step (scene_of (g.F.Field.graph c.args.field.now) (g.F.Field.rest c.args.field.now) c.args.guide c.args._tree.now (prices c.args.tables.now)) (c.args._tree.now ++ c.args._starts.now) c.args.limit (state_of c.args.tables.now) (state_of c.loop-next.tables) c.loop-next.tables.queue c.args.node c.loop-next.next-index (get_or c.ends-ends.result.now c.loop-next.next-index 0) c.requires.scene c.loop-next.invariant.so_far (ap (λ (xs : List ℕ). get_or xs c.loop-next.next-index 0) c.ends-ends.ensures) (omega (arith, ap (λ (xs : List ℕ). length xs) c.ends-ends.ensures)) (omega (arith, c.loop-next.invariant.same, c.price.ensures, price_kept c.args.tables.now c.loop-next.tables c.loop-next.invariant.kept (get_or c.ends-ends.result.now c.loop-next.next-index 0), c.left.ensures));
  same = c.loop-next.invariant.same;
  size = omega (arith, c.loop-next.invariant.size);
}

pub take-requires-clause-node : goal.take-requires-clause-node
take-requires-clause-node g c = omega (arith, inside (scene_of (g.F.Field.graph c.args.field.now) (g.F.Field.rest c.args.field.now) c.args.guide c.args._tree.now (prices c.args.tables.now)) (c.args._tree.now ++ c.args._starts.now) c.args.limit (state_of c.args.tables.now) (state_of c.loop-next.tables) c.loop-next.tables.queue c.args.node c.loop-next.next-index (get_or c.ends-ends.result.now c.loop-next.next-index 0) c.requires.scene c.loop-next.invariant.so_far (ap (λ (xs : List ℕ). get_or xs c.loop-next.next-index 0) c.ends-ends.ensures) (omega (arith, ap (λ (xs : List ℕ). length xs) c.ends-ends.ensures)), c.loop-next.invariant.kept.count, c.requires.count)

pub loop-next-preserved : goal.loop-next-preserved
loop-next-preserved g c =
    let offered = subst (λ (t : State). IsOffered (state_of c.loop-next.tables) c.loop-next.tables.queue (get_or c.ends-ends.result.now c.loop-next.next-index 0) (c.cost-cost.result + 2 * c.price.result) c.args.node ((c.cost-cost.result + 2 * c.price.result) + c.left.result) t c.take.new.self.queue) (sym c.in_ok-take.ensures.taken) (takes (sym c.improves.ensures ∙ c.if-not-improves.false) c.in_ok-take.ensures.pushed) in
    let next = offer_step (scene_of (g.F.Field.graph c.args.field.now) (g.F.Field.rest c.args.field.now) c.args.guide c.args._tree.now (prices c.args.tables.now)) (c.args._tree.now ++ c.args._starts.now) c.args.limit (state_of c.args.tables.now) (state_of c.loop-next.tables) c.loop-next.tables.queue c.args.node c.loop-next.next-index (get_or c.ends-ends.result.now c.loop-next.next-index 0) c.requires.scene c.loop-next.invariant.so_far (ap (λ (xs : List ℕ). get_or xs c.loop-next.next-index 0) c.ends-ends.ensures) (omega (arith, ap (λ (xs : List ℕ). length xs) c.ends-ends.ensures)) (state_of c.take.new.self) c.take.new.self.queue (c.cost-cost.result + 2 * c.price.result) ((c.cost-cost.result + 2 * c.price.result) + c.left.result) (sym (held_kept c.args.tables.now c.loop-next.tables c.loop-next.invariant.kept (get_or c.ends-ends.result.now c.loop-next.next-index 0) ∙ c.requires.held (get_or c.ends-ends.result.now c.loop-next.next-index 0)) ∙ (sym c.is_held.ensures ∙ c.if-is_held.false)) (omega (arith, c.loop-next.invariant.same, c.price.ensures, price_kept c.args.tables.now c.loop-next.tables c.loop-next.invariant.kept (get_or c.ends-ends.result.now c.loop-next.next-index 0))) (omega (arith, c.left.ensures)) offered in
    record {
      kept = kept_on c.args.tables.now c.loop-next.tables c.take.new.self c.loop-next.invariant.kept c.in_ok-take.ensures.kept;
      queue = c.in_ok-take.ensures.queue;
      so_far = next;
      same = c.loop-next.invariant.same ∙ (c.loop-next.invariant.so_far.grows.done c.args.node c.requires.closing.latest).1 ∙ sym (next.grows.done c.args.node c.requires.closing.latest).1;
      size = omega (arith, c.loop-next.invariant.size, c.in_ok-take.ensures.size);
    }

pub returns-clause-closed : goal.returns-clause-closed
returns-clause-closed g c = closed_at_end (scene_of (g.F.Field.graph c.args.field.now) (g.F.Field.rest c.args.field.now) c.args.guide c.args._tree.now (prices c.args.tables.now)) (c.args._tree.now ++ c.args._starts.now) (state_of c.loop-next.tables) c.args.limit c.args.node c.loop-next.next-index c.loop-next.invariant.so_far.closing (omega (arith, ap (λ (xs : List ℕ). length xs) c.ends-ends.ensures))
