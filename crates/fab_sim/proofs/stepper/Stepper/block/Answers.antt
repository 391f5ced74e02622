use Rattle.std.proofs.Common.{◌≡◌, ◌↔◌, ℕ, ◌-◌, ◌<◌, List, length, refl, sym, ap, ◌∙◌, subst, arith}
use Rattle.std.specs.Prelude.{IsTrue}
use Rattle.std.specs.List.{All}
use Rattle.std.specs.List.Sorted.{IsPermutation}
use Rattle.std.specs.Vec.{with_items}
use Rattle.std.proofs.lemmas.List.{with_items_is}
use Rattle.std.proofs.lemmas.List.Sorted.{All-permutation}
use Rattle.fab_draws.specs.Draws.{after, word_at}
use Rattle.fab_draws.specs.Shuffled.{shuffled}
use Rattle.fab_equations.specs.Instances.{points}
use Rattle.fab_ternary.specs.declared.Tern.{Tern}
use Rattle.fab_stepping.specs.Activating.{AreActivated, AreApart, HasChanged}
use Rattle.fab_sim.specs.declared.stepper.Stepper.{Stepper}
use Rattle.fab_sim.proofs.Blocks.{after_block, is_block, stands_after, told_so}
use Rattle.fab_sim.proofs.Orders.{apart_stays}
use Rattle.fab_sim.proofs.stepper.Stepper.block.Goals as goal

pub activate_all-requires-clause-order : goal.activate_all-requires-clause-order
activate_all-requires-clause-order c =
    let old = c.args.self.now in
    let new = c.shuffle_order.new.order in
    let stands = c.requires.4 in
    let filled : (with_items old.order new).items ≡ new = with_items_is old.order new (c.shuffle_order.auto.order ∙ c.deref_mut.ensures.len) in
    let permuted : IsPermutation old.order.items new = subst (λ (xs : List ℕ). IsPermutation xs new) c.deref_mut.ensures.value c.shuffle_order.ensures.same in
    let below : All (λ point. point < length (points c.requires.0)) new = All-permutation (λ point. point < length (points c.requires.0)) old.order.items new permuted stands.below in
    subst (λ (xs : List ℕ). All (λ point. point < length old.network.drives.items) xs) (sym (c.deref.ensures.value ∙ filled))
    (λ k d l. let less = below k d l in omega (arith, less, stands.network.long))

pub activate_all-requires-clause-apart : goal.activate_all-requires-clause-apart
activate_all-requires-clause-apart c =
    let old = c.args.self.now in
    let new = c.shuffle_order.new.order in
    let filled : (with_items old.order new).items ≡ new = with_items_is old.order new (c.shuffle_order.auto.order ∙ c.deref_mut.ensures.len) in
    let permuted : IsPermutation old.order.items new = subst (λ (xs : List ℕ). IsPermutation xs new) c.deref_mut.ensures.value c.shuffle_order.ensures.same in
    subst AreApart (sym (c.deref.ensures.value ∙ filled)) (apart_stays old.order.items new permuted c.requires.4.apart)

pub returns : goal.returns
returns c text state draws before stands =
    let old = c.args.self.now in
    let order = c.shuffle_order.new.order in
    let board = c.activate_all.new.self in
    let new : Stepper = record {
      network = old.network;
      points = old.points;
      board = board;
      solution = old.solution;
      readers = old.readers;
      order = with_items old.order order;
      free = old.free;
      random = c.shuffle_order.new.random;
    } in
    let one = c.points_of_sound_texts_have_one_driver.ensures in
    let filled : (with_items old.order order).items ≡ order = with_items_is old.order order (c.shuffle_order.auto.order ∙ c.deref_mut.ensures.len) in
    let permuted : IsPermutation old.order.items order = subst (λ (xs : List ℕ). IsPermutation xs order) c.deref_mut.ensures.value c.shuffle_order.ensures.same in
    let order_is : (with_items old.order order).items ≡ shuffled (length old.order.items) (word_at old.random) old.order.items =
    filled ∙ c.shuffle_order.ensures.order ∙ ap (λ (xs : List ℕ). shuffled (length xs) (word_at old.random) xs) c.deref_mut.ensures.value in
    let long : length (with_items old.order order).items ≡ length (points text) =
    ap length filled ∙ c.shuffle_order.auto.order ∙ ap length c.deref_mut.ensures.value ∙ stands.order_long in
    let random_is : c.shuffle_order.new.random ≡ after (length old.order.items - 1) old.random =
    c.shuffle_order.ensures.rest ∙ ap (λ (xs : List ℕ). after (length xs - 1) old.random) c.deref_mut.ensures.value in
    let below : All (λ point. point < length (points text)) (with_items old.order order).items =
    subst (λ (xs : List ℕ). All (λ point. point < length (points text)) xs) (sym filled)
    (All-permutation (λ point. point < length (points text)) old.order.items order permuted stands.below) in
    let apart : AreApart (with_items old.order order).items = subst AreApart (sym filled) (apart_stays old.order.items order permuted stands.apart) in
    let activated : AreActivated old.network (with_items old.order order).items old.board board =
    subst (λ (xs : List ℕ). AreActivated old.network xs old.board board) c.deref.ensures.value c.activate_all.ensures.activated in
    let changed : IsTrue c.activate_all.result ↔ HasChanged old.solution.items old.board board =
    subst (λ (xs : List Tern). IsTrue c.activate_all.result ↔ HasChanged xs old.board board) c.deref-2.ensures.value c.activate_all.ensures.changed in (
      after_block text state draws one old new before stands refl refl refl refl order_is long random_is below apart c.activate_all.ensures.board activated,
      is_block text state draws one old new before stands refl refl refl refl order_is long random_is below apart c.activate_all.ensures.board activated,
      stands_after text state draws one old new before stands refl refl refl refl order_is long random_is below apart c.activate_all.ensures.board activated,
      told_so text state draws one old new before stands refl refl refl refl order_is long random_is below apart c.activate_all.ensures.board activated
          c.activate_all.result changed,
    )
