use Rattle.std.proofs.Common.{◌≡◌, ◌⊎◌, ℕ, ◌+◌, ◌-◌, List, ◌++◌, length, drop, take, slice_get, Some, sym, ap, subst, ◌∙◌, arith}
use Rattle.std.proofs.lemmas.List.{take-append-le, take_all}
use Rattle.fab_syntax.specs.Plain.{plain_text}
use Rattle.fab_equations.specs.Instances.{instances}
use Rattle.fab_equations.specs.inner.Placed.{ArePlaced, IsNoted, bits_together}
use Rattle.fab_equations.specs.declared.placed.PlacedInstance.{PlacedInstance}
use Rattle.fab_equations.specs.declared.tables.ChildTable.{ChildTable}
use Rattle.fab_equations.proofs.Filling.{IsFilled, filled_first, module_at_within, table_at, child_within, filled_next, module_within, all_bits, are_placed}
use Rattle.fab_equations.proofs.placed.placed_instances.Goals as goal

-- a slice of a whole vector is written back
written : (n : ℕ) (old new : List PlacedInstance) → n ≡ length old → length new ≡ length old → take n (new ++ drop (length new) old) ≡ new
written n old new is long = take-append-le n new (drop (length new) old) (omega (arith, is, long)) ∙ take_all n new (omega (arith, is, long))

pub loop-number-init : goal.loop-number-init
loop-number-init c =
    let text = plain_text c.args.text.now in
    let module_number : c.in-Ok.module ≡ length text - 1 = omega (arith, c.in-Ok.ensures.1, c.saturating_sub.ensures, c.requires.tables.0) in
    rw (c.in_ok-placed.ensures.items_if_clones_equal (λ y same. same)) (filled_first text c.in-Ok.module c.args.count module_number c.requires.count)

pub bounds-tables-index : goal.bounds-tables-index
bounds-tables-index c =
    module_at_within (plain_text c.args.text.now) c.requires.sound c.args.tables.now c.requires.tables c.loop-number.number c.loop-number.placed.items c.loop-number.invariant
    (omega (arith, c.requires.count)) c.index.result.now c.index.ensures

pub place_children-requires-clause-within : goal.place_children-requires-clause-within
place_children-requires-clause-within c number child is =
    let text = plain_text c.args.text.now in
    let t = table_at text c.requires.sound c.args.tables.now c.requires.tables c.loop-number.number c.loop-number.placed.items c.loop-number.invariant
    (omega (arith, c.requires.count)) c.index.result.now c.index.ensures c.index-tables-index.result c.index-tables-index.is in
    let within = child_within text c.requires.sound (omega (arith, c.requires.small)) c.args.tables.now c.requires.tables c.loop-number.number t.i t.is c.index-tables-index.result t.at
    number child (ap (λ (cs : List ChildTable). slice_get cs number) (sym c.deref.ensures.value) ∙ is) in
    let long : length c.deref_mut.result.now ≡ length (instances text) = ap length c.deref_mut.ensures.value ∙ c.loop-number.invariant.long in
    (omega (arith, within.0, within.1, c.requires.small), omega (arith, within.1, long))

pub loop-number-preserved : goal.loop-number-preserved
loop-number-preserved c =
    let text = plain_text c.args.text.now in
    let old = c.loop-number.placed.items in
    let new = c.place_children.new.placed in
    let number = c.loop-number.number in
    let table = c.index-tables-index.result in
    let t = table_at text c.requires.sound c.args.tables.now c.requires.tables number old c.loop-number.invariant
    (omega (arith, c.requires.count)) c.index.result.now c.index.ensures table c.index-tables-index.is in
    let long : length new ≡ length old = c.place_children.auto.placed ∙ ap length c.deref_mut.ensures.value in
    subst (IsFilled text (number + 1)) (sym (written c.loop-number.placed.len old new c.loop-number.placed.ok.0 long))
    (filled_next text c.requires.sound (omega (arith, c.requires.small)) c.args.tables.now c.requires.tables number t.i t.is table t.at old new c.loop-number.invariant long
    (λ k p e. subst (λ (cs : List ChildTable). (slice_get old k ≡ Some p) ⊎ IsNoted cs number k p) c.deref.ensures.value
    (subst (λ (ps : List PlacedInstance). (slice_get ps k ≡ Some p) ⊎ IsNoted c.deref.result.now number k p) c.deref_mut.ensures.value (c.place_children.ensures.kept k p e)))
    (λ k child e p w. subst (λ (cs : List ChildTable). IsNoted cs number (number + child.offset) p) c.deref.ensures.value
    (c.place_children.ensures.all k child (ap (λ (cs : List ChildTable). slice_get cs k) c.deref.ensures.value ∙ e) p w)))

pub place_points-requires-clause-modules : goal.place_points-requires-clause-modules
place_points-requires-clause-modules c number p is =
    let text = plain_text c.args.text.now in
    let here : c.loop-number.number ≡ length (instances text) = omega (arith, c.requires.count) in
    module_within text c.requires.sound c.args.tables.now c.requires.tables c.loop-number.placed.items (subst (λ n. IsFilled text n c.loop-number.placed.items) here c.loop-number.invariant)
    number p (ap (λ (ps : List PlacedInstance). slice_get ps number) (sym c.deref_mut-2.ensures.value) ∙ is)

pub place_points-requires-clause-small : goal.place_points-requires-clause-small
place_points-requires-clause-small c =
    let text = plain_text c.args.text.now in
    let here : c.loop-number.number ≡ length (instances text) = omega (arith, c.requires.count) in
    let all = all_bits text c.requires.sound c.args.tables.now c.requires.tables c.loop-number.placed.items (subst (λ n. IsFilled text n c.loop-number.placed.items) here c.loop-number.invariant) in
    omega (arith, ap (bits_together c.args.tables.now) c.deref_mut-2.ensures.value, all, c.requires.small)

pub returns : goal.returns
returns c =
    let text = plain_text c.args.text.now in
    let old = c.loop-number.placed.items in
    let new = c.place_points.new.placed in
    let here : c.loop-number.number ≡ length (instances text) = omega (arith, c.requires.count) in
    let long : length new ≡ length old = c.place_points.auto.placed ∙ ap length c.deref_mut-2.ensures.value in
    subst (ArePlaced text) (sym (written c.loop-number.placed.len old new c.loop-number.placed.ok.0 long))
    (are_placed text c.requires.sound c.args.tables.now c.requires.tables old (subst (λ n. IsFilled text n old) here c.loop-number.invariant) new long
    (λ k p e. subst (λ (ps : List PlacedInstance). slice_get new k ≡ Some (record p { first = bits_together c.args.tables.now (take k ps) })) c.deref_mut-2.ensures.value
    (c.place_points.ensures k p (ap (λ (ps : List PlacedInstance). slice_get ps k) c.deref_mut-2.ensures.value ∙ e))))
