use Rattle.std.proofs.Common.{◌≡◌, ◌∙◌, ◌<◌, ◌+◌, ℕ, false, not, List, [], ◌∷◌, ◌++◌, length, map, replicate, sym, ap, subst, arith, refl, rules, length-append}
use Rattle.std.specs.List.{count_by}
use Rattle.std.specs.Vec.{with_items}
use Rattle.std.proofs.lemmas.List.{length-map, with_items_is}
use Rattle.fab_blif_models.specs.Plain.{plain_model, plain_models, plain_statement}
use Rattle.fab_instances.specs.Places.{statements_of}
use Rattle.fab_instances.specs.Uses.{Marks, marked_all}
use Rattle.fab_bits.specs.Keys.{key_names}
use Rattle.fab_instances.proofs.Searching.{Grown, Searched, grown_work, lines_here, listed_within, none_marked, search_begun, search_ended, search_next, stated}
use Rattle.fab_instances.proofs.uses.uses.Goals as goal

pub loop-place-init : goal.loop-place-init
loop-place-init c =
    let models = plain_models c.args.models.now in
    let names = key_names c.args.places.now.keys in
    let unmarked = c.in_ok-marks.marks.items in
    let start = c.args.start in
    let within : start < length c.args.models.now = c.requires.start in
    let size : length unmarked ≡ length models = omega (arith, c.in_ok-marks.ensures.len, c.in_ok-marks.marks.ok.0, length-map c.args.models.now plain_model) in
    let filled : unmarked ≡ replicate (length c.args.models.now) false = search rules in
    let begun : Searched models start (marked_all names (record { marks = unmarked; todo = [] }) (statements_of models start)) =
    search_begun models start names c.requires.places unmarked size (none_marked (length c.args.models.now) unmarked filled) in
    let lines : statements_of models start ≡ map plain_statement c.index-models-start.result.statements.items = lines_here c.args.models.now start c.index-models-start.result within c.index-models-start.is in
    let marks : (with_items c.in_ok-marks.marks c.mark_instances.new.marks).items ≡ c.mark_instances.new.marks =
    with_items_is c.in_ok-marks.marks c.mark_instances.new.marks (search rules) in
    stated models start names unmarked c.deref_mut.result.now _ _ c.new-todo.result.items [] _ _ _ c.deref_mut.ensures.value c.new-todo.ensures.items lines marks c.in_ok-mark_instances.ensures begun

pub offset_bounds-models-place : goal.offset_bounds-models-place
offset_bounds-models-place c =
    let models = plain_models c.args.models.now in
    let at : Searched models c.args.start (record { marks = c.loop-place.marks.items; todo = c.pop.new.self.items ++ c.in-Some.place ∷ [] }) =
    subst (λ (todo : List ℕ). Searched models c.args.start (record { marks = c.loop-place.marks.items; todo = todo })) c.in-Some.ensures.items c.loop-place.invariant in
    let within : c.in-Some.place < length c.args.models.now = omega (arith, listed_within models c.args.start c.loop-place.marks.items c.pop.new.self.items c.in-Some.place at, length-map c.args.models.now plain_model) in
    search rules

pub bounds-models-place : goal.bounds-models-place
bounds-models-place c =
    let models = plain_models c.args.models.now in
    let at : Searched models c.args.start (record { marks = c.loop-place.marks.items; todo = c.pop.new.self.items ++ c.in-Some.place ∷ [] }) =
    subst (λ (todo : List ℕ). Searched models c.args.start (record { marks = c.loop-place.marks.items; todo = todo })) c.in-Some.ensures.items c.loop-place.invariant in
    omega (arith, listed_within models c.args.start c.loop-place.marks.items c.pop.new.self.items c.in-Some.place at, length-map c.args.models.now plain_model)

pub loop-place-smaller : goal.loop-place-smaller
loop-place-smaller c =
    let models = plain_models c.args.models.now in
    let names = key_names c.args.places.now.keys in
    let old : Marks = record { marks = c.loop-place.marks.items; todo = c.pop.new.self.items } in
    let new : Marks = record { marks = c.mark_instances-in-Some.new.marks; todo = c.mark_instances-in-Some.new.todo.items } in
    let lines = map plain_statement c.index-models-place.result.statements.items in
    let grown : Grown old new = grown_work models names c.requires.places old new c.deref_mut-in-Some.result.now lines c.loop-place.invariant.size c.deref_mut-in-Some.ensures.value c.in_ok-mark_instances-2.ensures in
    let marks : (with_items c.loop-place.marks c.mark_instances-in-Some.new.marks).items ≡ c.mark_instances-in-Some.new.marks =
    with_items_is c.loop-place.marks c.mark_instances-in-Some.new.marks (grown.size ∙ sym c.loop-place.marks.ok.0) in
    let lt : count_by not (with_items c.loop-place.marks c.mark_instances-in-Some.new.marks).items + length c.mark_instances-in-Some.new.todo.items < count_by not c.loop-place.marks.items + length c.loop-place.todo.items =
    omega (arith, grown.work, ap (count_by not) marks, ap length c.in-Some.ensures.items, length-append c.pop.new.self.items (c.in-Some.place ∷ [])) in
    lt

pub loop-place-preserved : goal.loop-place-preserved
loop-place-preserved c =
    let models = plain_models c.args.models.now in
    let names = key_names c.args.places.now.keys in
    let place = c.in-Some.place in
    let start = c.args.start in
    let old : Marks = record { marks = c.loop-place.marks.items; todo = c.pop.new.self.items } in
    let new : Marks = record { marks = c.mark_instances-in-Some.new.marks; todo = c.mark_instances-in-Some.new.todo.items } in
    let at : Searched models start (record { marks = c.loop-place.marks.items; todo = c.pop.new.self.items ++ place ∷ [] }) =
    subst (λ (todo : List ℕ). Searched models start (record { marks = c.loop-place.marks.items; todo = todo })) c.in-Some.ensures.items c.loop-place.invariant in
    let within : place < length c.args.models.now = omega (arith, listed_within models start c.loop-place.marks.items c.pop.new.self.items place at, length-map c.args.models.now plain_model) in
    let lines : statements_of models place ≡ map plain_statement c.index-models-place.result.statements.items = lines_here c.args.models.now place c.index-models-place.result within c.index-models-place.is in
    let grown : Grown old new = grown_work models names c.requires.places old new c.deref_mut-in-Some.result.now (map plain_statement c.index-models-place.result.statements.items) c.loop-place.invariant.size c.deref_mut-in-Some.ensures.value c.in_ok-mark_instances-2.ensures in
    let marks : (with_items c.loop-place.marks c.mark_instances-in-Some.new.marks).items ≡ c.mark_instances-in-Some.new.marks =
    with_items_is c.loop-place.marks c.mark_instances-in-Some.new.marks (grown.size ∙ sym c.loop-place.marks.ok.0) in
    stated models start names c.loop-place.marks.items c.deref_mut-in-Some.result.now _ _ c.pop.new.self.items c.pop.new.self.items _ _ _ c.deref_mut-in-Some.ensures.value refl lines marks c.in_ok-mark_instances-2.ensures
    (search_next models start names c.requires.places c.loop-place.marks.items c.pop.new.self.items place at)

pub returns-clause-uses : goal.returns-clause-uses
returns-clause-uses c =
    let models = plain_models c.args.models.now in
    let empty : c.loop-place.todo.items ≡ [] = search rules in
    search_ended models c.args.start c.loop-place.marks.items (subst (λ (todo : List ℕ). Searched models c.args.start (record { marks = c.loop-place.marks.items; todo = todo })) empty c.loop-place.invariant)
