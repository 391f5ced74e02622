use Rattle.std.proofs.Common.{◌≡◌, ℕ, List, map, refl, ap, ◌∙◌, subst}
use Rattle.fab_implementation.specs.Plain.{PlainTree, PlainImplementation}
use Rattle.fab_legal.specs.Turns.{AreRight, IsFirstWrongAt}
use Rattle.fab_legal.specs.Sinks.{Sinks, sinks}
use Rattle.fab_legal.specs.Broken.{IsSinkItem}
use Rattle.fab_legal.specs.inner.Tables.{key_lists, tree_numbers}
use Rattle.fab_legal.specs.inner.Standing.{SinkStands}
use Rattle.fab_legal.proofs.Cells.{breaks_by}
use Rattle.fab_legal.proofs.SinkLists.{have_kinds, sinks_are}
use Rattle.fab_legal.proofs.SinkStands.{sinks_stand, sink_item, sink_within}
use Rattle.fab_legal.proofs.standing.check_sinks.Goals as goal

pub sinks_of-requires-clause-kinds : goal.sinks_of-requires-clause-kinds
sinks_of-requires-clause-kinds c =
    have_kinds c.args.fabric.now c.args.packed.now c.args.implementation.now c.args.placed.now c.requires.kept c.requires.sites.cells c.requires.sites.ports

pub wire_text-requires : goal.wire_text-requires
wire_text-requires c =
    let f = c.args.fabric.now in
    let p = c.args.packed.now in
    let i = c.args.implementation.now in
    let placed = c.args.placed.now in
    let cells = c.requires.sites.cells in
    let ports = c.requires.sites.ports in
    let numbers = c.args.numbers.now.keys in
    let lists : List (List ℕ) = key_lists c.deref-2.result.now in
    let trees_are : c.deref.result.now ≡ i.trees = c.deref.ensures.value ∙ ap (λ (m : PlainImplementation). m.trees) c.implementation.view_is in
    let lists_are : lists ≡ map tree_numbers i.trees = ap key_lists c.deref-2.ensures.value ∙ c.in_ok-sets.ensures ∙ ap (λ (ts : List PlainTree). map tree_numbers ts) trees_are in
    let found : Sinks = c.in_ok-sinks.sinks.items in
    let is : found ≡ sinks f p i = c.in_ok-sinks.ensures ∙ sinks_are f p i placed c.requires.made c.requires.kept cells ports in
    let wrong = subst (λ (l : Sinks). IsFirstWrongAt (SinkStands placed numbers lists) l c.in-Some.place) c.deref-3.ensures.value c.in-Some.ensures in
    sink_within f p i placed c.requires.made c.requires.kept cells ports c.requires.lines c.requires.nets numbers lists c.requires.numbers lists_are found c.in-Some.place c.index.result.now is wrong.inside c.index.ensures

pub returns-in-None-clause-ok : goal.returns-in-None-clause-ok
returns-in-None-clause-ok c =
    let f = c.args.fabric.now in
    let p = c.args.packed.now in
    let i = c.args.implementation.now in
    let placed = c.args.placed.now in
    let cells = c.requires.sites.cells in
    let ports = c.requires.sites.ports in
    let numbers = c.args.numbers.now.keys in
    let lists : List (List ℕ) = key_lists c.deref-2.result.now in
    let trees_are : c.deref.result.now ≡ i.trees = c.deref.ensures.value ∙ ap (λ (m : PlainImplementation). m.trees) c.implementation.view_is in
    let lists_are : lists ≡ map tree_numbers i.trees = ap key_lists c.deref-2.ensures.value ∙ c.in_ok-sets.ensures ∙ ap (λ (ts : List PlainTree). map tree_numbers ts) trees_are in
    let found : Sinks = c.in_ok-sinks.sinks.items in
    let is : found ≡ sinks f p i = c.in_ok-sinks.ensures ∙ sinks_are f p i placed c.requires.made c.requires.kept cells ports in
    let right = subst (λ (l : Sinks). AreRight (SinkStands placed numbers lists) l) c.deref-3.ensures.value c.in-None.ensures in
    sinks_stand f p i placed c.requires.made c.requires.kept cells ports c.requires.lines c.requires.nets numbers lists c.requires.numbers lists_are found is right

pub returns-in_ok-wire_text-in-Some-clause-err : goal.returns-in_ok-wire_text-in-Some-clause-err
returns-in_ok-wire_text-in-Some-clause-err c =
    let f = c.args.fabric.now in
    let p = c.args.packed.now in
    let i = c.args.implementation.now in
    let placed = c.args.placed.now in
    let cells = c.requires.sites.cells in
    let ports = c.requires.sites.ports in
    let numbers = c.args.numbers.now.keys in
    let lists : List (List ℕ) = key_lists c.deref-2.result.now in
    let trees_are : c.deref.result.now ≡ i.trees = c.deref.ensures.value ∙ ap (λ (m : PlainImplementation). m.trees) c.implementation.view_is in
    let lists_are : lists ≡ map tree_numbers i.trees = ap key_lists c.deref-2.ensures.value ∙ c.in_ok-sets.ensures ∙ ap (λ (ts : List PlainTree). map tree_numbers ts) trees_are in
    let found : Sinks = c.in_ok-sinks.sinks.items in
    let is : found ≡ sinks f p i = c.in_ok-sinks.ensures ∙ sinks_are f p i placed c.requires.made c.requires.kept cells ports in
    let wrong = subst (λ (l : Sinks). IsFirstWrongAt (SinkStands placed numbers lists) l c.in-Some.place) c.deref-3.ensures.value c.in-Some.ensures in
    let text = c.in_ok-wire_text-in-Some.field-0 in
    breaks_by 8 (IsSinkItem f p i) c.broken_by.result text text c.broken_by.ensures refl
    (sink_item f p i placed c.requires.made c.requires.kept cells ports c.requires.lines c.requires.nets numbers lists c.requires.numbers lists_are found c.in-Some.place c.index.result.now text is wrong c.index.ensures
    (c.in_ok-wire_text-in-Some).ensures)
