use Rattle.std.proofs.Common.{◌≡◌, ℕ, List, Option, map, refl, ap, ◌∙◌, subst}
use Rattle.fab_legal.specs.Broken.{IsSharedItem}
use Rattle.fab_legal.specs.inner.Tables.{key_lists, tree_numbers, IsLeast, IsShared}
use Rattle.fab_legal.proofs.Cells.{breaks_by}
use Rattle.fab_legal.proofs.SinkStands.{not_shared_apart, shared_item, shared_within}
use Rattle.fab_legal.proofs.shared.check_apart.Goals as goal

pub wire_text-requires : goal.wire_text-requires
wire_text-requires c =
    let i = c.args._implementation.now in
    let lists_are : key_lists c.deref.result.now ≡ map tree_numbers i.trees = ap key_lists c.deref.ensures.value ∙ c.requires.sets in
    let least = subst (λ (lists : List (List ℕ)). IsLeast (IsShared lists) c.in_ok-least.field-0) lists_are c.in_ok-least.ensures in
    let some = subst (λ (o : Option ℕ). IsLeast (IsShared (map tree_numbers i.trees)) o) c.in-Some.is least in
    shared_within c.args.fabric.now i.trees c.in-Some.wire c.requires.wires some.0

pub returns-in-None-clause-ok : goal.returns-in-None-clause-ok
returns-in-None-clause-ok c =
    let f = c.args.fabric.now in
    let p = c.args._packed.now in
    let i = c.args._implementation.now in
    let lists_are : key_lists c.deref.result.now ≡ map tree_numbers i.trees = ap key_lists c.deref.ensures.value ∙ c.requires.sets in
    let least = subst (λ (lists : List (List ℕ)). IsLeast (IsShared lists) c.in_ok-least.field-0) lists_are c.in_ok-least.ensures in
    let none = subst (λ (o : Option ℕ). IsLeast (IsShared (map tree_numbers i.trees)) o) c.in-None.is least in
    λ wire. not_shared_apart f p i c.requires.nets wire (none wire.0)

pub returns-in_ok-wire_text-in-Some-clause-err : goal.returns-in_ok-wire_text-in-Some-clause-err
returns-in_ok-wire_text-in-Some-clause-err c =
    let f = c.args.fabric.now in
    let p = c.args._packed.now in
    let i = c.args._implementation.now in
    let lists_are : key_lists c.deref.result.now ≡ map tree_numbers i.trees = ap key_lists c.deref.ensures.value ∙ c.requires.sets in
    let least = subst (λ (lists : List (List ℕ)). IsLeast (IsShared lists) c.in_ok-least.field-0) lists_are c.in_ok-least.ensures in
    let some = subst (λ (o : Option ℕ). IsLeast (IsShared (map tree_numbers i.trees)) o) c.in-Some.is least in
    let text = c.in_ok-wire_text-in-Some.field-0 in
    breaks_by 9 (IsSharedItem f i) c.broken_by.result text text c.broken_by.ensures refl
    (shared_item f p i c.requires.nets c.in-Some.wire text some (c.in_ok-wire_text-in-Some).ensures)
