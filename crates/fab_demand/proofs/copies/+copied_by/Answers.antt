use Rattle.std.proofs.Common.{◌≡◌, ℕ, ◌+◌, ◌≤◌, refl, sym, ap, ◌∙◌, subst, length}
use Rattle.fab_ternary_laws.specs.Operators.{tern_at}
use Rattle.fab_compiled.specs.declared.tree.Tree.{Tree}
use Rattle.fab_compiled.specs.Trees.{tree_value, tree_width, IsMade}
use Rattle.fab_compiled.specs.Evaluation.{value_seen, IsWithin}
use Rattle.fab_compiled.specs.Leading.{PointTerns, bit_under}
use Rattle.fab_demand.specs.declared.copies.Copied.{Copied}
use Rattle.fab_demand.specs.inner.Copies.{CopiesPoints}
use Rattle.fab_demand.proofs.Beside.{some_map}
use Rattle.fab_demand.proofs.Copied.{high_copies, low_copies, name_copies, no_copies, some_both, yes_copies}
use Rattle.fab_demand.proofs.copies.+copied_by.Goals as goal

pub returns-in-Bits-clause-copies : goal.returns-in-Bits-clause-copies
returns-in-Bits-clause-copies t c =
    name_copies c.args.view.now.terns.now c.args.view.now.leads.now c.args.first c.args.tree.now c.in-Bits.place c.in-Bits.count
    (record { low = 0; count = c.from.result; point = c.args.first + c.in-Bits.place }) c.in-Bits.is c.requires.begins c.requires.inside refl c.from.ensures refl

pub returns-then-bit-width-clause-copies : goal.returns-then-bit-width-clause-copies
returns-then-bit-width-clause-copies t c =
    let terns = c.args.view.now.terns.now in
    let leads = c.args.view.now.leads.now in
    let low = c.in-Cat.low.value in
    let high = c.in-Cat.high.value in
    let made : (tree_width low ≡ c.in-Cat.width) × IsMade low × IsMade high = subst IsMade c.in-Cat.is c.requires.made in
    some_both c.copied_by.result (λ (copied : Copied). copied.low + copied.count ≤ tree_width c.deref.result.now)
    (λ (copied : Copied). CopiesPoints terns leads (λ (u : PointTerns) (place : ℕ). bit_under u c.args.first c.deref.result.now place) copied)
    (λ (copied : Copied). CopiesPoints terns leads (λ (u : PointTerns) (place : ℕ). bit_under u c.args.first c.args.tree.now place) copied)
    c.copied_by.ensures.within c.copied_by.ensures.copies
    (λ copied within copies.
    low_copies terns leads c.args.first c.args.tree.now low high copied (λ at. ap (tree_value at) c.in-Cat.is) made.1
    (subst (λ (x : Tree). copied.low + copied.count ≤ tree_width x) c.deref.ensures within)
    (subst (λ (x : Tree). CopiesPoints terns leads (λ (u : PointTerns) (place : ℕ). bit_under u c.args.first x place) copied) c.deref.ensures copies))

pub returns-in_ok-copied-in-Cat-clause-copies : goal.returns-in_ok-copied-in-Cat-clause-copies
returns-in_ok-copied-in-Cat-clause-copies t c =
    let terns = c.args.view.now.terns.now in
    let leads = c.args.view.now.leads.now in
    let low = c.in-Cat.low.value in
    let high = c.in-Cat.high.value in
    let copied = c.in_ok-copied-in-Cat.copied in
    let made : (tree_width low ≡ c.in-Cat.width) × IsMade low × IsMade high = subst IsMade c.in-Cat.is c.requires.made in
    high_copies terns leads c.args.first c.args.tree.now low high c.in-Cat.width copied c.behind.result (λ at. ap (tree_value at) c.in-Cat.is) made.0 made.1
    c.behind.ensures.low c.behind.ensures.count c.behind.ensures.point
    (subst (λ (x : Tree). CopiesPoints terns leads (λ (u : PointTerns) (place : ℕ). bit_under u c.args.first x place) copied) c.deref-else-bit-width.ensures
    c.in_ok-copied-in-Cat.ensures.copies)

pub returns-in-Yes-clause-copies : goal.returns-in-Yes-clause-copies
returns-in-Yes-clause-copies t c =
    let terns = c.args.view.now.terns.now in
    let leads = c.args.view.now.leads.now in
    let test = c.in-Cond.test.value in
    let a = c.in-Cond.yes.value in
    let b = c.in-Cond.no.value in
    let made : (tree_width test ≡ 1) × (tree_width a ≡ tree_width b) × IsMade test × IsMade a × IsMade b = subst IsMade c.in-Cond.is c.requires.made in
    let inside = subst (λ (x : Tree). IsWithin x c.args.first (length leads)) c.in-Cond.is c.requires.inside in
    some_map c.copied_by-in-Yes.result
    (λ (copied : Copied). CopiesPoints terns leads (λ (u : PointTerns) (place : ℕ). bit_under u c.args.first c.deref-in-Yes.result.now place) copied)
    (λ (copied : Copied). CopiesPoints terns leads (λ (u : PointTerns) (place : ℕ). bit_under u c.args.first c.args.tree.now place) copied)
    c.copied_by-in-Yes.ensures.copies
    (λ copied copies.
    yes_copies terns leads c.args.first c.args.tree.now test a b copied (λ at. ap (tree_value at) c.in-Cond.is) made.2 c.requires.begins inside.0
    (sym (c.in-Yes.ensures ∙ ap (λ (x : Tree). tern_at (value_seen terns leads c.args.first x) 0) c.deref-in-Cond.ensures))
    (subst (λ (x : Tree). CopiesPoints terns leads (λ (u : PointTerns) (place : ℕ). bit_under u c.args.first x place) copied) c.deref-in-Yes.ensures copies))

pub returns-in-No-clause-copies : goal.returns-in-No-clause-copies
returns-in-No-clause-copies t c =
    let terns = c.args.view.now.terns.now in
    let leads = c.args.view.now.leads.now in
    let test = c.in-Cond.test.value in
    let a = c.in-Cond.yes.value in
    let b = c.in-Cond.no.value in
    let made : (tree_width test ≡ 1) × (tree_width a ≡ tree_width b) × IsMade test × IsMade a × IsMade b = subst IsMade c.in-Cond.is c.requires.made in
    let inside = subst (λ (x : Tree). IsWithin x c.args.first (length leads)) c.in-Cond.is c.requires.inside in
    some_map c.copied_by-in-No.result
    (λ (copied : Copied). CopiesPoints terns leads (λ (u : PointTerns) (place : ℕ). bit_under u c.args.first c.deref-in-No.result.now place) copied)
    (λ (copied : Copied). CopiesPoints terns leads (λ (u : PointTerns) (place : ℕ). bit_under u c.args.first c.args.tree.now place) copied)
    c.copied_by-in-No.ensures.copies
    (λ copied copies.
    no_copies terns leads c.args.first c.args.tree.now test a b copied (λ at. ap (tree_value at) c.in-Cond.is) made.2 c.requires.begins inside.0
    (sym (c.in-No.ensures ∙ ap (λ (x : Tree). tern_at (value_seen terns leads c.args.first x) 0) c.deref-in-Cond.ensures))
    (subst (λ (x : Tree). CopiesPoints terns leads (λ (u : PointTerns) (place : ℕ). bit_under u c.args.first x place) copied) c.deref-in-No.ensures copies))
