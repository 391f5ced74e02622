use Rattle.std.proofs.Common.{◌≡◌, ℕ, ◌+◌, ◌≤◌, length, sym, ap, ◌∙◌, subst}
use Rattle.fab_solutions_laws.specs.fab_ternary_laws_Operators.{tern_at}
use Rattle.fab_compiled.specs.declared.parts.Part.{Part}
use Rattle.fab_compiled.specs.declared.tree.Tree.{Tree}
use Rattle.fab_compiled.specs.Trees.{tree_value, tree_width, IsMade}
use Rattle.fab_compiled.specs.Evaluation.{value_seen, IsWithin}
use Rattle.fab_compiled.specs.Leading.{PointTerns, bit_under}
use Rattle.fab_compiled.specs.Parts.{TellsBits}
use Rattle.fab_compiled.proofs.Compiling.{ok_both, ok_map}
use Rattle.fab_compiled.proofs.Telling.{low_tells, high_tells, yes_tells, no_tells}
use Rattle.fab_compiled.proofs.parts.+part_of.Goals as goal

pub returns-then-bit-width-clause-tells : goal.returns-then-bit-width-clause-tells
returns-then-bit-width-clause-tells t c =
    let terns = c.args.view.now.terns.now in
    let leads = c.args.view.now.leads.now in
    let marks = c.args.marks.now in
    let low = c.in-Cat.low.value in
    let high = c.in-Cat.high.value in
    let made : (tree_width low ≡ c.in-Cat.width) × IsMade low × IsMade high = subst IsMade c.in-Cat.is c.requires.made in
    ok_both c.part_of.result (λ (part : Part). part.low + length part.bits.items ≤ tree_width c.deref.result.now)
    (λ (part : Part). TellsBits terns leads marks (λ (u : PointTerns) (place : ℕ). bit_under u c.args.first c.deref.result.now place) part)
    (λ (part : Part). TellsBits terns leads marks (λ (u : PointTerns) (place : ℕ). bit_under u c.args.first c.args.tree.now place) part)
    c.part_of.ensures.within c.part_of.ensures.tells
    (λ part within tells.
    low_tells terns leads marks c.args.first c.args.tree.now low high part (λ at. ap (tree_value at) c.in-Cat.is) made.1
    (subst (λ (x : Tree). part.low + length part.bits.items ≤ tree_width x) c.deref.ensures within)
    (subst (λ (x : Tree). TellsBits terns leads marks (λ (u : PointTerns) (place : ℕ). bit_under u c.args.first x place) part) c.deref.ensures tells))

pub returns-in_ok-part-in-Cat-clause-tells : goal.returns-in_ok-part-in-Cat-clause-tells
returns-in_ok-part-in-Cat-clause-tells t c =
    let terns = c.args.view.now.terns.now in
    let leads = c.args.view.now.leads.now in
    let marks = c.args.marks.now in
    let low = c.in-Cat.low.value in
    let high = c.in-Cat.high.value in
    let part = c.in_ok-part-in-Cat.part in
    let made : (tree_width low ≡ c.in-Cat.width) × IsMade low × IsMade high = subst IsMade c.in-Cat.is c.requires.made in
    high_tells terns leads marks c.args.first c.args.tree.now low high c.in-Cat.width part c.behind.result (λ at. ap (tree_value at) c.in-Cat.is) made.0 made.1
    c.behind.ensures.low (ap (λ v. v.items) c.behind.ensures.bits) c.behind.ensures.marked
    (subst (λ (x : Tree). TellsBits terns leads marks (λ (u : PointTerns) (place : ℕ). bit_under u c.args.first x place) part) c.deref-else-bit-width.ensures
    c.in_ok-part-in-Cat.ensures.tells)

pub returns-in-Yes-clause-tells : goal.returns-in-Yes-clause-tells
returns-in-Yes-clause-tells t c =
    let terns = c.args.view.now.terns.now in
    let leads = c.args.view.now.leads.now in
    let marks = c.args.marks.now in
    let test = c.in-Cond.test.value in
    let a = c.in-Cond.yes.value in
    let b = c.in-Cond.no.value in
    let made : (tree_width test ≡ 1) × (tree_width a ≡ tree_width b) × IsMade test × IsMade a × IsMade b = subst IsMade c.in-Cond.is c.requires.made in
    let inside = subst (λ (x : Tree). IsWithin x c.args.first (length leads)) c.in-Cond.is c.requires.inside in
    ok_map c.part_of-in-Yes.result
    (λ (part : Part). TellsBits terns leads marks (λ (u : PointTerns) (place : ℕ). bit_under u c.args.first c.deref-in-Yes.result.now place) part)
    (λ (part : Part). TellsBits terns leads marks (λ (u : PointTerns) (place : ℕ). bit_under u c.args.first c.args.tree.now place) part)
    c.part_of-in-Yes.ensures.tells
    (λ part tells.
    yes_tells terns leads marks c.args.first c.args.tree.now test a b part (λ at. ap (tree_value at) c.in-Cond.is) made.2 c.requires.begins inside.0
    (sym (c.in-Yes.ensures ∙ ap (λ (x : Tree). tern_at (value_seen terns leads c.args.first x) 0) c.deref-in-Cond.ensures))
    (subst (λ (x : Tree). TellsBits terns leads marks (λ (u : PointTerns) (place : ℕ). bit_under u c.args.first x place) part) c.deref-in-Yes.ensures tells))

pub returns-in-No-clause-tells : goal.returns-in-No-clause-tells
returns-in-No-clause-tells t c =
    let terns = c.args.view.now.terns.now in
    let leads = c.args.view.now.leads.now in
    let marks = c.args.marks.now in
    let test = c.in-Cond.test.value in
    let a = c.in-Cond.yes.value in
    let b = c.in-Cond.no.value in
    let made : (tree_width test ≡ 1) × (tree_width a ≡ tree_width b) × IsMade test × IsMade a × IsMade b = subst IsMade c.in-Cond.is c.requires.made in
    let inside = subst (λ (x : Tree). IsWithin x c.args.first (length leads)) c.in-Cond.is c.requires.inside in
    ok_map c.part_of-in-No.result
    (λ (part : Part). TellsBits terns leads marks (λ (u : PointTerns) (place : ℕ). bit_under u c.args.first c.deref-in-No.result.now place) part)
    (λ (part : Part). TellsBits terns leads marks (λ (u : PointTerns) (place : ℕ). bit_under u c.args.first c.args.tree.now place) part)
    c.part_of-in-No.ensures.tells
    (λ part tells.
    no_tells terns leads marks c.args.first c.args.tree.now test a b part (λ at. ap (tree_value at) c.in-Cond.is) made.2 c.requires.begins inside.0
    (sym (c.in-No.ensures ∙ ap (λ (x : Tree). tern_at (value_seen terns leads c.args.first x) 0) c.deref-in-Cond.ensures))
    (subst (λ (x : Tree). TellsBits terns leads marks (λ (u : PointTerns) (place : ℕ). bit_under u c.args.first x place) part) c.deref-in-No.ensures tells))
