use Rattle.std.proofs.Common.{◌≡◌, ◌+◌, ◌-◌, ◌*◌, ◌^◌, ◌≤◌, ◌∷◌, [], ◌++◌, length, map, take, drop, sym, ap, ap₂, ◌∙◌, subst, arith}
use Rattle.std.proofs.lemmas.List.{map-append}
use Rattle.fab_syntax.specs.declared.tree.Op.TheVariants as ops
use Rattle.fab_systems_laws.specs.Ternary.{no, yes, unknown}
use Rattle.fab_solutions_laws.specs.fab_ternary_laws_Operators.{agreed, both, differs, each_tern, either, entry, inverse, one_of, same_terns, tern_at, tern_operated}
use Rattle.fab_solutions_laws.specs.fab_ternary_laws_Shown.{first_terns}
use Rattle.fab_ternary.specs.Terns.{plain_tern}
use Rattle.fab_compiled.specs.declared.tree.Tree.{Tree}
use Rattle.fab_compiled.specs.Terns.{seen}
use Rattle.fab_compiled.specs.Trees.{tree_width, IsMade}
use Rattle.fab_compiled.specs.Evaluation.{value_seen, IsWithin}
use Rattle.fab_compiled.proofs.Evaluated.{lent_long, table_is, wide_at}
use Rattle.fab_compiled.proofs.Adding.{added_long, as_long, behind_long, behind_plain, first_behind, front_plain, laid_behind, lent_within, on_ok, operands_are, operands_last, operands_long}
use Rattle.fab_compiled.proofs.Sizes.{tree_size}
use Rattle.fab_compiled.proofs.Written.{plain}
use Rattle.fab_compiled.proofs.whole_values.+adding.Goals as goal

-- ---- operands are parts of the expression

pub add_both-add_whole-requires : goal.add_both-add_whole-requires
add_both-add_whole-requires t c = (
  omega (arith, c.decreases),
  (c.requires.left, (c.requires.view, (c.requires.few, (c.requires.begins, (c.requires.left_inside, c.requires.looked))))),
)

pub add_both-add_whole-requires-2 : goal.add_both-add_whole-requires-2
add_both-add_whole-requires-2 t c = (
  omega (arith, c.decreases),
  (c.requires.right, (c.requires.view, (c.requires.few, (c.requires.begins, (c.requires.right_inside, c.add_whole.ensures.looked))))),
)

pub add_whole-add_whole-requires : goal.add_whole-add_whole-requires
add_whole-add_whole-requires t c =
    let count = length c.args.view.now.leads.now in
    let part = c.in-Pick.index.value in
    let made : (tree_width part ≡ c.in-Pick.field-1) × (c.in-Pick.field-1 ≤ 32) × IsMade part = subst IsMade c.in-Pick.is c.requires.made in
    let inside = subst (λ (x : Tree). IsWithin x c.args.first count) c.in-Pick.is c.requires.inside in
    let one = lent_within c.deref-in-Pick.result.now part c.args.first count c.deref-in-Pick.ensures inside.1 in (
      omega (arith, c.decreases, ap tree_size c.in-Pick.is, ap tree_size c.deref-in-Pick.ensures),
      (
        subst IsMade (sym c.deref-in-Pick.ensures) made.2,
        (c.requires.view, (c.requires.few, (c.requires.begins, (one, c.requires.looked)))),
      ),
    )

pub add_whole-add_whole-requires-in-Not : goal.add_whole-add_whole-requires-in-Not
add_whole-add_whole-requires-in-Not t c =
    let count = length c.args.view.now.leads.now in
    let part = c.in-Not.inner.value in
    let made : IsMade part = subst IsMade c.in-Not.is c.requires.made in
    let inside = subst (λ (x : Tree). IsWithin x c.args.first count) c.in-Not.is c.requires.inside in
    let one = lent_within c.deref-in-Not.result.now part c.args.first count c.deref-in-Not.ensures inside in (
      omega (arith, c.decreases, ap tree_size c.in-Not.is, ap tree_size c.deref-in-Not.ensures),
      (
        subst IsMade (sym c.deref-in-Not.ensures) made,
        (c.requires.view, (c.requires.few, (c.requires.begins, (one, c.requires.looked)))),
      ),
    )

pub add_whole-add_whole-requires-in-Cond : goal.add_whole-add_whole-requires-in-Cond
add_whole-add_whole-requires-in-Cond t c =
    let count = length c.args.view.now.leads.now in
    let test = c.in-Cond.test.value in
    let yes = c.in-Cond.yes.value in
    let no = c.in-Cond.no.value in
    let made : (tree_width test ≡ 1) × (tree_width yes ≡ tree_width no) × IsMade test × IsMade yes × IsMade no = subst IsMade c.in-Cond.is c.requires.made in
    let inside = subst (λ (x : Tree). IsWithin x c.args.first count) c.in-Cond.is c.requires.inside in
    let one = lent_within c.deref-in-Cond.result.now test c.args.first count c.deref-in-Cond.ensures inside.0 in (
      omega (arith, c.decreases, ap tree_size c.in-Cond.is, ap tree_size c.deref-in-Cond.ensures),
      (
        subst IsMade (sym c.deref-in-Cond.ensures) made.2,
        (c.requires.view, (c.requires.few, (c.requires.begins, (one, c.requires.looked)))),
      ),
    )

pub add_whole-add_whole-requires-in-Yes : goal.add_whole-add_whole-requires-in-Yes
add_whole-add_whole-requires-in-Yes t c =
    let count = length c.args.view.now.leads.now in
    let test = c.in-Cond.test.value in
    let yes = c.in-Cond.yes.value in
    let no = c.in-Cond.no.value in
    let made : (tree_width test ≡ 1) × (tree_width yes ≡ tree_width no) × IsMade test × IsMade yes × IsMade no = subst IsMade c.in-Cond.is c.requires.made in
    let inside = subst (λ (x : Tree). IsWithin x c.args.first count) c.in-Cond.is c.requires.inside in
    let one = lent_within c.deref-in-Yes.result.now yes c.args.first count c.deref-in-Yes.ensures inside.1 in (
      omega (arith, c.decreases, ap tree_size c.in-Cond.is, ap tree_size c.deref-in-Yes.ensures),
      (
        subst IsMade (sym c.deref-in-Yes.ensures) made.3,
        (c.requires.view, (c.requires.few, (c.requires.begins, (one, c.add_whole-in-Cond.ensures.looked)))),
      ),
    )

pub add_whole-add_whole-requires-in-No : goal.add_whole-add_whole-requires-in-No
add_whole-add_whole-requires-in-No t c =
    let count = length c.args.view.now.leads.now in
    let test = c.in-Cond.test.value in
    let yes = c.in-Cond.yes.value in
    let no = c.in-Cond.no.value in
    let made : (tree_width test ≡ 1) × (tree_width yes ≡ tree_width no) × IsMade test × IsMade yes × IsMade no = subst IsMade c.in-Cond.is c.requires.made in
    let inside = subst (λ (x : Tree). IsWithin x c.args.first count) c.in-Cond.is c.requires.inside in
    let one = lent_within c.deref-in-No.result.now no c.args.first count c.deref-in-No.ensures inside.2 in (
      omega (arith, c.decreases, ap tree_size c.in-Cond.is, ap tree_size c.deref-in-No.ensures),
      (
        subst IsMade (sym c.deref-in-No.ensures) made.4,
        (c.requires.view, (c.requires.few, (c.requires.begins, (one, c.add_whole-in-Cond.ensures.looked)))),
      ),
    )

pub add_whole-add_both-requires : goal.add_whole-add_both-requires
add_whole-add_both-requires t c =
    let l = c.in-Cat.left.value in
    let r = c.in-Cat.right.value in
    let made : (tree_width l ≡ c.in-Cat.field-1) × IsMade l × IsMade r = subst IsMade c.in-Cat.is c.requires.made in
    let count = length c.args.view.now.leads.now in
    let inside = subst (λ (x : Tree). IsWithin x c.args.first count) c.in-Cat.is c.requires.inside in
    let one = lent_within c.deref-in-Cat.result.now l c.args.first count c.deref-in-Cat.ensures inside.0 in
    let two = lent_within c.deref-in-Cat-2.result.now r c.args.first count c.deref-in-Cat-2.ensures inside.1 in
    let lent = subst IsMade (sym c.deref-in-Cat.ensures) made.1 in
    let other = subst IsMade (sym c.deref-in-Cat-2.ensures) made.2 in (
      omega (arith, c.decreases, ap tree_size c.in-Cat.is, ap tree_size c.deref-in-Cat.ensures, ap tree_size c.deref-in-Cat-2.ensures),
      (lent, (other, (c.requires.view, (c.requires.few, (c.requires.begins, (one, (two, c.requires.looked))))))),
    )

pub add_whole-add_both-requires-in-And : goal.add_whole-add_both-requires-in-And
add_whole-add_both-requires-in-And t c =
    let l = c.in-And.left.value in
    let r = c.in-And.right.value in
    let made : (tree_width l ≡ tree_width r) × IsMade l × IsMade r = subst IsMade c.in-And.is c.requires.made in
    let count = length c.args.view.now.leads.now in
    let inside = subst (λ (x : Tree). IsWithin x c.args.first count) c.in-And.is c.requires.inside in
    let one = lent_within c.deref-in-And.result.now l c.args.first count c.deref-in-And.ensures inside.0 in
    let two = lent_within c.deref-in-And-2.result.now r c.args.first count c.deref-in-And-2.ensures inside.1 in
    let lent = subst IsMade (sym c.deref-in-And.ensures) made.1 in
    let other = subst IsMade (sym c.deref-in-And-2.ensures) made.2 in (
      omega (arith, c.decreases, ap tree_size c.in-And.is, ap tree_size c.deref-in-And.ensures, ap tree_size c.deref-in-And-2.ensures),
      (lent, (other, (c.requires.view, (c.requires.few, (c.requires.begins, (one, (two, c.requires.looked))))))),
    )

pub add_whole-add_both-requires-in-Or : goal.add_whole-add_both-requires-in-Or
add_whole-add_both-requires-in-Or t c =
    let l = c.in-Or.left.value in
    let r = c.in-Or.right.value in
    let made : (tree_width l ≡ tree_width r) × IsMade l × IsMade r = subst IsMade c.in-Or.is c.requires.made in
    let count = length c.args.view.now.leads.now in
    let inside = subst (λ (x : Tree). IsWithin x c.args.first count) c.in-Or.is c.requires.inside in
    let one = lent_within c.deref-in-Or.result.now l c.args.first count c.deref-in-Or.ensures inside.0 in
    let two = lent_within c.deref-in-Or-2.result.now r c.args.first count c.deref-in-Or-2.ensures inside.1 in
    let lent = subst IsMade (sym c.deref-in-Or.ensures) made.1 in
    let other = subst IsMade (sym c.deref-in-Or-2.ensures) made.2 in (
      omega (arith, c.decreases, ap tree_size c.in-Or.is, ap tree_size c.deref-in-Or.ensures, ap tree_size c.deref-in-Or-2.ensures),
      (lent, (other, (c.requires.view, (c.requires.few, (c.requires.begins, (one, (two, c.requires.looked))))))),
    )

pub add_whole-add_both-requires-in-Xor : goal.add_whole-add_both-requires-in-Xor
add_whole-add_both-requires-in-Xor t c =
    let l = c.in-Xor.left.value in
    let r = c.in-Xor.right.value in
    let made : (tree_width l ≡ tree_width r) × IsMade l × IsMade r = subst IsMade c.in-Xor.is c.requires.made in
    let count = length c.args.view.now.leads.now in
    let inside = subst (λ (x : Tree). IsWithin x c.args.first count) c.in-Xor.is c.requires.inside in
    let one = lent_within c.deref-in-Xor.result.now l c.args.first count c.deref-in-Xor.ensures inside.0 in
    let two = lent_within c.deref-in-Xor-2.result.now r c.args.first count c.deref-in-Xor-2.ensures inside.1 in
    let lent = subst IsMade (sym c.deref-in-Xor.ensures) made.1 in
    let other = subst IsMade (sym c.deref-in-Xor-2.ensures) made.2 in (
      omega (arith, c.decreases, ap tree_size c.in-Xor.is, ap tree_size c.deref-in-Xor.ensures, ap tree_size c.deref-in-Xor-2.ensures),
      (lent, (other, (c.requires.view, (c.requires.few, (c.requires.begins, (one, (two, c.requires.looked))))))),
    )

pub add_whole-add_both-requires-in-Equal : goal.add_whole-add_both-requires-in-Equal
add_whole-add_both-requires-in-Equal t c =
    let l = c.in-Equal.left.value in
    let r = c.in-Equal.right.value in
    let made : (tree_width l ≡ c.in-Equal.field-0) × (tree_width r ≡ c.in-Equal.field-0) × IsMade l × IsMade r = subst IsMade c.in-Equal.is c.requires.made in
    let count = length c.args.view.now.leads.now in
    let inside = subst (λ (x : Tree). IsWithin x c.args.first count) c.in-Equal.is c.requires.inside in
    let one = lent_within c.deref-in-Equal.result.now l c.args.first count c.deref-in-Equal.ensures inside.0 in
    let two = lent_within c.deref-in-Equal-2.result.now r c.args.first count c.deref-in-Equal-2.ensures inside.1 in
    let lent = subst IsMade (sym c.deref-in-Equal.ensures) made.2 in
    let other = subst IsMade (sym c.deref-in-Equal-2.ensures) made.3 in (
      omega (arith, c.decreases, ap tree_size c.in-Equal.is, ap tree_size c.deref-in-Equal.ensures, ap tree_size c.deref-in-Equal-2.ensures),
      (lent, (other, (c.requires.view, (c.requires.few, (c.requires.begins, (one, (two, c.requires.looked))))))),
    )

pub add_whole-add_both-requires-in-Minus : goal.add_whole-add_both-requires-in-Minus
add_whole-add_both-requires-in-Minus t c =
    let l = c.in-Minus.left.value in
    let r = c.in-Minus.right.value in
    let made : (tree_width l ≡ c.in-Minus.field-0) × (tree_width r ≡ c.in-Minus.field-0) × IsMade l × IsMade r = subst IsMade c.in-Minus.is c.requires.made in
    let count = length c.args.view.now.leads.now in
    let inside = subst (λ (x : Tree). IsWithin x c.args.first count) c.in-Minus.is c.requires.inside in
    let one = lent_within c.deref-in-Minus.result.now l c.args.first count c.deref-in-Minus.ensures inside.0 in
    let two = lent_within c.deref-in-Minus-2.result.now r c.args.first count c.deref-in-Minus-2.ensures inside.1 in
    let lent = subst IsMade (sym c.deref-in-Minus.ensures) made.2 in
    let other = subst IsMade (sym c.deref-in-Minus-2.ensures) made.3 in (
      omega (arith, c.decreases, ap tree_size c.in-Minus.is, ap tree_size c.deref-in-Minus.ensures, ap tree_size c.deref-in-Minus-2.ensures),
      (lent, (other, (c.requires.view, (c.requires.few, (c.requires.begins, (one, (two, c.requires.looked))))))),
    )

pub add_whole-add_both-requires-in-Open : goal.add_whole-add_both-requires-in-Open
add_whole-add_both-requires-in-Open t c =
    let l = c.in-Cond.yes.value in
    let r = c.in-Cond.no.value in
    let test = c.in-Cond.test.value in
    let made : (tree_width test ≡ 1) × (tree_width l ≡ tree_width r) × IsMade test × IsMade l × IsMade r = subst IsMade c.in-Cond.is c.requires.made in
    let count = length c.args.view.now.leads.now in
    let inside = subst (λ (x : Tree). IsWithin x c.args.first count) c.in-Cond.is c.requires.inside in
    let one = lent_within c.deref-in-Open.result.now l c.args.first count c.deref-in-Open.ensures inside.1 in
    let two = lent_within c.deref-in-Open-2.result.now r c.args.first count c.deref-in-Open-2.ensures inside.2 in
    let lent = subst IsMade (sym c.deref-in-Open.ensures) made.3 in
    let other = subst IsMade (sym c.deref-in-Open-2.ensures) made.4 in (
      omega (arith, c.decreases, ap tree_size c.in-Cond.is, ap tree_size c.deref-in-Open.ensures, ap tree_size c.deref-in-Open-2.ensures),
      (lent, (other, (c.requires.view, (c.requires.few, (c.requires.begins, (one, (two, c.add_whole-in-Cond.ensures.looked))))))),
    )

pub add_both-returns-clause-middle : goal.add_both-returns-clause-middle
add_both-returns-clause-middle t c =
    let ts = value_seen c.args.view.now.terns.now c.args.view.now.leads.now c.args.first c.args.left.now in
    omega (
      arith,
      c.len-middle.ensures,
      added_long c.args.bits.now.items c.add_whole.new.bits.items ts c.in_ok-add_whole.ensures.bits,
      wide_at c.args.view.now.terns.now c.args.view.now.leads.now c.args.first c.args.left.now c.requires.left,
    )

-- ---- operators

pub add_whole-pair_last-requires-clause-middle : goal.add_whole-pair_last-requires-clause-middle
add_whole-pair_last-requires-clause-middle t c =
    let l = c.in-And.left.value in
    let r = c.in-And.right.value in
    let made : (tree_width l ≡ tree_width r) × IsMade l × IsMade r = subst IsMade c.in-And.is c.requires.made in
    operands_long c.args.view.now.terns.now c.args.view.now.leads.now c.args.first l r c.deref-in-And.result.now c.deref-in-And-2.result.now
    c.deref-in-And.ensures c.deref-in-And-2.ensures made.0 made.1 made.2 c.args.bits.now.items c.add_both-in-And.new.bits.items c.len-low.result
    c.in_ok-middle-in-And.middle (omega (arith, c.len-low.ensures)) c.in_ok-middle-in-And.ensures.middle c.in_ok-middle-in-And.ensures.bits

pub add_whole-returns-in_ok-middle-in-And-clause-bits : goal.add_whole-returns-in_ok-middle-in-And-clause-bits
add_whole-returns-in_ok-middle-in-And-clause-bits t c =
    let value = value_seen c.args.view.now.terns.now c.args.view.now.leads.now c.args.first in
    let l = c.in-And.left.value in
    let r = c.in-And.right.value in
    let made : (tree_width l ≡ tree_width r) × IsMade l × IsMade r = subst IsMade c.in-And.is c.requires.made in
    let last = operands_last c.args.view.now.terns.now c.args.view.now.leads.now c.args.first l r c.deref-in-And.result.now c.deref-in-And-2.result.now
    c.deref-in-And.ensures c.deref-in-And-2.ensures made.0 made.1 made.2 c.args.bits.now.items c.add_both-in-And.new.bits.items c.len-low.result
    c.in_ok-middle-in-And.middle (omega (arith, c.len-low.ensures)) c.in_ok-middle-in-And.ensures.middle c.in_ok-middle-in-And.ensures.bits in
    c.pair_last.ensures (plain c.args.bits.now.items) (value c.deref-in-And.result.now) (value c.deref-in-And-2.result.now) last
    ∙ ap (λ ts. plain c.args.bits.now.items ++ ts) (operands_are c.args.view.now.terns.now c.args.view.now.leads.now c.args.first l r c.deref-in-And.result.now c.deref-in-And-2.result.now
    c.deref-in-And.ensures c.deref-in-And-2.ensures made.0 made.1 made.2
    (each_tern both) ∙ sym (ap value c.in-And.is))

pub add_whole-pair_last-requires-in-Or-clause-middle : goal.add_whole-pair_last-requires-in-Or-clause-middle
add_whole-pair_last-requires-in-Or-clause-middle t c =
    let l = c.in-Or.left.value in
    let r = c.in-Or.right.value in
    let made : (tree_width l ≡ tree_width r) × IsMade l × IsMade r = subst IsMade c.in-Or.is c.requires.made in
    operands_long c.args.view.now.terns.now c.args.view.now.leads.now c.args.first l r c.deref-in-Or.result.now c.deref-in-Or-2.result.now
    c.deref-in-Or.ensures c.deref-in-Or-2.ensures made.0 made.1 made.2 c.args.bits.now.items c.add_both-in-Or.new.bits.items c.len-low.result
    c.in_ok-middle-in-Or.middle (omega (arith, c.len-low.ensures)) c.in_ok-middle-in-Or.ensures.middle c.in_ok-middle-in-Or.ensures.bits

pub add_whole-returns-in_ok-middle-in-Or-clause-bits : goal.add_whole-returns-in_ok-middle-in-Or-clause-bits
add_whole-returns-in_ok-middle-in-Or-clause-bits t c =
    let value = value_seen c.args.view.now.terns.now c.args.view.now.leads.now c.args.first in
    let l = c.in-Or.left.value in
    let r = c.in-Or.right.value in
    let made : (tree_width l ≡ tree_width r) × IsMade l × IsMade r = subst IsMade c.in-Or.is c.requires.made in
    let last = operands_last c.args.view.now.terns.now c.args.view.now.leads.now c.args.first l r c.deref-in-Or.result.now c.deref-in-Or-2.result.now
    c.deref-in-Or.ensures c.deref-in-Or-2.ensures made.0 made.1 made.2 c.args.bits.now.items c.add_both-in-Or.new.bits.items c.len-low.result
    c.in_ok-middle-in-Or.middle (omega (arith, c.len-low.ensures)) c.in_ok-middle-in-Or.ensures.middle c.in_ok-middle-in-Or.ensures.bits in
    c.pair_last-in-Or.ensures (plain c.args.bits.now.items) (value c.deref-in-Or.result.now) (value c.deref-in-Or-2.result.now) last
    ∙ ap (λ ts. plain c.args.bits.now.items ++ ts) (operands_are c.args.view.now.terns.now c.args.view.now.leads.now c.args.first l r c.deref-in-Or.result.now c.deref-in-Or-2.result.now
    c.deref-in-Or.ensures c.deref-in-Or-2.ensures made.0 made.1 made.2
    (each_tern either) ∙ sym (ap value c.in-Or.is))

pub add_whole-pair_last-requires-in-Xor-clause-middle : goal.add_whole-pair_last-requires-in-Xor-clause-middle
add_whole-pair_last-requires-in-Xor-clause-middle t c =
    let l = c.in-Xor.left.value in
    let r = c.in-Xor.right.value in
    let made : (tree_width l ≡ tree_width r) × IsMade l × IsMade r = subst IsMade c.in-Xor.is c.requires.made in
    operands_long c.args.view.now.terns.now c.args.view.now.leads.now c.args.first l r c.deref-in-Xor.result.now c.deref-in-Xor-2.result.now
    c.deref-in-Xor.ensures c.deref-in-Xor-2.ensures made.0 made.1 made.2 c.args.bits.now.items c.add_both-in-Xor.new.bits.items c.len-low.result
    c.in_ok-middle-in-Xor.middle (omega (arith, c.len-low.ensures)) c.in_ok-middle-in-Xor.ensures.middle c.in_ok-middle-in-Xor.ensures.bits

pub add_whole-returns-in_ok-middle-in-Xor-clause-bits : goal.add_whole-returns-in_ok-middle-in-Xor-clause-bits
add_whole-returns-in_ok-middle-in-Xor-clause-bits t c =
    let value = value_seen c.args.view.now.terns.now c.args.view.now.leads.now c.args.first in
    let l = c.in-Xor.left.value in
    let r = c.in-Xor.right.value in
    let made : (tree_width l ≡ tree_width r) × IsMade l × IsMade r = subst IsMade c.in-Xor.is c.requires.made in
    let last = operands_last c.args.view.now.terns.now c.args.view.now.leads.now c.args.first l r c.deref-in-Xor.result.now c.deref-in-Xor-2.result.now
    c.deref-in-Xor.ensures c.deref-in-Xor-2.ensures made.0 made.1 made.2 c.args.bits.now.items c.add_both-in-Xor.new.bits.items c.len-low.result
    c.in_ok-middle-in-Xor.middle (omega (arith, c.len-low.ensures)) c.in_ok-middle-in-Xor.ensures.middle c.in_ok-middle-in-Xor.ensures.bits in
    c.pair_last-in-Xor.ensures (plain c.args.bits.now.items) (value c.deref-in-Xor.result.now) (value c.deref-in-Xor-2.result.now) last
    ∙ ap (λ ts. plain c.args.bits.now.items ++ ts) (operands_are c.args.view.now.terns.now c.args.view.now.leads.now c.args.first l r c.deref-in-Xor.result.now c.deref-in-Xor-2.result.now
    c.deref-in-Xor.ensures c.deref-in-Xor-2.ensures made.0 made.1 made.2
    (each_tern differs) ∙ sym (ap value c.in-Xor.is))

pub add_whole-compare_last-requires-clause-middle : goal.add_whole-compare_last-requires-clause-middle
add_whole-compare_last-requires-clause-middle t c =
    let l = c.in-Equal.left.value in
    let r = c.in-Equal.right.value in
    let made : (tree_width l ≡ c.in-Equal.field-0) × (tree_width r ≡ c.in-Equal.field-0) × IsMade l × IsMade r = subst IsMade c.in-Equal.is c.requires.made in
    operands_long c.args.view.now.terns.now c.args.view.now.leads.now c.args.first l r c.deref-in-Equal.result.now c.deref-in-Equal-2.result.now
    c.deref-in-Equal.ensures c.deref-in-Equal-2.ensures (made.0 ∙ sym made.1) made.2 made.3 c.args.bits.now.items c.add_both-in-Equal.new.bits.items c.len-low.result
    c.in_ok-middle-in-Equal.middle (omega (arith, c.len-low.ensures)) c.in_ok-middle-in-Equal.ensures.middle c.in_ok-middle-in-Equal.ensures.bits

pub add_whole-returns-in_ok-middle-in-Equal-clause-bits : goal.add_whole-returns-in_ok-middle-in-Equal-clause-bits
add_whole-returns-in_ok-middle-in-Equal-clause-bits t c =
    let value = value_seen c.args.view.now.terns.now c.args.view.now.leads.now c.args.first in
    let l = c.in-Equal.left.value in
    let r = c.in-Equal.right.value in
    let made : (tree_width l ≡ c.in-Equal.field-0) × (tree_width r ≡ c.in-Equal.field-0) × IsMade l × IsMade r = subst IsMade c.in-Equal.is c.requires.made in
    let last = operands_last c.args.view.now.terns.now c.args.view.now.leads.now c.args.first l r c.deref-in-Equal.result.now c.deref-in-Equal-2.result.now
    c.deref-in-Equal.ensures c.deref-in-Equal-2.ensures (made.0 ∙ sym made.1) made.2 made.3 c.args.bits.now.items c.add_both-in-Equal.new.bits.items c.len-low.result
    c.in_ok-middle-in-Equal.middle (omega (arith, c.len-low.ensures)) c.in_ok-middle-in-Equal.ensures.middle c.in_ok-middle-in-Equal.ensures.bits in
    on_ok c.compare_last.result
    (λ done. done (plain c.args.bits.now.items) (value c.deref-in-Equal.result.now) (value c.deref-in-Equal-2.result.now) last
    ∙ ap (λ ts. plain c.args.bits.now.items ++ ts) (operands_are c.args.view.now.terns.now c.args.view.now.leads.now c.args.first l r c.deref-in-Equal.result.now c.deref-in-Equal-2.result.now
    c.deref-in-Equal.ensures c.deref-in-Equal-2.ensures (made.0 ∙ sym made.1) made.2 made.3
    (λ xs ys. same_terns xs ys ∷ []) ∙ sym (ap value c.in-Equal.is)))
    c.compare_last.ensures

pub add_whole-subtract_last-requires-clause-middle : goal.add_whole-subtract_last-requires-clause-middle
add_whole-subtract_last-requires-clause-middle t c =
    let l = c.in-Minus.left.value in
    let r = c.in-Minus.right.value in
    let made : (tree_width l ≡ c.in-Minus.field-0) × (tree_width r ≡ c.in-Minus.field-0) × IsMade l × IsMade r = subst IsMade c.in-Minus.is c.requires.made in
    operands_long c.args.view.now.terns.now c.args.view.now.leads.now c.args.first l r c.deref-in-Minus.result.now c.deref-in-Minus-2.result.now
    c.deref-in-Minus.ensures c.deref-in-Minus-2.ensures (made.0 ∙ sym made.1) made.2 made.3 c.args.bits.now.items c.add_both-in-Minus.new.bits.items c.len-low.result
    c.in_ok-middle-in-Minus.middle (omega (arith, c.len-low.ensures)) c.in_ok-middle-in-Minus.ensures.middle c.in_ok-middle-in-Minus.ensures.bits

pub add_whole-returns-in_ok-middle-in-Minus-clause-bits : goal.add_whole-returns-in_ok-middle-in-Minus-clause-bits
add_whole-returns-in_ok-middle-in-Minus-clause-bits t c =
    let value = value_seen c.args.view.now.terns.now c.args.view.now.leads.now c.args.first in
    let l = c.in-Minus.left.value in
    let r = c.in-Minus.right.value in
    let made : (tree_width l ≡ c.in-Minus.field-0) × (tree_width r ≡ c.in-Minus.field-0) × IsMade l × IsMade r = subst IsMade c.in-Minus.is c.requires.made in
    let last = operands_last c.args.view.now.terns.now c.args.view.now.leads.now c.args.first l r c.deref-in-Minus.result.now c.deref-in-Minus-2.result.now
    c.deref-in-Minus.ensures c.deref-in-Minus-2.ensures (made.0 ∙ sym made.1) made.2 made.3 c.args.bits.now.items c.add_both-in-Minus.new.bits.items c.len-low.result
    c.in_ok-middle-in-Minus.middle (omega (arith, c.len-low.ensures)) c.in_ok-middle-in-Minus.ensures.middle c.in_ok-middle-in-Minus.ensures.bits in
    c.subtract_last.ensures (plain c.args.bits.now.items) (value c.deref-in-Minus.result.now) (value c.deref-in-Minus-2.result.now) last
    ∙ ap (λ ts. plain c.args.bits.now.items ++ ts) (operands_are c.args.view.now.terns.now c.args.view.now.leads.now c.args.first l r c.deref-in-Minus.result.now c.deref-in-Minus-2.result.now
    c.deref-in-Minus.ensures c.deref-in-Minus-2.ensures (made.0 ∙ sym made.1) made.2 made.3
    (tern_operated ops.Minus) ∙ sym (ap value c.in-Minus.is))

-- ---- tables

pub add_whole-entry-found-requires-clause-within : goal.add_whole-entry-found-requires-clause-within
add_whole-entry-found-requires-clause-within t c =
    let terns = c.args.view.now.terns.now in
    let leads = c.args.view.now.leads.now in
    let index = c.in-Pick.index.value in
    let lent = c.deref-in-Pick.result.now in
    let ts = value_seen terns leads c.args.first lent in
    let made : (tree_width index ≡ c.in-Pick.field-1) × (c.in-Pick.field-1 ≤ 32) × IsMade index = subst IsMade c.in-Pick.is c.requires.made in
    let inside : (c.in-Pick.place + 2 ^ c.in-Pick.field-1 ≤ length leads - c.args.first) × IsWithin index c.args.first (length leads) =
    subst (λ (x : Tree). IsWithin x c.args.first (length leads)) c.in-Pick.is c.requires.inside in
    let long = behind_long c.args.bits.now.items c.add_whole.new.bits.items c.deref-in-Pick-2.result.now ts c.len-low.result c.deref-in-Pick-2.ensures.value
    c.in_ok-add_whole-in-Pick.ensures.bits (omega (arith, c.len-low.ensures))
    ∙ lent_long terns leads c.args.first lent index c.in-Pick.field-1 c.deref-in-Pick.ensures made.0 made.2 in
    omega (arith, inside.0, ap (λ n. 2 ^ n) long, c.requires.begins)

pub add_whole-returns-in_ok-add_whole-in-Pick-clause-bits : goal.add_whole-returns-in_ok-add_whole-in-Pick-clause-bits
add_whole-returns-in_ok-add_whole-in-Pick-clause-bits t c =
    let terns = c.args.view.now.terns.now in
    let leads = c.args.view.now.leads.now in
    let first = c.args.first in
    let place = c.in-Pick.place in
    let width = c.in-Pick.field-1 in
    let index = c.in-Pick.index.value in
    let lent = c.deref-in-Pick.result.now in
    let value = value_seen terns leads first in
    let old = c.args.bits.now.items in
    let new = c.add_whole.new.bits.items in
    let kept = c.deref-in-Pick-2.result.now in
    let low = c.len-low.result in
    let made : (tree_width index ≡ width) × (width ≤ 32) × IsMade index = subst IsMade c.in-Pick.is c.requires.made in
    let at : low ≡ length old = omega (arith, c.len-low.ensures) in
    let long = behind_long old new kept (value lent) low c.deref-in-Pick-2.ensures.value c.in_ok-add_whole-in-Pick.ensures.bits at
    ∙ lent_long terns leads first lent index width c.deref-in-Pick.ensures made.0 made.2 in
    let table : first_terns (2 ^ length (take (length kept - low) (drop low kept))) (λ k. seen terns leads (first + place + 1 * k))
    ≡ first_terns (2 ^ width) (λ k. seen terns leads (first + (place + k))) =
    ap (λ n. first_terns (2 ^ n) (λ k. seen terns leads (first + place + 1 * k))) long ∙ table_is (seen terns leads) (2 ^ width) first place in
    let bits = behind_plain old new kept (value lent) low c.deref-in-Pick-2.ensures.value c.in_ok-add_whole-in-Pick.ensures.bits at
    ∙ ap value c.deref-in-Pick.ensures in
    on_ok c.end_in.result
    (λ is. ap plain is
    ∙ map-append plain_tern (take low new) (c.entry-found.result ∷ [])
    ∙ ap₂ (λ xs x. xs ++ x ∷ []) (front_plain old new kept (value lent) low c.deref-in-Pick-2.ensures.value c.in_ok-add_whole-in-Pick.ensures.bits at)
    (c.entry-found.ensures ∙ ap₂ entry table bits)
    ∙ ap (λ ts. plain old ++ ts) (sym (ap value c.in-Pick.is)))
    c.end_in.ensures

-- ---- the others

pub add_whole-returns-in_ok-add_whole-in-Not-clause-bits : goal.add_whole-returns-in_ok-add_whole-in-Not-clause-bits
add_whole-returns-in_ok-add_whole-in-Not-clause-bits t c =
    let value = value_seen c.args.view.now.terns.now c.args.view.now.leads.now c.args.first in
    let old = c.args.bits.now.items in
    let new = c.add_whole-in-Not.new.bits.items in
    let lent = c.deref-in-Not.result.now in
    let at : c.len-low.result ≡ length old = omega (arith, c.len-low.ensures) in
    laid_behind old new c.deref_mut.result.now (value lent) c.len-low.result c.deref_mut.ensures.value c.in_ok-add_whole-in-Not.ensures.bits at
    c.add_whole-in-Not.new.bits.len c.invert.new.bits _ _ (omega arith) c.invert.auto.bits
    ∙ ap (λ ts. plain old ++ ts)
    (c.invert.ensures
    ∙ ap (map inverse)
    (behind_plain old new c.deref_mut.result.now (value lent) c.len-low.result c.deref_mut.ensures.value c.in_ok-add_whole-in-Not.ensures.bits at
    ∙ ap value c.deref-in-Not.ensures)
    ∙ sym (ap value c.in-Not.is))

pub add_whole-returns-in-Yes-clause-bits : goal.add_whole-returns-in-Yes-clause-bits
add_whole-returns-in-Yes-clause-bits t c =
    let value = value_seen c.args.view.now.terns.now c.args.view.now.leads.now c.args.first in
    let old = c.args.bits.now.items in
    let new = c.add_whole-in-Cond.new.bits.items in
    let at : c.len-low.result ≡ length old = omega (arith, c.len-low.ensures) in
    let cut : plain c.truncate.new.self.items ≡ plain old =
    ap plain c.truncate.ensures.items
    ∙ front_plain old new c.deref-in-Cond-2.result.now (value c.deref-in-Cond.result.now) c.len-low.result c.deref-in-Cond-2.ensures.value
    c.in_ok-add_whole-in-Cond.ensures.bits at in
    let test_is : yes ≡ tern_at (value c.in-Cond.test.value) 0 =
    c.in-Yes.ensures
    ∙ first_behind old new c.deref-in-Cond-2.result.now (value c.deref-in-Cond.result.now) c.len-low.result c.deref-in-Cond-2.ensures.value
    c.in_ok-add_whole-in-Cond.ensures.bits at
    ∙ ap (λ (x : Tree). tern_at (value x) 0) c.deref-in-Cond.ensures in
    on_ok c.add_whole-in-Yes.result
    (λ is. is ∙ ap₂ (λ xs ts. xs ++ ts) cut
    (ap value c.deref-in-Yes.ensures ∙ ap (λ s. one_of s (value c.in-Cond.yes.value) (value c.in-Cond.no.value)) test_is ∙ sym (ap value c.in-Cond.is)))
    c.add_whole-in-Yes.ensures.bits

pub add_whole-returns-in-No-clause-bits : goal.add_whole-returns-in-No-clause-bits
add_whole-returns-in-No-clause-bits t c =
    let value = value_seen c.args.view.now.terns.now c.args.view.now.leads.now c.args.first in
    let old = c.args.bits.now.items in
    let new = c.add_whole-in-Cond.new.bits.items in
    let at : c.len-low.result ≡ length old = omega (arith, c.len-low.ensures) in
    let cut : plain c.truncate.new.self.items ≡ plain old =
    ap plain c.truncate.ensures.items
    ∙ front_plain old new c.deref-in-Cond-2.result.now (value c.deref-in-Cond.result.now) c.len-low.result c.deref-in-Cond-2.ensures.value
    c.in_ok-add_whole-in-Cond.ensures.bits at in
    let test_is : no ≡ tern_at (value c.in-Cond.test.value) 0 =
    c.in-No.ensures
    ∙ first_behind old new c.deref-in-Cond-2.result.now (value c.deref-in-Cond.result.now) c.len-low.result c.deref-in-Cond-2.ensures.value
    c.in_ok-add_whole-in-Cond.ensures.bits at
    ∙ ap (λ (x : Tree). tern_at (value x) 0) c.deref-in-Cond.ensures in
    on_ok c.add_whole-in-No.result
    (λ is. is ∙ ap₂ (λ xs ts. xs ++ ts) cut
    (ap value c.deref-in-No.ensures ∙ ap (λ s. one_of s (value c.in-Cond.yes.value) (value c.in-Cond.no.value)) test_is ∙ sym (ap value c.in-Cond.is)))
    c.add_whole-in-No.ensures.bits

pub add_whole-pair_last-requires-in-Open-clause-middle : goal.add_whole-pair_last-requires-in-Open-clause-middle
add_whole-pair_last-requires-in-Open-clause-middle t c =
    let value = value_seen c.args.view.now.terns.now c.args.view.now.leads.now c.args.first in
    let old = c.args.bits.now.items in
    let new = c.add_whole-in-Cond.new.bits.items in
    let at : c.len-low.result ≡ length old = omega (arith, c.len-low.ensures) in
    let cut : plain c.truncate.new.self.items ≡ plain old =
    ap plain c.truncate.ensures.items
    ∙ front_plain old new c.deref-in-Cond-2.result.now (value c.deref-in-Cond.result.now) c.len-low.result c.deref-in-Cond-2.ensures.value
    c.in_ok-add_whole-in-Cond.ensures.bits at in
    let l = c.in-Cond.yes.value in
    let r = c.in-Cond.no.value in
    let test = c.in-Cond.test.value in
    let made : (tree_width test ≡ 1) × (tree_width l ≡ tree_width r) × IsMade test × IsMade l × IsMade r = subst IsMade c.in-Cond.is c.requires.made in
    operands_long c.args.view.now.terns.now c.args.view.now.leads.now c.args.first l r c.deref-in-Open.result.now c.deref-in-Open-2.result.now
    c.deref-in-Open.ensures c.deref-in-Open-2.ensures made.1 made.3 made.4 c.truncate.new.self.items c.add_both-in-Open.new.bits.items c.len-low.result
    c.in_ok-middle-in-Open.middle (at ∙ sym (as_long c.truncate.new.self.items old cut)) c.in_ok-middle-in-Open.ensures.middle c.in_ok-middle-in-Open.ensures.bits

pub add_whole-returns-in_ok-middle-in-Open-clause-bits : goal.add_whole-returns-in_ok-middle-in-Open-clause-bits
add_whole-returns-in_ok-middle-in-Open-clause-bits t c =
    let value = value_seen c.args.view.now.terns.now c.args.view.now.leads.now c.args.first in
    let old = c.args.bits.now.items in
    let new = c.add_whole-in-Cond.new.bits.items in
    let at : c.len-low.result ≡ length old = omega (arith, c.len-low.ensures) in
    let cut : plain c.truncate.new.self.items ≡ plain old =
    ap plain c.truncate.ensures.items
    ∙ front_plain old new c.deref-in-Cond-2.result.now (value c.deref-in-Cond.result.now) c.len-low.result c.deref-in-Cond-2.ensures.value
    c.in_ok-add_whole-in-Cond.ensures.bits at in
    let test_is : unknown ≡ tern_at (value c.in-Cond.test.value) 0 =
    c.in-Open.ensures
    ∙ first_behind old new c.deref-in-Cond-2.result.now (value c.deref-in-Cond.result.now) c.len-low.result c.deref-in-Cond-2.ensures.value
    c.in_ok-add_whole-in-Cond.ensures.bits at
    ∙ ap (λ (x : Tree). tern_at (value x) 0) c.deref-in-Cond.ensures in
    let l = c.in-Cond.yes.value in
    let r = c.in-Cond.no.value in
    let test = c.in-Cond.test.value in
    let made : (tree_width test ≡ 1) × (tree_width l ≡ tree_width r) × IsMade test × IsMade l × IsMade r = subst IsMade c.in-Cond.is c.requires.made in
    let last = operands_last c.args.view.now.terns.now c.args.view.now.leads.now c.args.first l r c.deref-in-Open.result.now c.deref-in-Open-2.result.now
    c.deref-in-Open.ensures c.deref-in-Open-2.ensures made.1 made.3 made.4 c.truncate.new.self.items c.add_both-in-Open.new.bits.items c.len-low.result
    c.in_ok-middle-in-Open.middle (at ∙ sym (as_long c.truncate.new.self.items old cut)) c.in_ok-middle-in-Open.ensures.middle c.in_ok-middle-in-Open.ensures.bits in
    c.pair_last-in-Open.ensures (plain c.truncate.new.self.items) (value c.deref-in-Open.result.now) (value c.deref-in-Open-2.result.now) last
    ∙ ap₂ (λ xs ts. xs ++ ts) cut
    (operands_are c.args.view.now.terns.now c.args.view.now.leads.now c.args.first l r c.deref-in-Open.result.now c.deref-in-Open-2.result.now
    c.deref-in-Open.ensures c.deref-in-Open-2.ensures made.1 made.3 made.4 (each_tern agreed)
    ∙ ap (λ s. one_of s (value l) (value r)) test_is ∙ sym (ap value c.in-Cond.is))
