use Rattle.std.proofs.Common.{◌≡◌, ◌+◌, ◌-◌, ◌<◌, false, length, sym, ap, ap₂, ◌∙◌, subst, arith}
use Rattle.std.proofs.lemmas.List.{length-map, length-set}
use Rattle.fab_bits.specs.Bits.{other_bit}
use Rattle.fab_syntax.specs.declared.tree.Op.TheVariants as ops
use Rattle.fab_values.proofs.Evaluated.{borrow_at, borrowed, borrow_more, taken, kept, xor_is}
use Rattle.fab_systems_laws.specs.Ternary.{unknown, known}
use Rattle.fab_systems_laws.specs.Ternary.{Tern as PlainTern}
use Rattle.fab_solutions_laws.specs.fab_ternary_laws_Operators.{tern_at, inverse, both, either, differs, agreed, tern_operated}
use Rattle.fab_ternary.specs.Terns.{plain_tern, is_one}
use Rattle.fab_compiled.specs.declared.tree.Tree.{Tree}
use Rattle.fab_compiled.specs.Terns.{seen}
use Rattle.fab_compiled.specs.Trees.{tree_width, IsMade}
use Rattle.fab_compiled.specs.Evaluation.{all_known, known_bits, value_seen, operands_difference, operands_width}
use Rattle.fab_compiled.proofs.Bits.{first_at, all_from, kept_are}
use Rattle.fab_compiled.proofs.Evaluated.{not_at, each_of, low_of, high_of, one_of_at, minus_unknown, minus_by_unknown, minus_known, wide_at, long_at, operands_long, lent_long, set_bits, same_none, same_step}
use Rattle.fab_compiled.proofs.Numbered.{picked_is, whole_small}
use Rattle.fab_compiled.proofs.evaluation.+value.Goals as goal
use Rattle.fab_compiled.proofs.evaluation.+value.Goals.{difference_bit-then-not-knows-via-then-not-knows, difference_bit-then-not-knows-via-else-not-knows+then-not-knows-2, difference_bit-then-minuend-subtrahend, difference_bit-else-minuend-subtrahend}

-- ---- differences

pub difference_bit-returns-then-not-knows : goal.difference_bit-returns-then-not-knows
difference_bit-returns-then-not-knows t c =
    let value = value_seen c.args.view.now.terns.now c.args.view.now.leads.now c.args.first in
    let left = c.in-Minus.left.value in
    let right = c.in-Minus.right.value in
    let made : (tree_width left ≡ c.in-Minus.width) × (tree_width right ≡ c.in-Minus.width) × IsMade left × IsMade right = subst IsMade c.in-Minus.is c.requires.made in
    let within : c.args.bit < c.in-Minus.width = subst (λ (x : Tree). c.args.bit < operands_width x) c.in-Minus.is c.requires.within in
    let long : c.args.bit < length (value left) = omega (arith, within, made.0, wide_at c.args.view.now.terns.now c.args.view.now.leads.now c.args.first left made.2) in
    let is : tern_at (operands_difference c.args.view.now.terns.now c.args.view.now.leads.now c.args.first c.args.tree.now) c.args.bit
    ≡ tern_at (tern_operated ops.Minus (value left) (value right)) c.args.bit =
    ap (λ (x : Tree). tern_at (operands_difference c.args.view.now.terns.now c.args.view.now.leads.now c.args.first x) c.args.bit) c.in-Minus.is in
    elim c.then-not-knows.branch [
      | difference_bit-then-not-knows-via-then-not-knows w ↦
          minus_unknown (value left) (value right) c.args.bit long (sym (c.knows.ensures ∙ ap (λ (x : Tree). all_known (value x)) c.deref-left.ensures) ∙ w.if-not-knows.true) ∙ sym is
      | difference_bit-then-not-knows-via-else-not-knows+then-not-knows-2 w ↦
          minus_by_unknown (value left) (value right) c.args.bit long
          (sym (w.knows-else-not-knows.ensures ∙ ap (λ (x : Tree). all_known (value x)) c.deref-right.ensures) ∙ w.if-not-knows-2.true) ∙ sym is
    ]

pub difference_bit-loop-place-preserved : goal.difference_bit-loop-place-preserved
difference_bit-loop-place-preserved t c =
    let value = value_seen c.args.view.now.terns.now c.args.view.now.leads.now c.args.first in
    let left = c.in-Minus.left.value in
    let right = c.in-Minus.right.value in
    let made : (tree_width left ≡ c.in-Minus.width) × (tree_width right ≡ c.in-Minus.width) × IsMade left × IsMade right = subst IsMade c.in-Minus.is c.requires.made in
    let within : c.args.bit < c.in-Minus.width = subst (λ (x : Tree). c.args.bit < operands_width x) c.in-Minus.is c.requires.within in
    let long_left = lent_long c.args.view.now.terns.now c.args.view.now.leads.now c.args.first c.deref-left.result.now left c.in-Minus.width c.deref-left.ensures made.0 made.2 in
    let long_right = lent_long c.args.view.now.terns.now c.args.view.now.leads.now c.args.first c.deref-right.result.now right c.in-Minus.width c.deref-right.ensures made.1 made.3 in
    let xs = known_bits (value c.deref-left.result.now) in
    let ys = known_bits (value c.deref-right.result.now) in
    let long_xs : length xs ≡ c.in-Minus.width = length-map (value c.deref-left.result.now) is_one ∙ long_left in
    let long_ys : length ys ≡ c.in-Minus.width = length-map (value c.deref-right.result.now) is_one ∙ long_right in
    let place = c.loop-place.place in
    let here : borrowed c.is_one-minuend.result c.is_one-subtrahend.result c.loop-place.borrow ≡ borrow_at false xs ys (place + 1) =
    (λ j. borrowed (c.is_one-minuend.ensures j) (c.is_one-subtrahend.ensures j) (c.loop-place.invariant j))
    ∙ sym (borrow_more false xs ys place (omega (arith, long_xs, c.loop-place-test.true, within)) (long_xs ∙ sym long_ys)) in
    elim c.if-minuend-subtrahend.branch [
      | difference_bit-then-minuend-subtrahend w ↦ w.borrow-is ∙ taken _ _ c.loop-place.borrow w.if-minuend-subtrahend.true ∙ here
      | difference_bit-else-minuend-subtrahend w ↦ w.borrow-is ∙ kept _ _ c.loop-place.borrow w.if-minuend-subtrahend.false ∙ here
    ]

pub difference_bit-returns-after-loop-place : goal.difference_bit-returns-after-loop-place
difference_bit-returns-after-loop-place t c =
    let value = value_seen c.args.view.now.terns.now c.args.view.now.leads.now c.args.first in
    let left = c.in-Minus.left.value in
    let right = c.in-Minus.right.value in
    let a = c.deref-left.result.now in
    let b = c.deref-right.result.now in
    let made : (tree_width left ≡ c.in-Minus.width) × (tree_width right ≡ c.in-Minus.width) × IsMade left × IsMade right = subst IsMade c.in-Minus.is c.requires.made in
    let within : c.args.bit < c.in-Minus.width = subst (λ (x : Tree). c.args.bit < operands_width x) c.in-Minus.is c.requires.within in
    let long_left = lent_long c.args.view.now.terns.now c.args.view.now.leads.now c.args.first a left c.in-Minus.width c.deref-left.ensures made.0 made.2 in
    let long_right = lent_long c.args.view.now.terns.now c.args.view.now.leads.now c.args.first b right c.in-Minus.width c.deref-right.ensures made.1 made.3 in
    let is : tern_at (operands_difference c.args.view.now.terns.now c.args.view.now.leads.now c.args.first c.args.tree.now) c.args.bit
    ≡ tern_at (tern_operated ops.Minus (value a) (value b)) c.args.bit =
    ap (λ (x : Tree). tern_at (operands_difference c.args.view.now.terns.now c.args.view.now.leads.now c.args.first x) c.args.bit) c.in-Minus.is
    ∙ (λ j. tern_at (tern_operated ops.Minus (value (sym c.deref-left.ensures j)) (value (sym c.deref-right.ensures j))) c.args.bit) in
    let xs = known_bits (value a) in
    let ys = known_bits (value b) in
    let last : c.loop-place.place ≡ c.args.bit = omega (arith, c.loop-place-test.false, c.loop-place.auto.place-end) in
    let borrows : c.loop-place.borrow ≡ borrow_at false xs ys c.args.bit = c.loop-place.invariant ∙ ap (borrow_at false xs ys) last in
    c.known.ensures
    ∙ ap known (xor_is _ _ ∙ ap (λ x. other_bit x c.loop-place.borrow) (xor_is _ _)
    ∙ (λ j. other_bit (other_bit (c.is_one.ensures j) (c.is_one-in-Minus.ensures j)) (borrows j)))
    ∙ minus_known (value a) (value b) c.args.bit (omega (arith, within, long_left)) (long_left ∙ sym long_right)
    (sym c.knows.ensures ∙ c.if-not-knows.false) (sym c.knows-else-not-knows.ensures ∙ c.if-not-knows-2.false)
    ∙ sym is

-- ---- the forms of an expression

pub eval-returns-in-Bits : goal.eval-returns-in-Bits
eval-returns-in-Bits t c =
    let at = seen c.args.view.now.terns.now c.args.view.now.leads.now in
    let within : c.args.bit < c.in-Bits.field-1 = subst (λ (x : Tree). c.args.bit < tree_width x) c.in-Bits.is c.requires.within in
    let place : c.args.first + c.in-Bits.place + c.args.bit ≡ c.args.first + (c.in-Bits.place + c.args.bit) = omega arith in
    c.at.ensures ∙ ap at place
    ∙ sym (ap (λ (x : Tree). tern_at (value_seen c.args.view.now.terns.now c.args.view.now.leads.now c.args.first x) c.args.bit) c.in-Bits.is
    ∙ first_at c.in-Bits.field-1 (λ k. seen c.args.view.now.terns.now c.args.view.now.leads.now (c.args.first + (c.in-Bits.place + k))) c.args.bit within)

pub eval-returns-then-bit-width : goal.eval-returns-then-bit-width
eval-returns-then-bit-width t c =
    let value = value_seen c.args.view.now.terns.now c.args.view.now.leads.now c.args.first in
    let low = c.in-Cat.low.value in
    let high = c.in-Cat.high.value in
    let made : (tree_width low ≡ c.in-Cat.width) × IsMade low × IsMade high = subst IsMade c.in-Cat.is c.requires.made in
    c.eval.ensures ∙ ap (λ (x : Tree). tern_at (value x) c.args.bit) c.deref-then-bit-width.ensures
    ∙ low_of (value low) (value high) (value c.args.tree.now) c.args.bit (ap value c.in-Cat.is)
    (long_at c.args.view.now.terns.now c.args.view.now.leads.now c.args.first low c.args.bit made.1 (omega (arith, c.if-bit-width.true, made.0)))

pub eval-returns-else-bit-width : goal.eval-returns-else-bit-width
eval-returns-else-bit-width t c =
    let value = value_seen c.args.view.now.terns.now c.args.view.now.leads.now c.args.first in
    let low = c.in-Cat.low.value in
    let high = c.in-Cat.high.value in
    let made : (tree_width low ≡ c.in-Cat.width) × IsMade low × IsMade high = subst IsMade c.in-Cat.is c.requires.made in
    c.eval-else-bit-width.ensures ∙ ap (λ (x : Tree). tern_at (value x) (c.args.bit - c.in-Cat.width)) c.deref-else-bit-width.ensures
    ∙ high_of (value low) (value high) (value c.args.tree.now) c.args.bit c.in-Cat.width (ap value c.in-Cat.is)
    (wide_at c.args.view.now.terns.now c.args.view.now.leads.now c.args.first low made.1 ∙ made.0) c.if-bit-width.false

pub eval-returns-in-Not : goal.eval-returns-in-Not
eval-returns-in-Not t c =
    let value = value_seen c.args.view.now.terns.now c.args.view.now.leads.now c.args.first in
    let inner = c.in-Not.inner.value in
    c.inverse.ensures ∙ ap inverse (c.eval-in-Not.ensures ∙ ap (λ (x : Tree). tern_at (value x) c.args.bit) c.deref-in-Not.ensures)
    ∙ not_at (value inner) (value c.args.tree.now) c.args.bit (ap value c.in-Not.is)
    (long_at c.args.view.now.terns.now c.args.view.now.leads.now c.args.first c.args.tree.now c.args.bit c.requires.made c.requires.within)

pub eval-returns-in-And : goal.eval-returns-in-And
eval-returns-in-And t c =
    let value = value_seen c.args.view.now.terns.now c.args.view.now.leads.now c.args.first in
    let left = c.in-And.left.value in
    let right = c.in-And.right.value in
    let made : (tree_width left ≡ tree_width right) × IsMade left × IsMade right = subst IsMade c.in-And.is c.requires.made in
    let within : c.args.bit < tree_width left = subst (λ (x : Tree). c.args.bit < tree_width x) c.in-And.is c.requires.within in
    let long = operands_long c.args.view.now.terns.now c.args.view.now.leads.now c.args.first left right c.args.bit made.0 made.1 made.2 within in
    c.both.ensures
    ∙ ap₂ both (c.eval-in-And.ensures ∙ ap (λ (x : Tree). tern_at (value x) c.args.bit) c.deref-in-And.ensures)
    (c.eval-in-And-2.ensures ∙ ap (λ (x : Tree). tern_at (value x) c.args.bit) c.deref-in-And-2.ensures)
    ∙ each_of both (value left) (value right) (value c.args.tree.now) c.args.bit (ap value c.in-And.is) long.0 long.1

pub eval-returns-in-Or : goal.eval-returns-in-Or
eval-returns-in-Or t c =
    let value = value_seen c.args.view.now.terns.now c.args.view.now.leads.now c.args.first in
    let left = c.in-Or.left.value in
    let right = c.in-Or.right.value in
    let made : (tree_width left ≡ tree_width right) × IsMade left × IsMade right = subst IsMade c.in-Or.is c.requires.made in
    let within : c.args.bit < tree_width left = subst (λ (x : Tree). c.args.bit < tree_width x) c.in-Or.is c.requires.within in
    let long = operands_long c.args.view.now.terns.now c.args.view.now.leads.now c.args.first left right c.args.bit made.0 made.1 made.2 within in
    c.either.ensures
    ∙ ap₂ either (c.eval-in-Or.ensures ∙ ap (λ (x : Tree). tern_at (value x) c.args.bit) c.deref-in-Or.ensures)
    (c.eval-in-Or-2.ensures ∙ ap (λ (x : Tree). tern_at (value x) c.args.bit) c.deref-in-Or-2.ensures)
    ∙ each_of either (value left) (value right) (value c.args.tree.now) c.args.bit (ap value c.in-Or.is) long.0 long.1

pub eval-returns-in-Xor : goal.eval-returns-in-Xor
eval-returns-in-Xor t c =
    let value = value_seen c.args.view.now.terns.now c.args.view.now.leads.now c.args.first in
    let left = c.in-Xor.left.value in
    let right = c.in-Xor.right.value in
    let made : (tree_width left ≡ tree_width right) × IsMade left × IsMade right = subst IsMade c.in-Xor.is c.requires.made in
    let within : c.args.bit < tree_width left = subst (λ (x : Tree). c.args.bit < tree_width x) c.in-Xor.is c.requires.within in
    let long = operands_long c.args.view.now.terns.now c.args.view.now.leads.now c.args.first left right c.args.bit made.0 made.1 made.2 within in
    c.differs.ensures
    ∙ ap₂ differs (c.eval-in-Xor.ensures ∙ ap (λ (x : Tree). tern_at (value x) c.args.bit) c.deref-in-Xor.ensures)
    (c.eval-in-Xor-2.ensures ∙ ap (λ (x : Tree). tern_at (value x) c.args.bit) c.deref-in-Xor-2.ensures)
    ∙ each_of differs (value left) (value right) (value c.args.tree.now) c.args.bit (ap value c.in-Xor.is) long.0 long.1

pub eval-returns-in-Open : goal.eval-returns-in-Open
eval-returns-in-Open t c =
    let value = value_seen c.args.view.now.terns.now c.args.view.now.leads.now c.args.first in
    let test = c.in-Cond.test.value in
    let left = c.in-Cond.yes.value in
    let right = c.in-Cond.no.value in
    let made : (tree_width test ≡ 1) × (tree_width left ≡ tree_width right) × IsMade test × IsMade left × IsMade right = subst IsMade c.in-Cond.is c.requires.made in
    let within : c.args.bit < tree_width left = subst (λ (x : Tree). c.args.bit < tree_width x) c.in-Cond.is c.requires.within in
    let long = operands_long c.args.view.now.terns.now c.args.view.now.leads.now c.args.first left right c.args.bit made.1 made.3 made.4 within in
    let none : tern_at (value test) 0 ≡ unknown = sym (c.in-Open.ensures ∙ ap (λ (x : Tree). tern_at (value x) 0) c.deref-in-Cond.ensures) in
    c.agreed.ensures
    ∙ ap₂ agreed (c.eval-in-Open.ensures ∙ ap (λ (x : Tree). tern_at (value x) c.args.bit) c.deref-in-Open.ensures)
    (c.eval-in-Open-2.ensures ∙ ap (λ (x : Tree). tern_at (value x) c.args.bit) c.deref-in-Open-2.ensures)
    ∙ one_of_at (tern_at (value test) 0) (value left) (value right) (value c.args.tree.now) c.args.bit (ap value c.in-Cond.is) none long.0 long.1

-- ---- the entry that an index picks

pub picked-overflow_add-table : goal.picked-overflow_add-table
picked-overflow_add-table t c =
    let long = wide_at c.args.view.now.terns.now c.args.view.now.leads.now c.args.first c.args.index.now c.requires.made ∙ c.requires.width in
    omega (
      arith,
      whole_small (seen c.args.view.now.terns.now c.args.view.now.leads.now) (value_seen c.args.view.now.terns.now c.args.view.now.leads.now c.args.first c.args.index.now)
          c.args.width c.args.table c.in-Some.number long c.in-Some.ensures,
      c.requires.table,
      c.requires.few,
    )

pub picked-at-requires-clause-within : goal.picked-at-requires-clause-within
picked-at-requires-clause-within t c =
    let long = wide_at c.args.view.now.terns.now c.args.view.now.leads.now c.args.first c.args.index.now c.requires.made ∙ c.requires.width in
    omega (
      arith,
      whole_small (seen c.args.view.now.terns.now c.args.view.now.leads.now) (value_seen c.args.view.now.terns.now c.args.view.now.leads.now c.args.first c.args.index.now)
          c.args.width c.args.table c.in-Some.number long c.in-Some.ensures,
      c.requires.table,
    )

pub picked-returns-in-Some : goal.picked-returns-in-Some
picked-returns-in-Some t c =
    let long = wide_at c.args.view.now.terns.now c.args.view.now.leads.now c.args.first c.args.index.now c.requires.made ∙ c.requires.width in
    c.at.ensures
    ∙ picked_is (seen c.args.view.now.terns.now c.args.view.now.leads.now) (value_seen c.args.view.now.terns.now c.args.view.now.leads.now c.args.first c.args.index.now)
    c.args.width c.args.table c.in-Some.number long c.in-Some.ensures

-- ---- the bits of an index, and of operands

pub index_bits-loop-place-preserved : goal.index_bits-loop-place-preserved
index_bits-loop-place-preserved t c = record {
  long = length-set c.loop-place.bits c.loop-place.place c.eval.result ∙ c.loop-place.invariant.long;
  so_far =
      set_bits c.loop-place.bits c.loop-place.place c.eval.result (value_seen c.args.view.now.terns.now c.args.view.now.leads.now c.args.first c.args.index.now)
      (omega (arith, c.loop-place.invariant.long, c.loop-place-test.true, c.requires.small)) c.loop-place.invariant.so_far (c.eval.ensures ∙ ap (tern_at (value_seen c.args.view.now.terns.now c.args.view.now.leads.now c.args.first c.args.index.now)) c.from.ensures);
}

pub index_bits-returns : goal.index_bits-returns
index_bits-returns t c =
    kept_are c.loop-place.bits (value_seen c.args.view.now.terns.now c.args.view.now.leads.now c.args.first c.args.index.now) c.args.width
    (omega (arith, c.loop-place.invariant.long, c.requires.small))
    (wide_at c.args.view.now.terns.now c.args.view.now.leads.now c.args.first c.args.index.now c.requires.made ∙ c.requires.width)
    (λ k l. c.loop-place.invariant.so_far k (omega (arith, l, c.loop-place-test.false)))

pub knows-returns : goal.knows-returns
knows-returns t c =
    all_from (value_seen c.args.view.now.terns.now c.args.view.now.leads.now c.args.first c.args.tree.now)
    (λ k l. c.loop-place.invariant k
    (omega (arith, l, c.loop-place-test.false, c.requires.width, wide_at c.args.view.now.terns.now c.args.view.now.leads.now c.args.first c.args.tree.now c.requires.made)))

pub same-loop-place-init : goal.same-loop-place-init
same-loop-place-init t c =
    let left = c.in-Equal.left.value in
    let right = c.in-Equal.right.value in
    let made : (tree_width left ≡ c.in-Equal.width) × (tree_width right ≡ c.in-Equal.width) × IsMade left × IsMade right = subst IsMade c.in-Equal.is c.requires.made in
    let long_left = lent_long c.args.view.now.terns.now c.args.view.now.leads.now c.args.first c.deref-left.result.now left c.in-Equal.width c.deref-left.ensures made.0 made.2 in
    let long_right = lent_long c.args.view.now.terns.now c.args.view.now.leads.now c.args.first c.deref-right.result.now right c.in-Equal.width c.deref-right.ensures made.1 made.3 in
    record {
      low = omega (arith, ap tree_width c.deref-left.ensures, made.0);
      so_far =
          same_none (value_seen c.args.view.now.terns.now c.args.view.now.leads.now c.args.first c.deref-left.result.now)
          (value_seen c.args.view.now.terns.now c.args.view.now.leads.now c.args.first c.deref-right.result.now) c.in-Equal.width long_left long_right;
    }

pub same-loop-place-preserved : goal.same-loop-place-preserved
same-loop-place-preserved t c =
    let value = value_seen c.args.view.now.terns.now c.args.view.now.leads.now c.args.first in
    let left = c.in-Equal.left.value in
    let right = c.in-Equal.right.value in
    let a = c.deref-left.result.now in
    let b = c.deref-right.result.now in
    let made : (tree_width left ≡ c.in-Equal.width) × (tree_width right ≡ c.in-Equal.width) × IsMade left × IsMade right = subst IsMade c.in-Equal.is c.requires.made in
    let long_left = lent_long c.args.view.now.terns.now c.args.view.now.leads.now c.args.first a left c.in-Equal.width c.deref-left.ensures made.0 made.2 in
    let long_right = lent_long c.args.view.now.terns.now c.args.view.now.leads.now c.args.first b right c.in-Equal.width c.deref-right.ensures made.1 made.3 in
    record {
      low = omega (arith, c.loop-place.invariant.low);
      so_far =
          c.both-all.ensures ∙ ap (λ (x : PlainTern). both x (plain_tern c.loop-place.all)) (c.inverse.ensures ∙ ap inverse c.differs-apart.ensures)
          ∙ same_step (value a) (value b) c.loop-place.place (omega (arith, c.loop-place-test.true)) (omega (arith, c.loop-place.invariant.low, ap tree_width c.deref-left.ensures, made.0, long_left))
          (long_left ∙ sym long_right) _ _ _ c.eval.ensures c.eval-in-loop-place.ensures c.loop-place.invariant.so_far;
    }
