use Rattle.std.proofs.Common.{◌≡◌, ◌+◌, ◌<◌, false, length, refl, sym, ap, ◌∙◌, arith}
use Rattle.std.proofs.lemmas.List.{length-map}
use Rattle.fab_bits.specs.Bits.{other_bit}
use Rattle.fab_syntax.specs.declared.tree.Op.TheVariants as ops
use Rattle.fab_systems_laws.specs.Ternary.{known}
use Rattle.fab_solutions_laws.specs.fab_meaning_Value.{bit_at}
use Rattle.fab_solutions_laws.specs.fab_ternary_laws_Operators.{tern_operated}
use Rattle.fab_values.proofs.Evaluated.{borrow_at, borrowed, borrow_more, taken, kept, xor_is}
use Rattle.fab_ternary.specs.Terns.{plain_tern, is_one}
use Rattle.fab_compiled.specs.Evaluation.{all_known, known_bits}
use Rattle.fab_compiled.proofs.Bits.{one_at}
use Rattle.fab_compiled.proofs.Evaluated.{minus_known}
use Rattle.fab_compiled.proofs.Lengths.{length_minus}
use Rattle.fab_compiled.proofs.Written.{plain, none_done, one_done, all_done, read, left_of, right_of}
use Rattle.fab_compiled.proofs.whole_values.borrow_along.Goals as goal
use Rattle.fab_compiled.proofs.whole_values.borrow_along.Goals.{then-minuend-subtrahend, else-minuend-subtrahend}

pub loop-place-init : goal.loop-place-init
loop-place-init c = record { borrows = refl; part = none_done (tern_operated ops.Minus (plain c.args.left.now) (plain c.args.right.now)) (plain c.args.left.now) }

pub loop-place-preserved : goal.loop-place-preserved
loop-place-preserved c =
    let old = plain c.args.left.now in
    let right = plain c.args.right.now in
    let xs = known_bits old in
    let ys = known_bits right in
    let place = c.loop-place.place in
    let long : length old ≡ length c.args.left.now = length-map c.args.left.now plain_tern in
    let within : place < length old = omega (arith, c.loop-place-test.true, long) in
    let same : length old ≡ length right = long ∙ c.requires.same ∙ sym (length-map c.args.right.now plain_tern) in
    let within_xs : place < length xs = omega (arith, within, length-map old is_one) in
    let same_xs : length xs ≡ length ys = length-map old is_one ∙ same ∙ sym (length-map right is_one) in
    let minuend : c.is_yes-minuend.result ≡ bit_at xs place =
    c.is_yes-minuend.ensures ∙ ap is_one (read c.loop-place.left place ∙ c.loop-place.invariant.part.after place (omega arith)) ∙ one_at old place in
    let subtrahend : c.is_yes-subtrahend.result ≡ bit_at ys place = c.is_yes-subtrahend.ensures ∙ ap is_one (read c.args.right.now place) ∙ one_at right place in
    let here : borrowed c.is_yes-minuend.result c.is_yes-subtrahend.result c.loop-place.borrow ≡ borrow_at false xs ys (place + 1) =
    (λ j. borrowed (minuend j) (subtrahend j) (c.loop-place.invariant.borrows j)) ∙ sym (borrow_more false xs ys place within_xs same_xs) in
    record {
      borrows = elim c.if-minuend-subtrahend.branch [
        | then-minuend-subtrahend w ↦ w.borrow-is ∙ taken _ _ c.loop-place.borrow w.if-minuend-subtrahend.true ∙ here
        | else-minuend-subtrahend w ↦ w.borrow-is ∙ kept _ _ c.loop-place.borrow w.if-minuend-subtrahend.false ∙ here
      ];
      part = one_done place (tern_operated ops.Minus old right) old c.loop-place.left c.known.result c.loop-place.invariant.part
          (omega (arith, c.loop-place-test.true, c.loop-place.auto.left))
          (c.known.ensures
          ∙ ap known (xor_is _ _ ∙ ap (λ x. other_bit x c.loop-place.borrow) (xor_is _ _) ∙ (λ j. other_bit (other_bit (minuend j) (subtrahend j)) (c.loop-place.invariant.borrows j)))
          ∙ minus_known old right place within same (left_of (all_known old) (all_known right) c.requires.known) (right_of (all_known old) (all_known right) c.requires.known));
    }

pub returns : goal.returns
returns c =
    let old = plain c.args.left.now in
    let right = plain c.args.right.now in
    all_done c.loop-place.place (tern_operated ops.Minus old right) old (plain c.loop-place.left) c.loop-place.invariant.part
    (omega (arith, c.loop-place-test.false, length-map c.args.left.now plain_tern)) (length_minus old right)
