use Rattle.std.proofs.Common.{◌≡◌, ◌≤◌, false, Option, ℕ, length, sym, ap, ◌∙◌, subst, arith}
use Rattle.std.proofs.lemmas.List.{length-map}
use Rattle.fab_bits.specs.Bits.{other_bit}
use Rattle.fab_values.proofs.Evaluated.{borrow_at, xor_is}
use Rattle.fab_systems_laws.specs.Ternary.{known}
use Rattle.fab_ternary.specs.Terns.{is_one}
use Rattle.fab_compiled.specs.Evaluation.{value_seen}
use Rattle.fab_compiled.proofs.Evaluated.{wide_at}
use Rattle.fab_stepping.specs.inner.Known.{bits_seen, IsLastApart}
use Rattle.fab_stepping.proofs.KnownBits.{borrow_apart, borrow_none, difference_is}
use Rattle.fab_stepping.proofs.known_bits.difference_bit.Goals as goal
use Rattle.fab_stepping.proofs.known_bits.difference_bit.Goals.{in-Some, in-None}

pub returns : goal.returns
returns c =
    let r = c.requires in
    let terns = c.args.view.now.terns.now in
    let leads = c.args.view.now.leads.now in
    let first = c.args.first in
    let left = c.args.left.now in
    let right = c.args.right.now in
    let xs = bits_seen terns leads first left in
    let ys = bits_seen terns leads first right in
    let long : length xs ≡ c.args.width = length-map (value_seen terns leads first left) is_one ∙ wide_at terns leads first left r.left_made ∙ r.left_wide in
    let other : length ys ≡ c.args.width = length-map (value_seen terns leads first right) is_one ∙ wide_at terns leads first right r.right_made ∙ r.right_wide in
    let inside : c.args.bit ≤ length xs = omega (arith, r.within, long) in
    let borrow = c.match-last_apart.borrow in
    let borrows : borrow ≡ borrow_at false xs ys c.args.bit =
    elim c.match-last_apart.branch [
      | in-Some w ↦ w.borrow-is ∙ w.is_one-borrow.ensures
          ∙ sym (borrow_apart xs ys (long ∙ sym other) c.args.bit w.in-Some.place inside (subst (λ (o : Option ℕ). IsLastApart xs ys c.args.bit o) w.in-Some.is c.last_apart.ensures))
      | in-None w ↦ w.borrow-is
          ∙ sym (borrow_none xs ys (long ∙ sym other) c.args.bit inside (subst (λ (o : Option ℕ). IsLastApart xs ys c.args.bit o) w.in-None.is c.last_apart.ensures))
    ] in
    ap known (xor_is _ _ ∙ ap (λ x. other_bit x borrow) (xor_is _ _))
    ∙ difference_is terns leads r.own r.known first r.begins left right c.args.width r.left_made r.right_made r.left_wide r.right_wide r.left_inside r.right_inside c.args.bit
    r.within borrow c.is_one.result c.is_one-2.result borrows c.is_one.ensures c.is_one-2.ensures
