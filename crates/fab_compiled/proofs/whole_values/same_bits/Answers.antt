use Rattle.std.proofs.Common.{◌≡◌, ◌-◌, drop, length, sym, ap, ◌∙◌, arith}
use Rattle.std.proofs.lemmas.List.{length-map}
use Rattle.fab_systems_laws.specs.Ternary.{Tern as PlainTern}
use Rattle.fab_solutions_laws.specs.fab_ternary_laws_Operators.{both as both_of, inverse as inverse_of, same_terns}
use Rattle.fab_ternary.specs.Terns.{plain_tern}
use Rattle.fab_compiled.proofs.Evaluated.{same_none, same_step}
use Rattle.fab_compiled.proofs.Written.{plain, read}
use Rattle.fab_compiled.proofs.whole_values.same_bits.Goals as goal

pub loop-place-init : goal.loop-place-init
loop-place-init c = record {
  low = omega arith;
  so_far =
      same_none (plain c.args.left.now) (plain c.args.right.now) (length c.args.left.now) (length-map c.args.left.now plain_tern)
      (length-map c.args.right.now plain_tern ∙ sym c.requires);
}

pub loop-place-preserved : goal.loop-place-preserved
loop-place-preserved c =
    let left = plain c.args.left.now in
    let right = plain c.args.right.now in
    let place = c.loop-place.place in
    let long : length left ≡ length c.args.left.now = length-map c.args.left.now plain_tern in
    record {
      low = omega (arith, c.loop-place.invariant.low);
      so_far =
          c.both-all.ensures ∙ ap (λ (x : PlainTern). both_of x (plain_tern c.loop-place.all)) (c.inverse.ensures ∙ ap inverse_of c.differs-apart.ensures)
          ∙ same_step left right place c.loop-place-test.true (omega (arith, c.loop-place.invariant.low, long))
          (long ∙ c.requires ∙ sym (length-map c.args.right.now plain_tern)) _ _ _
          (read c.args.left.now (place - 1)) (read c.args.right.now (place - 1)) c.loop-place.invariant.so_far;
    }

pub returns : goal.returns
returns c =
    let done : c.loop-place.place ≡ 0 = omega (arith, c.loop-place-test.false) in
    c.loop-place.invariant.so_far ∙ ap (λ n. same_terns (drop n (plain c.args.left.now)) (drop n (plain c.args.right.now))) done
