use Rattle.std.proofs.Common.{◌∙◌, ◌-◌, ◌/◌, ◌^◌, Bool, List, [], ◌∷◌, ap, bit_and, nat_eq, subst, sym, take, arith}
use Rattle.std.proofs.lemmas.Nat.Bits.{shr_and_one}
use Rattle.fab_meaning.specs.Loading.{single_bits}
use Rattle.fab_network.specs.Passes.{kept_tern}
use Rattle.fab_phases.specs.Words.{AreLoadSteps, word_bits}
use Rattle.fab_phases.proofs.Offering.{all_bits_taken, one_bit_more}
use Rattle.fab_phases.proofs.Stepping.{steps_more}
use Rattle.fab_phases.proofs.words.load_word_bits.Goals as goal

pub loop-place-preserved : goal.loop-place-preserved
loop-place-preserved c = record {
  points = c.load_bit.ensures.points ∙ c.loop-place.invariant.points;
  loading = λ loads at. c.load_bit.ensures.loading loads (c.loop-place.invariant.loading loads at);
  steps = λ loads at.
      let word = c.args.word in
      let place = c.loop-place.place in
      let bit : Bool = nat_eq (bit_and (word / 2 ^ (31 - place)) 1) 1 in
      subst (λ (pieces : List (List Bool)). AreLoadSteps c.args.network.now loads c.args.point pieces (kept_tern c.args.given.now) (kept_tern c.load_bit.new.given))
      (sym (one_bit_more word place bit c.loop-place-test.true (ap (λ n. nat_eq n 1) (shr_and_one word (31 - place)))))
      (steps_more c.args.network.now loads c.args.point (take place (single_bits (word_bits word))) (bit ∷ []) (kept_tern c.args.given.now) (kept_tern c.loop-place.given)
      (kept_tern c.load_bit.new.given) (c.loop-place.invariant.steps loads at) (c.load_bit.ensures.step loads (c.loop-place.invariant.loading loads at)));
}

pub returns-clause-steps : goal.returns-clause-steps
returns-clause-steps c loads at =
    subst (λ (pieces : List (List Bool)). AreLoadSteps c.args.network.now loads c.args.point pieces (kept_tern c.args.given.now) (kept_tern c.loop-place.given))
    (all_bits_taken c.args.word c.loop-place.place (omega arith)) (c.loop-place.invariant.steps loads at)
