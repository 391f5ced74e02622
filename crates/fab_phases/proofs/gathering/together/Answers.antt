use Rattle.std.proofs.Common.{sym, ◌∙◌, arith, get_or}
use Rattle.std.proofs.lemmas.Bool.{false≢true}
use Rattle.std.proofs.lemmas.Option.{slice_get-get_or, slice_get_within}
use Rattle.fab_phases.proofs.Gathered.{first_apart, no_gated, together_more}
use Rattle.fab_phases.proofs.gathering.together.Goals as goal

pub open_together-requires-clause-one : goal.open_together-requires-clause-one
open_together-requires-clause-one c =
    (c.requires.latches.1 c.loop-place.place (get_or c.args.latches.now c.loop-place.place no_gated)
    (slice_get-get_or c.args.latches.now c.loop-place.place no_gated c.loop-place-test.true)).gate

pub returns-then-not-open_together : goal.returns-then-not-open_together
returns-then-not-open_together c =
    let test = c.loop-place-test.true in
    record {
      within = omega arith;
      front = c.loop-place.invariant;
      first = λ gated e same.
          first_apart c.args.latches.now c.loop-place.place (get_or c.args.latches.now c.loop-place.place no_gated) gated c.args.gate
          (slice_get-get_or c.args.latches.now c.loop-place.place no_gated test) e same
          (λ here. false≢true (sym c.if-not-open_together.true ∙ c.open_together.ensures.same here));
    }

pub loop-place-preserved : goal.loop-place-preserved
loop-place-preserved c =
    together_more c.args.network.now c.args.demand.now c.args.gate c.args.latches.now c.loop-place.place (get_or c.args.latches.now c.loop-place.place no_gated)
    (slice_get-get_or c.args.latches.now c.loop-place.place no_gated c.loop-place-test.true) (c.open_together.ensures.together c.if-not-open_together.false) c.loop-place.invariant

pub returns : goal.returns
returns c = record {
  within = omega arith;
  front = λ place gated less e. let inside = slice_get_within c.args.latches.now place gated e in c.loop-place.invariant place gated (omega arith) e;
  first = λ gated e same. slice_get_within c.args.latches.now 0 gated e;
}
