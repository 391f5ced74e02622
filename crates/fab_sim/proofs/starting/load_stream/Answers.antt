use Rattle.std.proofs.Common.{map, subst, sym}
use Rattle.fab_meaning.specs.Loading.{offered_at}
use Rattle.fab_network.specs.Passes.{kept_tern}
use Rattle.fab_phases.specs.Words.{AreLoadSteps, IsLoadingAt, word_bits}
use Rattle.fab_state_points.specs.Standing.{data_width, first_data}
use Rattle.fab_state_points.specs.declared.points.DataPoints.{DataPoints}
use Rattle.fab_sim.proofs.starting.load_stream.Goals as goal

pub load_bits-requires-clause-loading : goal.load_bits-requires-clause-loading
load_bits-requires-clause-loading c = (
  c.requires.loading.0,
  subst (λ (carrier : DataPoints). IsLoadingAt c.args.network.now c.args.loading.now c.requires.loading.0 (first_data carrier) (data_width carrier) c.args.demand.now c.args.given.now)
      c.in-Bit.is c.requires.loading.1,
)

pub load_words-requires-clause-loading : goal.load_words-requires-clause-loading
load_words-requires-clause-loading c = (
  c.requires.loading.0,
  subst (λ (carrier : DataPoints). IsLoadingAt c.args.network.now c.args.loading.now c.requires.loading.0 (first_data carrier) (data_width carrier) c.args.demand.now c.args.given.now)
      c.in-Word.is c.requires.loading.1,
)

pub returns-in-Bit-clause-steps : goal.returns-in-Bit-clause-steps
returns-in-Bit-clause-steps c loads at =
    subst (λ (carrier : DataPoints). AreLoadSteps c.args.network.now loads (first_data carrier) (offered_at (data_width carrier) (map word_bits c.args.words.now))
    (kept_tern c.args.given.now) (kept_tern c.load_bits.new.given)) (sym c.in-Bit.is)
    (c.load_bits.ensures.steps loads
    (subst (λ (carrier : DataPoints). IsLoadingAt c.args.network.now c.args.loading.now loads (first_data carrier) (data_width carrier) c.args.demand.now c.args.given.now) c.in-Bit.is at))

pub returns-in-Word-clause-steps : goal.returns-in-Word-clause-steps
returns-in-Word-clause-steps c loads at =
    subst (λ (carrier : DataPoints). AreLoadSteps c.args.network.now loads (first_data carrier) (offered_at (data_width carrier) (map word_bits c.args.words.now))
    (kept_tern c.args.given.now) (kept_tern c.load_words.new.given)) (sym c.in-Word.is)
    (c.load_words.ensures.steps loads
    (subst (λ (carrier : DataPoints). IsLoadingAt c.args.network.now c.args.loading.now loads (first_data carrier) (data_width carrier) c.args.demand.now c.args.given.now) c.in-Word.is at))
