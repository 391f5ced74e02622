use Rattle.std.proofs.Common.{◌+◌, arith}
use Rattle.std.proofs.lemmas.Option.{slice_get_within}
use Rattle.fab_network.specs.declared.network.Drive.TheVariants.{Given}
use Rattle.fab_network.specs.Passes.{kept_tern}
use Rattle.fab_phases.specs.Words.{word_bits}
use Rattle.fab_phases.proofs.Offering.{word_long}
use Rattle.fab_phases.proofs.Stepping.{step_of, still_loading}
use Rattle.fab_phases.proofs.Watching.{watching_offered}
use Rattle.fab_phases.proofs.words.load_word.Goals as goal

pub offer-requires : goal.offer-requires
offer-requires c =
    let at = c.requires.loading.1 in
    let last = slice_get_within c.args.network.now.drives.items (c.args.first + 31) Given (at.inputs 31 (omega arith)).0 in
    omega (arith, last)

pub tick-requires-clause-loading : goal.tick-requires-clause-loading
tick-requires-clause-loading c =
    let loads = c.requires.loading.0 in (
      loads,
      c.args.first,
      32,
      still_loading c.args.network.now c.args.loading.now loads c.args.first 32 (word_bits c.args.word) c.args.demand.now c.args.given.now c.offer.new.given
          (word_long c.args.word) c.offer.ensures c.requires.loading.1,
    )

pub tick_watched-requires-clause-loading : goal.tick_watched-requires-clause-loading
tick_watched-requires-clause-loading c =
    let loads = c.requires.loading.0 in (
      loads,
      c.args.first,
      32,
      still_loading c.args.network.now c.args.loading.now loads c.args.first 32 (word_bits c.args.word) c.args.demand.now c.args.given.now c.offer.new.given
          (word_long c.args.word) c.offer.ensures c.requires.loading.1,
    )

pub returns-in-Some-clause-loading : goal.returns-in-Some-clause-loading
returns-in-Some-clause-loading c loads at =
    c.tick_watched.ensures.loading loads c.args.first 32
    (still_loading c.args.network.now c.args.loading.now loads c.args.first 32 (word_bits c.args.word) c.args.demand.now c.args.given.now c.offer.new.given
    (word_long c.args.word) c.offer.ensures at)

pub returns-in-Some-clause-step : goal.returns-in-Some-clause-step
returns-in-Some-clause-step c loads at =
    step_of c.args.network.now loads c.args.first (word_bits c.args.word) (kept_tern c.args.given.now) (kept_tern c.offer.new.given) (kept_tern c.tick_watched.new.given) c.offer.ensures
    (c.tick_watched.ensures.ticks loads c.args.first 32
    (still_loading c.args.network.now c.args.loading.now loads c.args.first 32 (word_bits c.args.word) c.args.demand.now c.args.given.now c.offer.new.given
    (word_long c.args.word) c.offer.ensures at))

pub returns-in-None-clause-loading : goal.returns-in-None-clause-loading
returns-in-None-clause-loading c loads at =
    c.tick.ensures.loading loads c.args.first 32
    (still_loading c.args.network.now c.args.loading.now loads c.args.first 32 (word_bits c.args.word) c.args.demand.now c.args.given.now c.offer.new.given
    (word_long c.args.word) c.offer.ensures at)

pub returns-in-None-clause-step : goal.returns-in-None-clause-step
returns-in-None-clause-step c loads at =
    step_of c.args.network.now loads c.args.first (word_bits c.args.word) (kept_tern c.args.given.now) (kept_tern c.offer.new.given) (kept_tern c.tick.new.given) c.offer.ensures
    (c.tick.ensures.ticks loads c.args.first 32
    (still_loading c.args.network.now c.args.loading.now loads c.args.first 32 (word_bits c.args.word) c.args.demand.now c.args.given.now c.offer.new.given
    (word_long c.args.word) c.offer.ensures at))

pub tick_watched-requires-clause-watching : goal.tick_watched-requires-clause-watching
tick_watched-requires-clause-watching c =
    watching_offered c.args.network.now c.args.loading.now c.args.demand.now c.args.first c.args.word c.args.given.now c.offer.new.given c.in-Some.watching
    c.note_points.new.self (rw c.in-Some.is at c.requires.watching) c.offer.ensures (c.note_points.ensures.changes c.args.network.now c.args.demand.now)
    c.note_points.ensures.waits c.note_points.ensures.more
