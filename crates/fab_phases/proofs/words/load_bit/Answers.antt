use Rattle.std.proofs.Common.{◌+◌, [], ◌∷◌, refl, arith}
use Rattle.std.proofs.lemmas.Option.{slice_get_within}
use Rattle.fab_network.specs.declared.network.Drive.TheVariants.{Given}
use Rattle.fab_network.specs.Passes.{kept_tern}
use Rattle.fab_phases.proofs.Stepping.{step_of, still_loading}
use Rattle.fab_phases.proofs.words.load_bit.Goals as goal

pub offer_bit-requires : goal.offer_bit-requires
offer_bit-requires c =
    let at = c.requires.loading.1 in
    let within = slice_get_within c.args.network.now.drives.items (c.args.point + 0) Given (at.inputs 0 (omega arith)).0 in
    omega (arith, within)

pub tick-requires-clause-loading : goal.tick-requires-clause-loading
tick-requires-clause-loading c =
    let loads = c.requires.loading.0 in (
      loads,
      c.args.point,
      1,
      still_loading c.args.network.now c.args.loading.now loads c.args.point 1 (c.args.bit ∷ []) c.args.demand.now c.args.given.now c.offer_bit.new.given refl c.offer_bit.ensures
          c.requires.loading.1,
    )

pub returns-clause-loading : goal.returns-clause-loading
returns-clause-loading c loads at =
    c.tick.ensures.loading loads c.args.point 1
    (still_loading c.args.network.now c.args.loading.now loads c.args.point 1 (c.args.bit ∷ []) c.args.demand.now c.args.given.now c.offer_bit.new.given refl c.offer_bit.ensures at)

pub returns-clause-step : goal.returns-clause-step
returns-clause-step c loads at =
    step_of c.args.network.now loads c.args.point (c.args.bit ∷ []) (kept_tern c.args.given.now) (kept_tern c.offer_bit.new.given) (kept_tern c.tick.new.given) c.offer_bit.ensures
    (c.tick.ensures.ticks loads c.args.point 1
    (still_loading c.args.network.now c.args.loading.now loads c.args.point 1 (c.args.bit ∷ []) c.args.demand.now c.args.given.now c.offer_bit.new.given refl c.offer_bit.ensures at))
