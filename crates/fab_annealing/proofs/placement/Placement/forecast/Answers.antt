use Rattle.std.proofs.Common.{None, length, ◌∙◌, refl, arith}
use Rattle.std.proofs.lemmas.List.{get_or_default}
use Rattle.std.proofs.lemmas.Grind.{get_or_default_zero}
use Rattle.fab_annealing.proofs.Laying.{other_inside}
use Rattle.fab_annealing.proofs.Forecasting.{foreseen}
use Rattle.fab_annealing.proofs.placement.Placement.forecast.Goals as goal

pub forecast_item-here-requires-clause-from : goal.forecast_item-here-requires-clause-from
forecast_item-here-requires-clause-from c =
    let old = c.args.self.now in
    let from_is = c.index-from.ensures ∙ get_or_default_zero old.sites.items c.args.item c.index-from.result.now c.requires.item in
    omega (arith, from_is, c.requires.kept.laid.inside c.args.item 0 c.requires.item)

pub forecast_other-there-requires-clause-other : goal.forecast_other-there-requires-clause-other
forecast_other-there-requires-clause-other c =
    let old = c.args.self.now in
    let is = c.index.ensures ∙ get_or_default old.items.items c.args.site c.index.result.now None
    (omega (arith, c.requires.site, c.requires.kept.standing.count)) in
    other_inside c.args.board.now old.sites.items old.items.items c.args.site c.index.result.now (length old.sites.items) c.requires.kept.standing is refl

pub forecast_other-there-requires-clause-to : goal.forecast_other-there-requires-clause-to
forecast_other-there-requires-clause-to c =
    let old = c.args.self.now in
    let from_is = c.index-from.ensures ∙ get_or_default_zero old.sites.items c.args.item c.index-from.result.now c.requires.item in
    omega (arith, from_is, c.requires.kept.laid.inside c.args.item 0 c.requires.item)

pub returns : goal.returns
returns c =
    let old = c.args.self.now in
    let from_is = c.index-from.ensures ∙ get_or_default_zero old.sites.items c.args.item c.index-from.result.now c.requires.item in
    let is = c.index.ensures ∙ get_or_default old.items.items c.args.site c.index.result.now None
    (omega (arith, c.requires.site, c.requires.kept.standing.count)) in
    foreseen c.args.board.now old c.args.ties.now c.args.item c.args.site c.index-from.result.now c.index.result.now c.forecast_item-here.result
    c.forecast_other-there.result c.and.result c.requires.board c.requires.kept c.requires.ties c.requires.item from_is is
    c.forecast_item-here.ensures c.forecast_other-there.ensures c.and.ensures.before c.and.ensures.after
