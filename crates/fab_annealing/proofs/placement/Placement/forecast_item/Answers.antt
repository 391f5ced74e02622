use Rattle.std.proofs.Common.{◌<◌, ℕ, List, length, sym, subst, arith}
use Rattle.std.specs.List.{All}
use Rattle.fab_annealing.specs.Measured.{item_count}
use Rattle.fab_annealing.specs.inner.Tied.{AreDistinct, ties_of}
use Rattle.fab_annealing.proofs.Forecasting.{across_low, down_low, forecast_both}
use Rattle.fab_annealing.proofs.Tying.{ties_inside}
use Rattle.fab_annealing.proofs.placement.Placement.forecast_item.Goals as goal

pub at-nets-requires : goal.at-nets-requires
at-nets-requires c = omega (arith, c.requires.item, c.requires.kept.laid.items, c.requires.ties.count)

pub forecast-across-requires-clause-inside : goal.forecast-across-requires-clause-inside
forecast-across-requires-clause-inside c =
    let inside : c.args.item < item_count c.args.board.now.nets = omega (arith, c.requires.item, c.requires.kept.laid.items) in
    subst (λ (ns : List ℕ). All (λ net. net < length c.args.self.now.across.spans.items) ns) (sym c.at-nets.ensures)
    (ties_inside c.args.board.now.nets c.args.item (ties_of c.args.ties.now c.args.item) (length c.args.self.now.across.spans.items) c.requires.board.good_nets
    inside c.requires.kept.laid.across.shaped.spans_count (c.requires.ties.each c.args.item inside))

pub forecast-across-requires-clause-distinct : goal.forecast-across-requires-clause-distinct
forecast-across-requires-clause-distinct c =
    let inside : c.args.item < item_count c.args.board.now.nets = omega (arith, c.requires.item, c.requires.kept.laid.items) in
    subst (λ (ns : List ℕ). AreDistinct ns) (sym c.at-nets.ensures) (c.requires.ties.each c.args.item inside).distinct

pub forecast-across-requires-clause-few : goal.forecast-across-requires-clause-few
forecast-across-requires-clause-few c = across_low c.args.board.now c.args.self.now c.requires.board c.requires.kept

pub forecast-down-requires-clause-inside : goal.forecast-down-requires-clause-inside
forecast-down-requires-clause-inside c =
    let inside : c.args.item < item_count c.args.board.now.nets = omega (arith, c.requires.item, c.requires.kept.laid.items) in
    subst (λ (ns : List ℕ). All (λ net. net < length c.args.self.now.down.spans.items) ns) (sym c.at-nets.ensures)
    (ties_inside c.args.board.now.nets c.args.item (ties_of c.args.ties.now c.args.item) (length c.args.self.now.down.spans.items) c.requires.board.good_nets
    inside c.requires.kept.laid.down.shaped.spans_count (c.requires.ties.each c.args.item inside))

pub forecast-down-requires-clause-distinct : goal.forecast-down-requires-clause-distinct
forecast-down-requires-clause-distinct c =
    let inside : c.args.item < item_count c.args.board.now.nets = omega (arith, c.requires.item, c.requires.kept.laid.items) in
    subst (λ (ns : List ℕ). AreDistinct ns) (sym c.at-nets.ensures) (c.requires.ties.each c.args.item inside).distinct

pub forecast-down-requires-clause-few : goal.forecast-down-requires-clause-few
forecast-down-requires-clause-few c = down_low c.args.board.now c.args.self.now c.requires.board c.requires.kept

pub returns : goal.returns
returns c =
    forecast_both c.args.board.now c.args.self.now c.at-nets.result.now (ties_of c.args.ties.now c.args.item) c.args.from c.args.to c.column.result
    c.column-2.result c.row.result c.row-2.result c.forecast-across.result c.forecast-down.result c.and.result
    c.requires.board c.requires.kept c.at-nets.ensures c.column.ensures.value c.column-2.ensures.value c.row.ensures.value c.row-2.ensures.value
    c.forecast-across.ensures c.forecast-down.ensures c.and.ensures.before c.and.ensures.after
