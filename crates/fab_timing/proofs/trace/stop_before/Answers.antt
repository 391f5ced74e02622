use Rattle.std.proofs.Common.{◌∙◌, ◌≡◌, ◌<◌, length, sym, arith}
use Rattle.fab_timing.specs.inner.Tables.{sum_at, before_in}
use Rattle.fab_timing.proofs.Settling.{short_here, group_read}
use Rattle.fab_timing.proofs.Trails.{summed_inside, source_inside, stop_is, stop_from}
use Rattle.fab_timing.proofs.trace.stop_before.Goals as goal

pub source_of-requires-clause-steps : goal.source_of-requires-clause-steps
source_of-requires-clause-steps c =
    let steps = c.args.steps.now in
    short_here steps.starts.items steps.before.items _ c.args.node c.index.result.now c.deref.result.now c.requires.len c.requires.tables.lengths c.requires.tables.short
    (summed_inside c.args.sums.now c.args.node c.args.sum c.requires.here) c.index.ensures c.deref.ensures.value

pub stop_at-requires : goal.stop_at-requires
stop_at-requires c =
    let steps = c.args.steps.now in
    let short = short_here steps.starts.items steps.before.items (length c.args.sums.now) c.args.node c.index.result.now c.deref.result.now c.requires.len c.requires.tables.lengths c.requires.tables.short
    (summed_inside c.args.sums.now c.args.node c.args.sum c.requires.here) c.index.ensures c.deref.ensures.value in
    source_inside (sum_at c.args.sums.now) c.deref.result.now (length c.args.sums.now) c.args.sum c.in-Some.from short (sym c.source_of.ensures ∙ c.in-Some.is)

pub returns-in-None : goal.returns-in-None
returns-in-None c =
    let steps = c.args.steps.now in
    let within : c.args.node < length steps.before.items = omega (arith, summed_inside c.args.sums.now c.args.node c.args.sum c.requires.here, c.requires.len, c.requires.tables.lengths) in
    let before_is : c.deref.result.now ≡ before_in steps.before.items c.args.node = c.deref.ensures.value ∙ group_read steps.before.items c.args.node c.index.result.now within c.index.ensures in
    stop_is steps c.args.sums.now c.args.node c.args.sum c.deref.result.now c.source_of.result c.requires.sums c.requires.here before_is c.source_of.ensures c.in-None.is

pub returns-in-Some : goal.returns-in-Some
returns-in-Some c =
    let steps = c.args.steps.now in
    let within : c.args.node < length steps.before.items = omega (arith, summed_inside c.args.sums.now c.args.node c.args.sum c.requires.here, c.requires.len, c.requires.tables.lengths) in
    let before_is : c.deref.result.now ≡ before_in steps.before.items c.args.node = c.deref.ensures.value ∙ group_read steps.before.items c.args.node c.index.result.now within c.index.ensures in
    stop_from steps c.args.sums.now c.args.node c.args.sum c.in-Some.from c.deref.result.now c.source_of.result c.stop_at.result before_is c.source_of.ensures c.in-Some.is c.stop_at.ensures
