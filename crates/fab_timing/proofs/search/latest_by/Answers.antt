use Rattle.fab_timing.proofs.Settling.{short_here}
use Rattle.fab_timing.proofs.search.latest_by.Goals as goal

pub latest_from-requires-clause-steps : goal.latest_from-requires-clause-steps
latest_from-requires-clause-steps c =
    let steps = c.args.steps.now in
    short_here steps.starts.items steps.before.items _ c.args.node c.index-2.result.now c.deref.result.now c.requires.len c.requires.tables.lengths c.requires.tables.short c.requires.within c.index-2.ensures c.deref.ensures.value
