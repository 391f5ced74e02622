use Rattle.fab_timing.proofs.Settling.{short_here}
use Rattle.fab_timing.proofs.search.unsettled_before.Goals as goal

pub unsettled_in-requires : goal.unsettled_in-requires
unsettled_in-requires c =
    let steps = c.args.steps.now in
    short_here steps.starts.items steps.before.items _ c.args.node c.index.result.now c.deref.result.now c.requires.len c.requires.tables.lengths c.requires.tables.short c.requires.within c.index.ensures c.deref.ensures.value
