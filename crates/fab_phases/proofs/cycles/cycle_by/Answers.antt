use Rattle.std.proofs.Common.{◌≡◌, length, sym, ap, ◌∙◌, arith}
use Rattle.fab_phases.proofs.Running.{cycle_goes_on, cycle_shows, differs_none, outputs_shown}
use Rattle.fab_phases.proofs.cycles.cycle_by.Goals as goal

pub show-requires-clause-outs : goal.show-requires-clause-outs
show-requires-clause-outs c place point e =
    let same : length c.settle_by.new.self.leads ≡ length c.args.demand.now.leads = ap length (c.settle_by.ensures.stays c.args.demand.now (differs_none c.args.demand.now)).leads in
    let bound = c.requires.outs place point e in
    omega (arith, bound)

pub tick-requires-clause-points : goal.tick-requires-clause-points
tick-requires-clause-points c = c.requires.points ∙ sym (ap length (c.settle_by.ensures.stays c.args.demand.now (differs_none c.args.demand.now)).leads)

pub tick-requires-clause-given : goal.tick-requires-clause-given
tick-requires-clause-given c =
    let same : length c.settle_by.new.self.leads ≡ length c.args.demand.now.leads = ap length (c.settle_by.ensures.stays c.args.demand.now (differs_none c.args.demand.now)).leads in
    omega arith

pub returns-clause-points : goal.returns-clause-points
returns-clause-points c = ap length (c.settle_by.ensures.stays c.args.demand.now (differs_none c.args.demand.now)).leads

pub returns-clause-shows : goal.returns-clause-shows
returns-clause-shows c held later t at fed least =
    c.show.ensures
    ∙ outputs_shown c.args.network.now c.args.ins.now c.args.outs.now c.args.demand.now c.settle_by.new.self t at.asked_for
    (cycle_shows c.args.network.now c.args.ins.now c.args.outs.now c.args.demand.now c.settle_by.new.self c.args.given.now c.feed.new.given c.args.inputs.now held later t at
    c.requires.inputs c.feed.ensures fed c.settle_by.ensures.shows least)

pub returns-clause-ticks : goal.returns-clause-ticks
returns-clause-ticks c held later t next at fed least ticked =
    cycle_goes_on c.kept_again.ensures c.args.network.now c.args.ins.now c.args.outs.now c.args.demand.now c.settle_by.new.self c.args.given.now c.feed.new.given c.tick.new.given
    c.args.inputs.now held later t next at c.requires.inputs c.requires.points c.feed.ensures fed c.settle_by.ensures.stays c.settle_by.ensures.shows least c.tick.ensures ticked
