use Rattle.std.proofs.Common.{◌∙◌, sym}
use Rattle.fab_demand.specs.Search.{asked_of}
use Rattle.fab_demand.proofs.Asking.{asks_both, asks_same}
use Rattle.fab_demand.proofs.search.Search.ask_rest.Goals as goal

pub loop-next-init : goal.loop-next-init
loop-next-init c = record { searching = c.requires.searching; resting = c.requires.resting; more = asks_same (asked_of c.args.self.now) }

pub ask_number-requires-clause-points : goal.ask_number-requires-clause-points
ask_number-requires-clause-points c = c.requires.points ∙ sym c.loop-next.invariant.more.long

pub ask_number-requires-clause-given : goal.ask_number-requires-clause-given
ask_number-requires-clause-given c = c.requires.given ∙ sym c.loop-next.invariant.more.long

pub loop-next-preserved : goal.loop-next-preserved
loop-next-preserved c = record {
  searching = c.ask_number.ensures.searching;
  resting = c.ask_number.ensures.resting;
  more = asks_both (asked_of c.args.self.now) (asked_of c.loop-next.self) (asked_of c.ask_number.new.self) c.loop-next.invariant.more c.ask_number.ensures.more;
}
