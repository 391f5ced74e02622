use Rattle.std.proofs.Common.{sym, ◌∙◌}
use Rattle.fab_demand.specs.Asked.{AsksMore}
use Rattle.fab_demand.specs.Search.{asked_of}
use Rattle.fab_demand.proofs.Asking.{asks_both}
use Rattle.fab_demand.proofs.Lists.{unset_less}
use Rattle.fab_demand.proofs.search.Search.ask_source.Goals as goal

pub needs-smaller : goal.needs-smaller
needs-smaller c =
    let old = c.needs.invariant.searching.looked.whole.marks in
    let new = c.ask_rest.ensures.searching.looked.whole.marks in
    let more : AsksMore (asked_of c.needs.self) (asked_of c.ask_rest.new.self) =
    asks_both (asked_of c.needs.self) (asked_of c.ask.new.self) (asked_of c.ask_rest.new.self) c.ask.ensures.more c.ask_rest.ensures.more in
    unset_less c.needs.self.marks.items c.ask_rest.new.self.marks.items (new ∙ more.long ∙ sym old) more.marks c.in-Some.point
    c.in-Some.ensures (c.ask_rest.ensures.more.marks c.in-Some.point c.ask.ensures.marked)

pub needs-preserved : goal.needs-preserved
needs-preserved c = record {
  searching = c.ask_rest.ensures.searching;
  resting = c.ask_rest.ensures.resting;
  more = asks_both (asked_of c.args.self.now) (asked_of c.ask.new.self) (asked_of c.ask_rest.new.self)
      (asks_both (asked_of c.args.self.now) (asked_of c.needs.self) (asked_of c.ask.new.self) c.needs.invariant.more c.ask.ensures.more) c.ask_rest.ensures.more;
}
