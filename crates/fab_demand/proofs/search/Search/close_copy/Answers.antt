use Rattle.std.proofs.Common.{◌≡◌, ◌<◌, true, length, slice_index, arith}
use Rattle.std.proofs.lemmas.List.{get_or_read}
use Rattle.fab_compiled.specs.Leading.{PointTerns}
use Rattle.fab_network.specs.declared.network.Clock.{Clock}
use Rattle.fab_demand.specs.Search.{IsSearching}
use Rattle.fab_demand.proofs.Asking.{GoesOn}
use Rattle.fab_demand.proofs.Copying.{keep_is_closed, lead_is_closed}
use Rattle.fab_demand.proofs.Lists.{get_within}
use Rattle.fab_demand.proofs.search.Search.close_copy.Goals as goal

leads : (c : goal.After-follow) (clock : Clock) (given : PointTerns) → IsSearching c.args.network.now clock given c.args.self.now →
    GoesOn c.args.network.now clock given c.args.self.now c.follow.new.self
leads c clock given searching =
    let old = c.args.self.now in
    let copy = c.in-Some.ensures in
    let room : c.in-Some.from < length old.leads.items = omega (arith, get_within old.marks.items c.in-Some.from true copy.marked, searching.looked.whole.marks) in
    let here : c.index-lead.result.now ≡ slice_index old.leads.items c.in-Some.from =
    get_or_read old.leads.items c.in-Some.from c.index-lead.result.now room c.index-lead.ensures 0 in
    lead_is_closed c.args.network.now clock given old c.wait.new.self c.follow.new.self searching c.requires.points c.args.copies c.requires.tells
    c.args.other c.in-Some.from copy c.wait.ensures.asked c.wait.ensures.done c.wait.ensures.stack c.wait.ensures.gates c.wait.ensures.room c.if-copies.true
    c.index-lead.result.now here c.follow.ensures.done c.follow.ensures.waits

keeps : (c : goal.After-keep) (clock : Clock) (given : PointTerns) → IsSearching c.args.network.now clock given c.args.self.now →
    GoesOn c.args.network.now clock given c.args.self.now c.keep.new.self
keeps c clock given searching =
    keep_is_closed c.args.network.now clock given c.args.self.now c.wait.new.self c.keep.new.self searching c.requires.points c.args.copies c.requires.tells
    c.args.other c.in-Some.from c.in-Some.ensures c.wait.ensures.asked c.wait.ensures.done c.wait.ensures.stack c.wait.ensures.gates c.wait.ensures.room
    c.keep.ensures

pub returns-then-copies-clause-searching : goal.returns-then-copies-clause-searching
returns-then-copies-clause-searching c clock given searching = (leads c clock given searching).searching

pub returns-then-copies-clause-more : goal.returns-then-copies-clause-more
returns-then-copies-clause-more c = let is = c.requires.searching in (leads c is.0 is.1 is.2).more

pub returns-then-copies-clause-left : goal.returns-then-copies-clause-left
returns-then-copies-clause-left c = let is = c.requires.searching in omega (arith, (leads c is.0 is.1 is.2).falls)

pub returns-then-copies-clause-above : goal.returns-then-copies-clause-above
returns-then-copies-clause-above c = let is = c.requires.searching in (leads c is.0 is.1 is.2).above

pub returns-else-copies-clause-searching : goal.returns-else-copies-clause-searching
returns-else-copies-clause-searching c clock given searching = (keeps c clock given searching).searching

pub returns-else-copies-clause-more : goal.returns-else-copies-clause-more
returns-else-copies-clause-more c = let is = c.requires.searching in (keeps c is.0 is.1 is.2).more

pub returns-else-copies-clause-left : goal.returns-else-copies-clause-left
returns-else-copies-clause-left c = let is = c.requires.searching in omega (arith, (keeps c is.0 is.1 is.2).falls)

pub returns-else-copies-clause-above : goal.returns-else-copies-clause-above
returns-else-copies-clause-above c = let is = c.requires.searching in (keeps c is.0 is.1 is.2).above
