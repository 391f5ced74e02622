use Rattle.std.proofs.Common.{Bool, List, subst, arith}
use Rattle.fab_compiled.specs.Leading.{PointTerns}
use Rattle.fab_network.specs.declared.network.Clock.{Clock}
use Rattle.fab_demand.specs.Search.{IsSearching}
use Rattle.fab_demand.specs.inner.Beside.{IsBeside}
use Rattle.fab_demand.proofs.Asking.{GoesOn}
use Rattle.fab_demand.proofs.Beside.{other_goes_on}
use Rattle.fab_demand.proofs.search.Search.close_other.Goals as goal

goes_on : (c : goal.After-close_as) (clock : Clock) (given : PointTerns) → IsSearching c.args.network.now clock given c.args.self.now →
    GoesOn c.args.network.now clock given c.args.self.now c.close_as.new.self
goes_on c clock given searching =
    let beside = subst (λ (marks : List Bool). IsBeside c.args.network.now c.args.together.now marks c.args.other c.in-Some.found) c.deref.ensures.value c.in-Some.ensures in
    other_goes_on c.args.network.now clock given c.args.self.now c.wait.new.self c.close_as.new.self searching c.requires.points c.args.together.now c.requires.tells
    c.args.other c.in-Some.found beside c.wait.ensures.asked c.wait.ensures.done c.wait.ensures.stack c.wait.ensures.gates c.wait.ensures.room
    c.close_as.ensures

pub returns-in-Some-clause-searching : goal.returns-in-Some-clause-searching
returns-in-Some-clause-searching c clock given searching = (goes_on c clock given searching).searching

pub returns-in-Some-clause-more : goal.returns-in-Some-clause-more
returns-in-Some-clause-more c = let is = c.requires.searching in (goes_on c is.0 is.1 is.2).more

pub returns-in-Some-clause-left : goal.returns-in-Some-clause-left
returns-in-Some-clause-left c = let is = c.requires.searching in omega (arith, (goes_on c is.0 is.1 is.2).falls)

pub returns-in-Some-clause-above : goal.returns-in-Some-clause-above
returns-in-Some-clause-above c = let is = c.requires.searching in (goes_on c is.0 is.1 is.2).above
