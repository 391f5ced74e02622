use Rattle.std.proofs.Common.{◌≡◌, Bool, false, List, Some, slice_get, subst}
use Rattle.fab_network.specs.Passes.{kept_tern}
use Rattle.fab_demand.specs.Search.{asked_of}
use Rattle.fab_demand.proofs.Asking.{asks_both, wait_goes_on, GoesOn}
use Rattle.fab_demand.proofs.search.Search.go_by.Goals as goal

-- ---- a point of a row

needs : (c : goal.After-wait) → GoesOn c.args.network.now c.args.clock (kept_tern c.args.given.now) c.args.self.now c.wait.new.self
needs c =
    let unmarked = subst (λ (marks : List Bool). slice_get marks c.in-Ask.needed ≡ Some false) c.deref.ensures.value c.in-Ask.ensures in
    wait_goes_on c.args.network.now c.args.clock (kept_tern c.args.given.now) c.args.self.now c.wait.new.self c.requires.searching c.in-Ask.needed unmarked
    c.wait.ensures.asked c.wait.ensures.done c.wait.ensures.stack c.wait.ensures.gates c.wait.ensures.room

pub returns-in-Ask-clause-searching : goal.returns-in-Ask-clause-searching
returns-in-Ask-clause-searching c = (needs c).searching

pub returns-in-Ask-clause-more : goal.returns-in-Ask-clause-more
returns-in-Ask-clause-more c = (needs c).more

pub returns-in-Ask-clause-falls : goal.returns-in-Ask-clause-falls
returns-in-Ask-clause-falls c = (needs c).falls

-- ---- a point that a look has closed, and those beside it

pub returns-then-are_others_due-clause-searching : goal.returns-then-are_others_due-clause-searching
returns-then-are_others_due-clause-searching c = c.close_others.ensures.searching c.args.clock (kept_tern c.args.given.now) c.step.ensures.searching

pub returns-then-are_others_due-clause-more : goal.returns-then-are_others_due-clause-more
returns-then-are_others_due-clause-more c =
    asks_both (asked_of c.args.self.now) (asked_of c.step.new.self) (asked_of c.close_others.new.self) c.step.ensures.more c.close_others.ensures.more

pub returns-then-len-depth-2-clause-searching : goal.returns-then-len-depth-2-clause-searching
returns-then-len-depth-2-clause-searching c =
    c.close_others-then-len-depth-2.ensures.searching c.args.clock (kept_tern c.args.given.now) c.step-in-LookInRow.ensures.searching

pub returns-then-len-depth-2-clause-more : goal.returns-then-len-depth-2-clause-more
returns-then-len-depth-2-clause-more c =
    asks_both (asked_of c.args.self.now) (asked_of c.step-in-LookInRow.new.self) (asked_of c.close_others-then-len-depth-2.new.self) c.step-in-LookInRow.ensures.more
    c.close_others-then-len-depth-2.ensures.more
