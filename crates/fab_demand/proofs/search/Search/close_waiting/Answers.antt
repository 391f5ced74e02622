use Rattle.std.proofs.Common.{◌∙◌, sym, arith}
use Rattle.fab_compiled.specs.Leading.{PointTerns}
use Rattle.fab_network.specs.declared.network.Clock.{Clock}
use Rattle.fab_demand.specs.Search.{asked_of, IsSearching}
use Rattle.fab_demand.proofs.Asking.{asks_both, asks_same, top, top_inside, GoesOn}
use Rattle.fab_demand.proofs.Beside.{last_goes_on, tells_later}
use Rattle.fab_demand.proofs.search.Search.close_waiting.Goals as goal

pub waiting-init : goal.waiting-init
waiting-init c = record { searching = λ clock given is. is; more = asks_same (asked_of c.args.self.now); left = omega arith; above = λ t above. above }

pub close_as-requires-clause-room : goal.close_as-requires-clause-room
close_as-requires-clause-room c = let is = c.requires.searching in (c.waiting.invariant.searching is.0 is.1 is.2).room

pub close_as-requires-clause-done : goal.close_as-requires-clause-done
close_as-requires-clause-done c =
    let is = c.requires.searching in
    (top c.args.network.now is.0 is.1 c.waiting.self (c.waiting.invariant.searching is.0 is.1 is.2) (c.requires.points ∙ sym c.waiting.invariant.more.long)
    c.in-Some.last (sym c.in-Some.ensures)).1

pub close_as-requires-clause-within : goal.close_as-requires-clause-within
close_as-requires-clause-within c =
    let is = c.requires.searching in
    let searching = c.waiting.invariant.searching is.0 is.1 is.2 in
    omega (
      arith,
      top_inside c.args.network.now is.0 is.1 c.waiting.self searching (c.requires.points ∙ sym c.waiting.invariant.more.long) c.in-Some.last (sym c.in-Some.ensures),
      searching.looked.whole.terns,
    )

goes_on : (c : goal.After-close_as) (clock : Clock) (given : PointTerns) → IsSearching c.args.network.now clock given c.waiting.self →
    GoesOn c.args.network.now clock given c.waiting.self c.close_as.new.self
goes_on c clock given searching =
    last_goes_on c.args.network.now clock given c.waiting.self c.close_as.new.self searching (c.requires.points ∙ sym c.waiting.invariant.more.long) c.args.together.now
    (tells_later c.args.network.now.trees.items c.args.together.now (asked_of c.args.self.now) (asked_of c.waiting.self)
    c.waiting.invariant.more c.waiting.invariant.above c.requires.tells)
    c.in-Some.last (sym c.in-Some.ensures) c.in-Some-found_at.found c.in-Some-found_at.ensures c.close_as.ensures

pub waiting-preserved : goal.waiting-preserved
waiting-preserved c =
    let is = c.requires.searching in
    let first = goes_on c is.0 is.1 (c.waiting.invariant.searching is.0 is.1 is.2) in
    record {
      searching = λ clock given searching. (goes_on c clock given (c.waiting.invariant.searching clock given searching)).searching;
      more = asks_both (asked_of c.args.self.now) (asked_of c.waiting.self) (asked_of c.close_as.new.self) c.waiting.invariant.more first.more;
      left = omega (arith, first.falls, c.waiting.invariant.left);
      above = λ t above. c.waiting.invariant.above t (first.above t above);
    }

pub waiting-smaller : goal.waiting-smaller
waiting-smaller c =
    let is = c.requires.searching in
    (goes_on c is.0 is.1 (c.waiting.invariant.searching is.0 is.1 is.2)).falls
