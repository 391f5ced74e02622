use Rattle.std.proofs.Common.{◌≡◌, Bool, false, List, Some, refl, sym, subst, slice_get}
use Rattle.fab_compiled.specs.declared.leads.Lead.TheVariants.{Known, Point, Own}
use Rattle.fab_network.specs.Passes.{kept_tern}
use Rattle.fab_demand.specs.Search.{IsSearching}
use Rattle.fab_demand.proofs.Asking.{GoesOn, keep_goes_on, know_goes_on, lead_goes_on, led_inside, top, top_inside, wait_goes_on}
use Rattle.fab_demand.proofs.Finding.{finds_of}
use Rattle.fab_demand.proofs.KeptGates.{finding, finding_room, finding_searching, gates_same}
use Rattle.fab_demand.proofs.search.Search.step.Goals as goal

pub look-requires-clause-gates : goal.look-requires-clause-gates
look-requires-clause-gates c =
    let trees = c.args.network.now.trees.items in
    gates_same c.args.self.now.gates.kept.items trees trees c.args.self.now.terns.items c.deref.result.now c.args.self.now.leads.items c.deref-2.result.now
    c.args.self.now.marks.items c.deref-3.result.now refl (sym c.deref.ensures.value) (sym c.deref-2.ensures.value) (sym c.deref-3.ensures.value)
    c.requires.searching.gates

pub wait-requires-clause-room : goal.wait-requires-clause-room
wait-requires-clause-room c = finding_room c.args.self.now c.look.new.gates c.requires.searching.room

pub know-requires-clause-room : goal.know-requires-clause-room
know-requires-clause-room c = finding_room c.args.self.now c.look.new.gates c.requires.searching.room

pub follow-requires-clause-room : goal.follow-requires-clause-room
follow-requires-clause-room c = finding_room c.args.self.now c.look.new.gates c.requires.searching.room

pub follow-requires-clause-done : goal.follow-requires-clause-done
follow-requires-clause-done c = (top c.args.network.now c.args.clock (kept_tern c.args.given.now) c.args.self.now c.requires.searching c.requires.points
    c.args.point c.requires.waits).1

pub follow-requires-clause-within : goal.follow-requires-clause-within
follow-requires-clause-within c = top_inside c.args.network.now c.args.clock (kept_tern c.args.given.now) c.args.self.now c.requires.searching
    c.requires.points c.args.point c.requires.waits

pub keep-requires-clause-room : goal.keep-requires-clause-room
keep-requires-clause-room c = finding_room c.args.self.now c.look.new.gates c.requires.searching.room

pub keep-requires-clause-done : goal.keep-requires-clause-done
keep-requires-clause-done c = (top c.args.network.now c.args.clock (kept_tern c.args.given.now) c.args.self.now c.requires.searching c.requires.points
    c.args.point c.requires.waits).1

-- ---- a point that is needed

found_needed : (c : goal.After-wait) → IsSearching c.args.network.now c.args.clock (kept_tern c.args.given.now) (finding c.args.self.now c.look.new.gates)
found_needed c =
    finding_searching c.args.self.now c.look.new.gates c.args.network.now c.args.clock (kept_tern c.args.given.now) c.args.network.now.trees.items
    c.deref.result.now c.deref-2.result.now c.deref-3.result.now refl c.deref.ensures.value c.deref-2.ensures.value c.deref-3.ensures.value
    c.requires.searching c.in-Unmarked.ensures.gates

needs : (c : goal.After-wait) → GoesOn c.args.network.now c.args.clock (kept_tern c.args.given.now) (finding c.args.self.now c.look.new.gates) c.wait.new.self
needs c =
    let unmarked = subst (λ (marks : List Bool). slice_get marks c.in-Unmarked.needed ≡ Some false) c.deref-3.ensures.value c.in-Unmarked.ensures.finds in
    wait_goes_on c.args.network.now c.args.clock (kept_tern c.args.given.now) (finding c.args.self.now c.look.new.gates) c.wait.new.self (found_needed c)
    c.in-Unmarked.needed unmarked
    c.wait.ensures.asked c.wait.ensures.done c.wait.ensures.stack c.wait.ensures.gates c.wait.ensures.room

pub returns-in-Unmarked-clause-searching : goal.returns-in-Unmarked-clause-searching
returns-in-Unmarked-clause-searching c = (needs c).searching

pub returns-in-Unmarked-clause-more : goal.returns-in-Unmarked-clause-more
returns-in-Unmarked-clause-more c = (needs c).more

pub returns-in-Unmarked-clause-falls : goal.returns-in-Unmarked-clause-falls
returns-in-Unmarked-clause-falls c = (needs c).falls

-- ---- a point that is known

found_known : (c : goal.After-know) → IsSearching c.args.network.now c.args.clock (kept_tern c.args.given.now) (finding c.args.self.now c.look.new.gates)
found_known c =
    finding_searching c.args.self.now c.look.new.gates c.args.network.now c.args.clock (kept_tern c.args.given.now) c.args.network.now.trees.items
    c.deref.result.now c.deref-2.result.now c.deref-3.result.now refl c.deref.ensures.value c.deref-2.ensures.value c.deref-3.ensures.value
    c.requires.searching c.in-Known.ensures.gates

knows : (c : goal.After-know) → GoesOn c.args.network.now c.args.clock (kept_tern c.args.given.now) (finding c.args.self.now c.look.new.gates) c.know.new.self
knows c =
    know_goes_on c.args.network.now c.args.clock (kept_tern c.args.given.now) (finding c.args.self.now c.look.new.gates) (found_known c) c.requires.points
    c.args.point c.requires.waits c.know.new.self c.in-Known.bit
    c.know.ensures.0 c.know.ensures.1
    (finds_of c.args.network.now.trees.items c.args.clock (kept_tern c.args.given.now c.args.point) (slice_get c.args.network.now.drives.items c.args.point)
    (Known c.in-Known.bit)
    c.deref.result.now c.args.self.now.terns.items c.deref-2.result.now c.args.self.now.leads.items c.deref-3.result.now c.args.self.now.marks.items
    c.deref.ensures.value c.deref-2.ensures.value c.deref-3.ensures.value c.in-Known.ensures.finds)
    c.in-Known.ensures.registers c.know.ensures.2

pub returns-in-Known-clause-searching : goal.returns-in-Known-clause-searching
returns-in-Known-clause-searching c = (knows c).searching

pub returns-in-Known-clause-more : goal.returns-in-Known-clause-more
returns-in-Known-clause-more c = (knows c).more

pub returns-in-Known-clause-falls : goal.returns-in-Known-clause-falls
returns-in-Known-clause-falls c = (knows c).falls

-- ---- a point that is led

found_led : (c : goal.After-follow) → IsSearching c.args.network.now c.args.clock (kept_tern c.args.given.now) (finding c.args.self.now c.look.new.gates)
found_led c =
    finding_searching c.args.self.now c.look.new.gates c.args.network.now c.args.clock (kept_tern c.args.given.now) c.args.network.now.trees.items
    c.deref.result.now c.deref-2.result.now c.deref-3.result.now refl c.deref.ensures.value c.deref-2.ensures.value c.deref-3.ensures.value
    c.requires.searching c.in-Point.ensures.gates

follows : (c : goal.After-follow) →
    GoesOn c.args.network.now c.args.clock (kept_tern c.args.given.now) (finding c.args.self.now c.look.new.gates) c.follow.new.self
follows c =
    let finds =
    (finds_of c.args.network.now.trees.items c.args.clock (kept_tern c.args.given.now c.args.point) (slice_get c.args.network.now.drives.items c.args.point)
    (Point c.in-Point.other)
    c.deref.result.now c.args.self.now.terns.items c.deref-2.result.now c.args.self.now.leads.items c.deref-3.result.now c.args.self.now.marks.items
    c.deref.ensures.value c.deref-2.ensures.value c.deref-3.ensures.value c.in-Point.ensures.finds) in
    lead_goes_on c.args.network.now c.args.clock (kept_tern c.args.given.now) (finding c.args.self.now c.look.new.gates) (found_led c) c.requires.points
    c.args.point c.requires.waits c.follow.new.self c.in-Point.other
    (led_inside c.args.network.now c.args.clock (kept_tern c.args.given.now) c.args.self.now c.requires.searching c.in-Point.other finds.1)
    finds c.in-Point.ensures.registers c.follow.ensures.done c.follow.ensures.waits

pub returns-in-Point-clause-searching : goal.returns-in-Point-clause-searching
returns-in-Point-clause-searching c = (follows c).searching

pub returns-in-Point-clause-more : goal.returns-in-Point-clause-more
returns-in-Point-clause-more c = (follows c).more

pub returns-in-Point-clause-falls : goal.returns-in-Point-clause-falls
returns-in-Point-clause-falls c = (follows c).falls

-- ---- a point that stands for itself

found_own : (c : goal.After-keep) → IsSearching c.args.network.now c.args.clock (kept_tern c.args.given.now) (finding c.args.self.now c.look.new.gates)
found_own c =
    finding_searching c.args.self.now c.look.new.gates c.args.network.now c.args.clock (kept_tern c.args.given.now) c.args.network.now.trees.items
    c.deref.result.now c.deref-2.result.now c.deref-3.result.now refl c.deref.ensures.value c.deref-2.ensures.value c.deref-3.ensures.value
    c.requires.searching c.in-Own.ensures.gates

keeps : (c : goal.After-keep) → GoesOn c.args.network.now c.args.clock (kept_tern c.args.given.now) (finding c.args.self.now c.look.new.gates) c.keep.new.self
keeps c =
    keep_goes_on c.args.network.now c.args.clock (kept_tern c.args.given.now) (finding c.args.self.now c.look.new.gates) (found_own c) c.requires.points
    c.args.point c.requires.waits c.keep.new.self
    (finds_of c.args.network.now.trees.items c.args.clock (kept_tern c.args.given.now c.args.point) (slice_get c.args.network.now.drives.items c.args.point) Own
    c.deref.result.now c.args.self.now.terns.items c.deref-2.result.now c.args.self.now.leads.items c.deref-3.result.now c.args.self.now.marks.items
    c.deref.ensures.value c.deref-2.ensures.value c.deref-3.ensures.value c.in-Own.ensures.finds)
    c.keep.ensures

pub returns-in-Own-clause-searching : goal.returns-in-Own-clause-searching
returns-in-Own-clause-searching c = (keeps c).searching

pub returns-in-Own-clause-falls : goal.returns-in-Own-clause-falls
returns-in-Own-clause-falls c = (keeps c).falls
