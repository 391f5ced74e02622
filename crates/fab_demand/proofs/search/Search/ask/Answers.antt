use Rattle.std.proofs.Common.{◌≡◌, Bool, true, false, List, ap, ◌∙◌, arith, slice_get, slice_set}
use Rattle.fab_network.specs.Passes.{kept_tern}
use Rattle.fab_demand.specs.Asked.{Asked}
use Rattle.fab_demand.specs.Search.{asked_of}
use Rattle.fab_demand.proofs.Asking.{asks_both, wait_goes_on}
use Rattle.fab_demand.proofs.Lists.{bool_read, get_same}
use Rattle.fab_demand.proofs.search.Search.ask.Goals as goal

pub go_on-requires-clause-searching : goal.go_on-requires-clause-searching
go_on-requires-clause-searching c =
    let unmarked = bool_read c.args.self.now.marks.items c.args.point c.index.result.now false c.index.ensures c.if-index.false
    (omega (arith, c.requires.within, c.requires.searching.looked.whole.marks)) in
    (wait_goes_on c.args.network.now c.args.clock (kept_tern c.args.given.now) c.args.self.now c.wait.new.self c.requires.searching c.args.point unmarked
    c.wait.ensures.asked c.wait.ensures.done c.wait.ensures.stack c.wait.ensures.gates c.wait.ensures.room).searching

-- the point is asked for, and then what it needs
pub returns-clause-more : goal.returns-clause-more
returns-clause-more c =
    let unmarked = bool_read c.args.self.now.marks.items c.args.point c.index.result.now false c.index.ensures c.if-index.false
    (omega (arith, c.requires.within, c.requires.searching.looked.whole.marks)) in
    let first = wait_goes_on c.args.network.now c.args.clock (kept_tern c.args.given.now) c.args.self.now c.wait.new.self c.requires.searching c.args.point
    unmarked c.wait.ensures.asked c.wait.ensures.done c.wait.ensures.stack c.wait.ensures.gates c.wait.ensures.room in
    asks_both (asked_of c.args.self.now) (asked_of c.wait.new.self) (asked_of c.go_on.new.self) first.more c.go_on.ensures.more

pub returns-clause-marked : goal.returns-clause-marked
returns-clause-marked c =
    let marks : c.wait.new.self.marks.items ≡ slice_set c.args.self.now.marks.items c.args.point true = ap (λ (a : Asked). a.marks) c.wait.ensures.asked in
    let set = get_same c.args.self.now.marks.items c.args.point true (omega (arith, c.requires.within, c.requires.searching.looked.whole.marks)) in
    c.go_on.ensures.more.marks c.args.point (ap (λ (m : List Bool). slice_get m c.args.point) marks ∙ set)
