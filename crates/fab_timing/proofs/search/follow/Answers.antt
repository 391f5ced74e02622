use Rattle.std.proofs.Common.{rules, arith, ◌≡◌, ◌<◌, ◌∙◌, ◌-◌, ◌++◌, ◌∷◌, [], sym, subst, List, ℕ, Option, length, take, set, Some, None, refl}
use Rattle.fab_timing.specs.declared.search.Mark.TheVariants as marks
use Rattle.fab_timing.specs.inner.Tables.{before_in}
use Rattle.fab_timing.specs.inner.Search.{unsettled, IsSearch}
use Rattle.fab_timing.proofs.Settling.{ends_with, reader_marked, reader_waits, search_small, next_new, go_on, leave, enter_turns, leave_turns, met_by_waiting, met_by_settling}
use Rattle.fab_timing.proofs.search.follow.Goals as goal

pub unsettled_before-requires-clause-within : goal.unsettled_before-requires-clause-within
unsettled_before-requires-clause-within c =
    let ends = ends_with c.deref.result.now c.loop-node.path.items c.in-Some.node c.deref.ensures.value c.in-Some.ensures.some c.in-Some.ensures.last in
    reader_marked c.args.steps.now c.requires.tables c.loop-node.marks c.loop-node.sums c.loop-node.path.items c.loop-node.invariant.search_is c.in-Some.node ends

pub latest_by-requires-clause-small : goal.latest_by-requires-clause-small
latest_by-requires-clause-small c = search_small c.args.steps.now c.loop-node.marks c.loop-node.sums c.loop-node.path.items c.loop-node.invariant.search_is

pub latest_by-requires-clause-within : goal.latest_by-requires-clause-within
latest_by-requires-clause-within c =
    let ends = ends_with c.deref.result.now c.loop-node.path.items c.in-Some.node c.deref.ensures.value c.in-Some.ensures.some c.in-Some.ensures.last in
    omega (arith, reader_marked c.args.steps.now c.requires.tables c.loop-node.marks c.loop-node.sums c.loop-node.path.items c.loop-node.invariant.search_is c.in-Some.node ends, c.loop-node.invariant.search_is.marked, c.loop-node.invariant.search_is.summed)

pub offset_bounds-sums-node : goal.offset_bounds-sums-node
offset_bounds-sums-node c =
    let ends = ends_with c.deref.result.now c.loop-node.path.items c.in-Some.node c.deref.ensures.value c.in-Some.ensures.some c.in-Some.ensures.last in
    let within : c.in-Some.node < length c.loop-node.sums =
    omega (arith, reader_marked c.args.steps.now c.requires.tables c.loop-node.marks c.loop-node.sums c.loop-node.path.items c.loop-node.invariant.search_is c.in-Some.node ends, c.loop-node.invariant.search_is.marked, c.loop-node.invariant.search_is.summed) in
    search rules

pub bounds-sums-node : goal.bounds-sums-node
bounds-sums-node c =
    let ends = ends_with c.deref.result.now c.loop-node.path.items c.in-Some.node c.deref.ensures.value c.in-Some.ensures.some c.in-Some.ensures.last in
    omega (arith, reader_marked c.args.steps.now c.requires.tables c.loop-node.marks c.loop-node.sums c.loop-node.path.items c.loop-node.invariant.search_is c.in-Some.node ends, c.loop-node.invariant.search_is.marked, c.loop-node.invariant.search_is.summed)

pub bounds-marks-node : goal.bounds-marks-node
bounds-marks-node c =
    let ends = ends_with c.deref.result.now c.loop-node.path.items c.in-Some.node c.deref.ensures.value c.in-Some.ensures.some c.in-Some.ensures.last in
    reader_marked c.args.steps.now c.requires.tables c.loop-node.marks c.loop-node.sums c.loop-node.path.items c.loop-node.invariant.search_is c.in-Some.node ends

pub loop-node-smaller-in-None : goal.loop-node-smaller-in-None
loop-node-smaller-in-None c =
    let ends = ends_with c.deref.result.now c.loop-node.path.items c.in-Some.node c.deref.ensures.value c.in-Some.ensures.some c.in-Some.ensures.last in
    let marked = reader_marked c.args.steps.now c.requires.tables c.loop-node.marks c.loop-node.sums c.loop-node.path.items c.loop-node.invariant.search_is c.in-Some.node ends in
    let waits = reader_waits c.args.steps.now c.requires.tables c.loop-node.marks c.loop-node.sums c.loop-node.path.items c.loop-node.invariant.search_is c.in-Some.node ends in
    omega (arith, leave_turns c.loop-node.marks c.in-Some.node marked waits)

pub loop-node-preserved-in-None : goal.loop-node-preserved-in-None
loop-node-preserved-in-None c =
    let steps = c.args.steps.now in
    let list = c.loop-node.marks in
    let sums = c.loop-node.sums in
    let path = c.loop-node.path.items in
    let node = c.in-Some.node in
    let ends = ends_with c.deref.result.now c.loop-node.path.items c.in-Some.node c.deref.ensures.value c.in-Some.ensures.some c.in-Some.ensures.last in
    let none : unsettled list (before_in steps.before.items node) ≡ None = sym c.unsettled_before.ensures ∙ c.in-None.is in
    let front : c.pop.new.self.items ≡ take (length path - 1) path = search rules in
    record {
      search_is =
          subst (λ (places : List ℕ). IsSearch steps (set list node marks.Settled) (set sums node c.latest_by.result) places) (sym front)
          (subst (λ (value : Option ℕ). IsSearch steps (set list node marks.Settled) (set sums node value) (take (length path - 1) path)) (sym c.latest_by.ensures)
          (leave steps c.requires.tables list sums path c.loop-node.invariant.search_is node ends c.requires.ranked.0 c.requires.ranked.1 none));
      met = met_by_settling c.args.marks.now list (set list node marks.Settled) node c.loop-node.invariant.met refl;
    }

pub bounds-marks-from : goal.bounds-marks-from
bounds-marks-from c =
    let steps = c.args.steps.now in
    let ends = ends_with c.deref.result.now c.loop-node.path.items c.in-Some.node c.deref.ensures.value c.in-Some.ensures.some c.in-Some.ensures.last in
    let some : unsettled c.loop-node.marks (before_in steps.before.items c.in-Some.node) ≡ Some c.in-Some-unsettled_before.from = sym c.unsettled_before.ensures ∙ c.in-Some-unsettled_before.is in
    (next_new steps c.requires.tables c.loop-node.marks c.loop-node.sums c.loop-node.path.items c.loop-node.invariant.search_is c.in-Some.node ends c.requires.ranked.0 c.requires.ranked.1 c.in-Some-unsettled_before.from some).0

pub loop-node-smaller : goal.loop-node-smaller
loop-node-smaller c =
    let steps = c.args.steps.now in
    let ends = ends_with c.deref.result.now c.loop-node.path.items c.in-Some.node c.deref.ensures.value c.in-Some.ensures.some c.in-Some.ensures.last in
    let some : unsettled c.loop-node.marks (before_in steps.before.items c.in-Some.node) ≡ Some c.in-Some-unsettled_before.from = sym c.unsettled_before.ensures ∙ c.in-Some-unsettled_before.is in
    let new = next_new steps c.requires.tables c.loop-node.marks c.loop-node.sums c.loop-node.path.items c.loop-node.invariant.search_is c.in-Some.node ends c.requires.ranked.0 c.requires.ranked.1 c.in-Some-unsettled_before.from some in
    omega (arith, enter_turns c.loop-node.marks c.in-Some-unsettled_before.from new.0 new.1)

pub loop-node-preserved : goal.loop-node-preserved
loop-node-preserved c =
    let steps = c.args.steps.now in
    let list = c.loop-node.marks in
    let sums = c.loop-node.sums in
    let path = c.loop-node.path.items in
    let from = c.in-Some-unsettled_before.from in
    let ends = ends_with c.deref.result.now c.loop-node.path.items c.in-Some.node c.deref.ensures.value c.in-Some.ensures.some c.in-Some.ensures.last in
    let some : unsettled list (before_in steps.before.items c.in-Some.node) ≡ Some from = sym c.unsettled_before.ensures ∙ c.in-Some-unsettled_before.is in
    let longer : c.push.new.self.items ≡ path ++ from ∷ [] = search rules in
    record {
      search_is =
          subst (λ (places : List ℕ). IsSearch steps (set list from marks.Waiting) sums places) (sym longer)
          (go_on steps c.requires.tables list sums path c.loop-node.invariant.search_is c.in-Some.node ends c.requires.ranked.0 c.requires.ranked.1 from some);
      met = met_by_waiting c.args.marks.now list (set list from marks.Waiting) from c.loop-node.invariant.met refl;
    }
