use Rattle.std.proofs.Common.{rules, arith, ◌≡◌, ◌∙◌, sym, ap, subst, List, ℕ, length, take, true, false, ◌-◌, ◌++◌, ◌∷◌, [], set, Some, None}
use Rattle.std.proofs.lemmas.List.{length-take-le, length-append}
use Rattle.fab_netlist.specs.declared.walk.Mark.TheVariants as marks
use Rattle.fab_netlist.specs.Plain.{cover_at}
use Rattle.fab_netlist.specs.inner.Search.{IsGoing, IsListed, is_open, mark_at, unfinished}
use Rattle.fab_netlist.proofs.Follows.{ends_with, listed_leave, listed_enter, going_leave, going_enter, going_round, new_source, source_small, reader_marked, reader_open, reader_small}
use Rattle.fab_netlist.proofs.Finds.{open_fewer, done_same}
use Rattle.fab_netlist.proofs.walk.follow.Goals as goal

pub next_source-requires-clause-within : goal.next_source-requires-clause-within
next_source-requires-clause-within c =
    let ends = ends_with c.deref.result.now c.loop-reader.path.items c.in-Some.reader c.deref.ensures.value c.in-Some.ensures.some c.in-Some.ensures.last in
    reader_small c.args.netlist.now c.args.drivers.now c.requires.table c.args.marks.now c.args.path.now.items c.loop-reader.marks c.loop-reader.path.items c.loop-reader.invariant.going c.in-Some.reader ends

pub bounds-marks-reader : goal.bounds-marks-reader
bounds-marks-reader c =
    let ends = ends_with c.deref.result.now c.loop-reader.path.items c.in-Some.reader c.deref.ensures.value c.in-Some.ensures.some c.in-Some.ensures.last in
    reader_marked c.args.netlist.now c.args.drivers.now c.requires.table c.args.marks.now c.args.path.now.items c.loop-reader.marks c.loop-reader.path.items c.loop-reader.invariant.going c.in-Some.reader ends

pub loop-reader-preserved-in-Continue-1 : goal.loop-reader-preserved-in-Continue-1
loop-reader-preserved-in-Continue-1 c =
    let ends = ends_with c.deref.result.now c.loop-reader.path.items c.in-Some.reader c.deref.ensures.value c.in-Some.ensures.some c.in-Some.ensures.last in
    let none : unfinished c.args.drivers.now c.loop-reader.marks (cover_at c.args.netlist.now c.in-Some.reader).inputs ≡ None = sym c.next_source.ensures ∙ c.in-None.is in
    let front : c.pop.new.self.items ≡ take (length c.loop-reader.path.items - 1) c.loop-reader.path.items = search rules in
    let added : c.push.new.self.items ≡ c.loop-reader.order.items ++ c.in-Some.reader ∷ [] = search rules in
    record {
      going =
          subst (λ (path : List ℕ). IsGoing c.args.netlist.now c.args.marks.now c.args.path.now.items (set c.loop-reader.marks c.in-Some.reader marks.Done) path) (sym front)
          (going_leave c.args.netlist.now c.args.drivers.now c.requires.table c.args.marks.now c.args.path.now.items c.loop-reader.marks c.loop-reader.path.items c.loop-reader.invariant.going c.in-Some.reader ends none);
      listed = subst (λ (order : List ℕ). IsListed c.args.netlist.now (set c.loop-reader.marks c.in-Some.reader marks.Done) order) (sym added)
          (listed_leave c.args.netlist.now c.args.drivers.now c.requires.table c.args.marks.now c.args.path.now.items c.loop-reader.marks c.loop-reader.path.items c.loop-reader.invariant.going c.in-Some.reader ends c.loop-reader.order.items none c.loop-reader.invariant.listed);
    }

pub loop-reader-smaller-in-Continue-1 : goal.loop-reader-smaller-in-Continue-1
loop-reader-smaller-in-Continue-1 c =
    let ends = ends_with c.deref.result.now c.loop-reader.path.items c.in-Some.reader c.deref.ensures.value c.in-Some.ensures.some c.in-Some.ensures.last in
    let front : c.pop.new.self.items ≡ take (length c.loop-reader.path.items - 1) c.loop-reader.path.items = search rules in
    omega (
      arith,
      ends.0,
      ap length front,
      length-take-le (length c.loop-reader.path.items - 1) c.loop-reader.path.items (omega arith),
      done_same c.loop-reader.marks c.in-Some.reader (reader_marked c.args.netlist.now c.args.drivers.now c.requires.table c.args.marks.now c.args.path.now.items c.loop-reader.marks c.loop-reader.path.items c.loop-reader.invariant.going c.in-Some.reader ends) (reader_open c.args.netlist.now c.args.drivers.now c.requires.table c.args.marks.now c.args.path.now.items c.loop-reader.marks c.loop-reader.path.items c.loop-reader.invariant.going c.in-Some.reader ends),
    )

pub slice_copy_out-is_open : goal.slice_copy_out-is_open
slice_copy_out-is_open c =
    let ends = ends_with c.deref.result.now c.loop-reader.path.items c.in-Some.reader c.deref.ensures.value c.in-Some.ensures.some c.in-Some.ensures.last in
    let unread : unfinished c.args.drivers.now c.loop-reader.marks (cover_at c.args.netlist.now c.in-Some.reader).inputs ≡ Some c.in-Some-next_source.source = sym c.next_source.ensures ∙ c.in-Some-next_source.is in
    source_small c.args.netlist.now c.args.drivers.now c.requires.table c.args.marks.now c.args.path.now.items c.loop-reader.marks c.loop-reader.path.items c.loop-reader.invariant.going c.in-Some.reader ends c.in-Some-next_source.source unread

pub bounds-marks-source : goal.bounds-marks-source
bounds-marks-source c =
    let ends = ends_with c.deref.result.now c.loop-reader.path.items c.in-Some.reader c.deref.ensures.value c.in-Some.ensures.some c.in-Some.ensures.last in
    let unread : unfinished c.args.drivers.now c.loop-reader.marks (cover_at c.args.netlist.now c.in-Some.reader).inputs ≡ Some c.in-Some-next_source.source = sym c.next_source.ensures ∙ c.in-Some-next_source.is in
    source_small c.args.netlist.now c.args.drivers.now c.requires.table c.args.marks.now c.args.path.now.items c.loop-reader.marks c.loop-reader.path.items c.loop-reader.invariant.going c.in-Some.reader ends c.in-Some-next_source.source unread

pub returns-then-is_open-clause-found : goal.returns-then-is_open-clause-found
returns-then-is_open-clause-found c =
    let ends = ends_with c.deref.result.now c.loop-reader.path.items c.in-Some.reader c.deref.ensures.value c.in-Some.ensures.some c.in-Some.ensures.last in
    let unread : unfinished c.args.drivers.now c.loop-reader.marks (cover_at c.args.netlist.now c.in-Some.reader).inputs ≡ Some c.in-Some-next_source.source = sym c.next_source.ensures ∙ c.in-Some-next_source.is in
    let opens : is_open (mark_at c.loop-reader.marks c.in-Some-next_source.source) ≡ true = search rules in
    going_round c.args.netlist.now c.args.drivers.now c.requires.table c.args.marks.now c.args.path.now.items c.loop-reader.marks c.loop-reader.path.items c.loop-reader.invariant.going c.in-Some.reader ends c.in-Some-next_source.source unread opens

pub loop-reader-preserved : goal.loop-reader-preserved
loop-reader-preserved c =
    let ends = ends_with c.deref.result.now c.loop-reader.path.items c.in-Some.reader c.deref.ensures.value c.in-Some.ensures.some c.in-Some.ensures.last in
    let unread : unfinished c.args.drivers.now c.loop-reader.marks (cover_at c.args.netlist.now c.in-Some.reader).inputs ≡ Some c.in-Some-next_source.source = sym c.next_source.ensures ∙ c.in-Some-next_source.is in
    let opens : is_open (mark_at c.loop-reader.marks c.in-Some-next_source.source) ≡ false = search rules in
    let longer : c.push-in-Some-next_source.new.self.items ≡ c.loop-reader.path.items ++ c.in-Some-next_source.source ∷ [] = search rules in
    record {
      going =
          subst (λ (path : List ℕ). IsGoing c.args.netlist.now c.args.marks.now c.args.path.now.items (set c.loop-reader.marks c.in-Some-next_source.source marks.Open) path) (sym longer)
          (going_enter c.args.netlist.now c.args.drivers.now c.requires.table c.args.marks.now c.args.path.now.items c.loop-reader.marks c.loop-reader.path.items c.loop-reader.invariant.going c.in-Some.reader ends c.in-Some-next_source.source unread opens);
      listed = listed_enter c.args.netlist.now c.loop-reader.marks c.loop-reader.order.items c.in-Some-next_source.source (source_small c.args.netlist.now c.args.drivers.now c.requires.table c.args.marks.now c.args.path.now.items c.loop-reader.marks c.loop-reader.path.items c.loop-reader.invariant.going c.in-Some.reader ends c.in-Some-next_source.source unread) c.loop-reader.invariant.listed;
    }

pub loop-reader-smaller : goal.loop-reader-smaller
loop-reader-smaller c =
    let ends = ends_with c.deref.result.now c.loop-reader.path.items c.in-Some.reader c.deref.ensures.value c.in-Some.ensures.some c.in-Some.ensures.last in
    let unread : unfinished c.args.drivers.now c.loop-reader.marks (cover_at c.args.netlist.now c.in-Some.reader).inputs ≡ Some c.in-Some-next_source.source = sym c.next_source.ensures ∙ c.in-Some-next_source.is in
    let opens : is_open (mark_at c.loop-reader.marks c.in-Some-next_source.source) ≡ false = search rules in
    let longer : c.push-in-Some-next_source.new.self.items ≡ c.loop-reader.path.items ++ c.in-Some-next_source.source ∷ [] = search rules in
    let fresh = new_source c.args.netlist.now c.args.drivers.now c.requires.table c.args.marks.now c.args.path.now.items c.loop-reader.marks c.loop-reader.path.items c.loop-reader.invariant.going c.in-Some.reader ends c.in-Some-next_source.source unread opens in
    omega (arith, ap length longer, length-append c.loop-reader.path.items (c.in-Some-next_source.source ∷ []), open_fewer c.loop-reader.marks c.in-Some-next_source.source fresh.0 fresh.1)
