use Rattle.std.proofs.Common.{◌≡◌, ◌-◌, ◌<◌, length, refl, inr, arith}
use Rattle.std.proofs.lemmas.Option.{slice_get_read}
use Rattle.fab_phases.specs.Lists.{HasOne}
use Rattle.fab_phases.specs.Loading.{IsInRuns}
use Rattle.fab_phases.specs.declared.enables.Enable.TheVariants.{Gate}
use Rattle.fab_phases.specs.declared.loading.Latch.{Latch}
use Rattle.fab_phases.proofs.Passing.{gate_at, runs_more, runs_passed}
use Rattle.fab_phases.proofs.Ticking.{runs_done}
use Rattle.fab_phases.proofs.Writing.{writes_both}
use Rattle.fab_phases.proofs.watched.take_enabled.Goals as goal

pub overflow_sub-before : goal.overflow_sub-before
overflow_sub-before c = c.requires.of.room

pub runs-init : goal.runs-init
runs-init c = record {
  low = omega arith;
  within = omega arith;
  leaves = λ tick shows are way. record { on_way = way; stay = λ point is. is; left = λ point has. absurd (omega (arith, has.2)) };
  enables = c.requires.enables;
  writes = λ point. inr refl;
}

pub overflow_sub-run : goal.overflow_sub-run
overflow_sub-run c =
    let next = rw c.in-Some.is at c.next_enabled.ensures.next in
    omega (arith, next.low, c.runs.invariant.low)

pub bounds-runs-number : goal.bounds-runs-number
bounds-runs-number c =
    let next = rw c.in-Some.is at c.next_enabled.ensures.next in
    let room = c.requires.of.room in
    omega (arith, next.low, next.within, c.runs.invariant.low, room)

pub take_run-requires-clause-run : goal.take_run-requires-clause-run
take_run-requires-clause-run c =
    let next = rw c.in-Some.is at c.next_enabled.ensures.next in
    let room = c.requires.of.room in
    let place = c.in-Some.number - (length c.args.enables.now - length c.args.runs.now) in
    let run = c.index-runs-number.result in
    let less : place < length c.args.runs.now = omega (arith, next.low, next.within, c.runs.invariant.low, room) in
    let at = slice_get_read c.args.runs.now (length c.args.runs.now) place run refl less c.index-runs-number.is in
    c.requires.runs place run at

pub take_run-requires-clause-gate : goal.take_run-requires-clause-gate
take_run-requires-clause-gate c =
    let next = rw c.in-Some.is at c.next_enabled.ensures.next in
    let room = c.requires.of.room in
    let place = c.in-Some.number - (length c.args.enables.now - length c.args.runs.now) in
    let run = c.index-runs-number.result in
    let less : place < length c.args.runs.now = omega (arith, next.low, next.within, c.runs.invariant.low, room) in
    let at = slice_get_read c.args.runs.now (length c.args.runs.now) place run refl less c.index-runs-number.is in
    next.value (Gate run.gate) (gate_at c.args.runs.now c.args.enables.now c.in-Some.number run c.requires.of (omega (arith, next.low, c.runs.invariant.low)) at)

pub runs-preserved : goal.runs-preserved
runs-preserved c =
    let next = rw c.in-Some.is at c.next_enabled.ensures.next in
    let room = c.requires.of.room in
    let place = c.in-Some.number - (length c.args.enables.now - length c.args.runs.now) in
    let run = c.index-runs-number.result in
    let less : place < length c.args.runs.now = omega (arith, next.low, next.within, c.runs.invariant.low, room) in
    let at = slice_get_read c.args.runs.now (length c.args.runs.now) place run refl less c.index-runs-number.is in
    record {
      low = omega (arith, next.low, c.runs.invariant.low);
      within = omega (arith, next.within);
      leaves = runs_more c.args.network.now c.args.runs.now c.args.enables.now c.args.demand.now c.in-Some.number c.args.given.now c.runs.given c.take_run.new.given run
          (omega (arith, next.low, c.runs.invariant.low)) at c.take_run.ensures.leaves
          (runs_passed c.args.network.now c.args.runs.now c.args.enables.now c.args.demand.now c.runs.from c.in-Some.number c.args.given.now c.runs.given
          c.requires.of c.runs.invariant.low next.passed c.runs.invariant.leaves);
      enables = c.next_enabled.ensures.enables;
      writes = writes_both (IsInRuns c.args.runs.now) (λ point. HasOne run.latches.items (λ (latch : Latch). latch.point ≡ point)) c.args.given.now c.runs.given
          c.take_run.new.given c.runs.invariant.writes c.take_run.ensures.writes (λ point one. (place, run, at, one));
    }

pub runs-smaller : goal.runs-smaller
runs-smaller c =
    let next = rw c.in-Some.is at c.next_enabled.ensures.next in
    omega (arith, next.low, next.within)

pub returns-clause-leaves : goal.returns-clause-leaves
returns-clause-leaves c =
    let none = rw c.in_default.is at c.next_enabled.ensures.next in
    let room = c.requires.of.room in
    runs_done c.args.network.now c.args.runs.now c.args.demand.now (length c.args.enables.now - (length c.args.enables.now - length c.args.runs.now)) c.args.given.now
    c.runs.given (omega (arith, room))
    (runs_passed c.args.network.now c.args.runs.now c.args.enables.now c.args.demand.now c.runs.from (length c.args.enables.now) c.args.given.now c.runs.given
    c.requires.of c.runs.invariant.low none c.runs.invariant.leaves)
