use Rattle.std.proofs.Common.{List, [], ◌∷◌, ◌++◌, ◌∙◌, ap, sym}
use Rattle.fab_netlist.specs.declared.netlist.Latch.{Latch}
use Rattle.fab_blif.specs.declared.design.Use.{Use}
use Rattle.fab_blif.specs.Judged.{latch_uses}
use Rattle.fab_blif.proofs.Judging.{latch_done, latch_end, latch_step}
use Rattle.fab_blif.proofs.judge.put_latch_outputs.Goals as goal

pub returns-after-loop-place : goal.returns-after-loop-place
returns-after-loop-place c =
    let all : List Use = c.args.uses.now.items ++ latch_uses (λ (latch : Latch). latch.output) c.args.lines.now c.args.latches.now in
    latch_done (λ (latch : Latch). latch.output) c.args.lines.now c.args.latches.now c.loop-place.place c.loop-place.uses.items all c.loop-place.invariant c.loop-place-test.false

pub returns-in_default : goal.returns-in_default
returns-in_default c =
    let all : List Use = c.args.uses.now.items ++ latch_uses (λ (latch : Latch). latch.output) c.args.lines.now c.args.latches.now in
    latch_end (λ (latch : Latch). latch.output) c.args.lines.now c.args.latches.now c.loop-place.place c.loop-place.uses.items all c.loop-place.invariant (sym c.in_default.ensures)

pub loop-place-preserved : goal.loop-place-preserved
loop-place-preserved c =
    let latches = c.args.latches.now in
    let at = c.loop-place.place in
    let latch = c.index-latches-place.result in
    let all : List Use = c.args.uses.now.items ++ latch_uses (λ (one : Latch). one.output) c.args.lines.now latches in
    let same = ap (λ (one : Latch). c.loop-place.uses.items ++ record { line = c.in-Some.line; net = one.output } ∷ []) c.latch.view_is in
    latch_step (λ (one : Latch). one.output) c.args.lines.now latches at c.loop-place.uses.items all c.loop-place.invariant latch c.in-Some.line c.push.new.self.items
    c.loop-place-test.true c.index-latches-place.is (sym c.in-Some.ensures) (c.in_ok-push.ensures.items ∙ same)
