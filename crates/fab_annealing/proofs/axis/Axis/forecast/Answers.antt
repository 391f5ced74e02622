use Rattle.std.proofs.Common.{◌≡◌, length, get_or, refl, ap, subst, arith}
use Rattle.fab_annealing.specs.declared.axis.Span.{Span}
use Rattle.fab_annealing.specs.Measured.{width}
use Rattle.fab_annealing.specs.inner.Tied.{IsLeastWidth}
use Rattle.fab_annealing.proofs.Kept.{span_read}
use Rattle.fab_annealing.proofs.Foreseen.{IsSoFar, none_so_far, so_far_more, all_so_far, nothing_moves}
use Rattle.fab_annealing.proofs.axis.Axis.forecast.Goals as goal

pub returns-then-from-to : goal.returns-then-from-to
returns-then-from-to c = nothing_moves c.args.self.now.spans.items c.args.nets.now c.args.from c.args.to _ c.if-from-to.true refl refl

pub loop-net-init : goal.loop-net-init
loop-net-init c = none_so_far c.args.self.now.spans.items c.args.nets.now c.args.from c.args.to _ refl refl

pub loop-net-preserved : goal.loop-net-preserved
loop-net-preserved c =
    let spans = c.args.self.now.spans.items in
    let nets = c.args.nets.now in
    let at = c.loop-net.net-index in
    let inside = c.requires.inside at 0 c.loop-net-test.true in
    let is = span_read spans (get_or nets at 0) c.index-span.result.now inside c.index-span.ensures in
    let wide = ap width is in
    so_far_more spans nets c.args.from c.args.to at c.least_width.result c.loop-net.change c.and-change.result c.requires.distinct c.requires.inside
    c.loop-net-test.true c.requires.few
    (subst (λ (s : Span). IsLeastWidth s c.args.from c.args.to c.least_width.result) is c.least_width.ensures)
    (omega (arith, c.and-change.ensures.before, c.width.ensures, wide)) c.and-change.ensures.after c.loop-net.invariant

pub returns : goal.returns
returns c =
    let spans = c.args.self.now.spans.items in
    let nets = c.args.nets.now in
    let all : c.loop-net.net-index ≡ length nets = omega (arith, c.loop-net-test.false, c.loop-net.auto.net-index-end) in
    all_so_far spans nets c.args.from c.args.to c.loop-net.change c.if-from-to.false
    (subst (λ n. IsSoFar spans nets c.args.from c.args.to c.loop-net.change n) all c.loop-net.invariant)
