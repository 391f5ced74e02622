use Rattle.std.proofs.Common.{◌≡◌, ℕ, ◌+◌, ◌<◌, List, length, Vec, Global, sym, ◌∙◌, ap, subst, arith}
use Rattle.std.proofs.lemmas.List.{length_push}
use Rattle.std.specs.List.{slice_get}
use Rattle.fab_annealing.specs.Measured.{numbers_of}
use Rattle.fab_annealing.specs.inner.Tied.{AreTies}
use Rattle.fab_annealing.proofs.Tying.{each_more}
use Rattle.fab_annealing.proofs.ties.Ties.of.Goals as goal

pub loop-item-preserved : goal.loop-item-preserved
loop-item-preserved c =
    let nets = c.args.nets.now in
    let ties = c.loop-item.ties.items in
    let at = c.loop-item.item in
    let found = c.in_ok-tying.field-0 in
    let more = c.in_ok-push.ensures.items in
    let inv = c.loop-item.invariant in
    record {
      count = ap length more ∙ length_push ties found ∙ (let q : length ties + 1 ≡ at + 1 = omega (arith, inv.count) in q);
      each = subst (λ (lists : List (Vec ℕ Global)). (item : ℕ) → item < at + 1 → AreTies nets item (numbers_of (slice_get lists item))) (sym more)
          (each_more nets ties found at inv.count c.in_ok-tying.ensures inv.each);
    }

pub returns : goal.returns
returns c =
    let inv = c.loop-item.invariant in
    record {
      count = omega (arith, inv.count, c.loop-item-test.false, c.loop-item.auto.item-end, c.len-item-end.ensures, c.args.nets.now.touching.ok.0);
      each = λ item low. inv.each item (omega (arith, low, c.loop-item-test.false, c.len-item-end.ensures, c.args.nets.now.touching.ok.0));
    }
