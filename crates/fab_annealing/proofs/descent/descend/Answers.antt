use Rattle.std.proofs.Common.{arith}
use Rattle.fab_annealing.proofs.Falling.{falls_refl, falls_trans, next_less, all_tried}
use Rattle.fab_annealing.proofs.descent.descend.Goals as goal

pub sweeps-init : goal.sweeps-init
sweeps-init c = record {
  kept = c.requires.kept;
  falls = falls_refl c.args.board.now c.args.placement.now.sites.items;
  tried = λ k low high. absurd (omega (arith, low, high, c.len-tried.ensures, c.requires.board.locks, c.args.board.now.locked.ok.0));
}

pub sweeps-preserved : goal.sweeps-preserved
sweeps-preserved c = record {
  kept = c.in_ok-tried.ensures.kept;
  falls = falls_trans c.args.board.now c.args.placement.now.sites.items c.sweeps.placement.sites.items c.sweep.new.placement.sites.items
      c.sweeps.invariant.falls c.in_ok-tried.ensures.falls;
  tried = c.in_ok-tried.ensures.tried;
}

pub sweeps-smaller : goal.sweeps-smaller
sweeps-smaller c =
    let step = c.in_ok-tried.ensures in
    next_less c.args.board.now c.sweeps.placement.sites.items c.sweep.new.placement.sites.items c.in_ok-tried.tried step.falls step.next c.if-tried-eq0.false

pub returns-then-tried-eq0 : goal.returns-then-tried-eq0
returns-then-tried-eq0 c =
    let board = c.args.board.now in
    let step = c.in_ok-tried.ensures in
    let last = c.sweep.new.placement in
    record {
      kept = step.kept;
      falls = falls_trans board c.args.placement.now.sites.items c.sweeps.placement.sites.items last.sites.items c.sweeps.invariant.falls step.falls;
      optimal = all_tried board last.sites.items last.items.items step.kept.standing
          (λ item low site inside. step.tried item (omega (arith, c.if-tried-eq0.true)) (omega (arith, low, step.kept.laid.items)) site inside);
    }
