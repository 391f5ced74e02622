use Rattle.std.proofs.Common.{refl, arith}
use Rattle.fab_annealing.specs.Measured.{item_count}
use Rattle.fab_annealing.proofs.Falling.{falls_refl, falls_trans, next_more, tried_both}
use Rattle.fab_annealing.proofs.descent.sweep.Goals as goal

pub loop-item-init : goal.loop-item-init
loop-item-init c = record {
  kept = c.requires.kept;
  falls = falls_refl c.args.board.now c.args.placement.now.sites.items;
  tried = λ k low high. absurd (omega (arith, high));
  next = record { same = λ e. refl; lower = λ low. absurd (omega (arith, low)) };
}

pub try_next-requires-clause-item : goal.try_next-requires-clause-item
try_next-requires-clause-item c = omega (
  arith,
  c.loop-item-test.true,
  c.len-item-end.ensures,
  c.requires.board.locks,
  c.loop-item.invariant.kept.laid.items,
  c.args.board.now.locked.ok.0,
)

pub loop-item-preserved : goal.loop-item-preserved
loop-item-preserved c =
    let board = c.args.board.now in
    let a = c.args.placement.now.sites.items in
    let b = c.loop-item.placement.sites.items in
    let d = c.try_next.new.placement.sites.items in
    let inv = c.loop-item.invariant in
    let step = c.in_ok-since.ensures in
    record {
      kept = step.kept;
      falls = falls_trans board a b d inv.falls step.falls;
      tried = step.tried;
      next = next_more board a b d c.loop-item.since c.in_ok-since.since inv.falls step.falls inv.next step.next;
    }

pub returns-then-tried-item-clause-tried : goal.returns-then-tried-item-clause-tried
returns-then-tried-item-clause-tried c =
    let inv = c.loop-item.invariant in
    let now = c.loop-item.placement.sites.items in
    (tried_both c.args.board.now c.args.placement.now.sites.items now c.loop-item.since c.args.tried c.loop-item.item (item_count c.args.board.now.nets)
    inv.falls inv.next (omega arith) (omega arith) inv.tried c.requires.tried).0

pub returns-then-tried-item-clause-next : goal.returns-then-tried-item-clause-next
returns-then-tried-item-clause-next c =
    let inv = c.loop-item.invariant in
    let now = c.loop-item.placement.sites.items in
    (tried_both c.args.board.now c.args.placement.now.sites.items now c.loop-item.since c.args.tried c.loop-item.item (item_count c.args.board.now.nets)
    inv.falls inv.next (omega arith) (omega arith) inv.tried c.requires.tried).1

pub returns-clause-tried : goal.returns-clause-tried
returns-clause-tried c = λ k low high. c.loop-item.invariant.tried k low
    (omega (arith, high, c.loop-item-test.false, c.len-item-end.ensures, c.requires.board.locks, c.args.board.now.locked.ok.0))
