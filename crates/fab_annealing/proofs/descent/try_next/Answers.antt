use Rattle.std.proofs.Common.{refl, arith}
use Rattle.fab_annealing.proofs.Falling.{kept_cost, tried_more, next_same}
use Rattle.fab_annealing.proofs.descent.try_next.Goals as goal

pub returns-then-cost-before-clause-tried : goal.returns-then-cost-before-clause-tried
returns-then-cost-before-clause-tried c =
    let board = c.args.board.now in
    let old = c.args.placement.now in
    let new = c.try_item.new.placement in
    let step = c.in_ok-try_item.ensures in
    let same = next_same board old new c.cost-before.result c.cost.result c.requires.board c.requires.kept step.kept c.cost-before.ensures c.cost.ensures
    c.if-cost-before.true in
    tried_more board old.sites.items new.sites.items c.args.since c.args.item (step.falls.still same) c.requires.tried (step.tried same)

pub returns-then-cost-before-clause-next : goal.returns-then-cost-before-clause-next
returns-then-cost-before-clause-next c =
    let board = c.args.board.now in
    let old = c.args.placement.now in
    let new = c.try_item.new.placement in
    let same = next_same board old new c.cost-before.result c.cost.result c.requires.board c.requires.kept c.in_ok-try_item.ensures.kept c.cost-before.ensures
    c.cost.ensures c.if-cost-before.true in
    record { same = λ e. refl; lower = λ low. absurd (omega (arith, low, same)) }

pub returns-clause-tried : goal.returns-clause-tried
returns-clause-tried c = λ k low high. absurd (omega (arith, low, high))

pub returns-clause-next : goal.returns-clause-next
returns-clause-next c =
    let board = c.args.board.now in
    let old = c.args.placement.now in
    let new = c.try_item.new.placement in
    let before = kept_cost board old c.requires.board c.requires.kept in
    let after = kept_cost board new c.requires.board c.in_ok-try_item.ensures.kept in
    record { same = λ e. absurd (c.if-cost-before.false (omega (arith, e, before, after, c.cost-before.ensures, c.cost.ensures))); lower = λ low. omega arith }
