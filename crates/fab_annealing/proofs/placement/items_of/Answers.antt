use Rattle.std.proofs.Common.{get_or, Some, ◌∙◌, arith, length-set}
use Rattle.fab_annealing.proofs.Filling.{here_more, there_more}
use Rattle.fab_annealing.proofs.placement.items_of.Goals as goal

pub loop-item-preserved : goal.loop-item-preserved
loop-item-preserved c =
    let board = c.args.board.now in
    let sites = c.args.sites.now in
    let items = c.loop-item.items.items in
    let at = c.loop-item.item in
    let inv = c.loop-item.invariant in
    record {
      count = length-set items (get_or sites at 0) (Some at) ∙ inv.count;
      here = here_more board sites items at c.requires.placed c.loop-item-test.true inv.count inv.here;
      there = there_more board sites items at c.requires.placed c.loop-item-test.true inv.count inv.there;
    }

pub returns : goal.returns
returns c =
    let inv = c.loop-item.invariant in
    record {
      count = inv.count;
      here = λ item low. inv.here item (omega (arith, low, c.loop-item-test.false));
      there = λ site item is. (omega (arith, (inv.there site item is).0, c.loop-item.auto.item-end), (inv.there site item is).1);
    }
