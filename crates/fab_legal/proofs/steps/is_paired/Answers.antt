use Rattle.fab_legal.proofs.StepLaws.{paired_at, not_paired, pair_answers}
use Rattle.fab_legal.proofs.steps.is_paired.Goals as goal

pub returns-then-x-to_x : goal.returns-then-x-to_x
returns-then-x-to_x c =
    not_paired c.args.fabric.now c.args.from c.args.to
    (λ p. c.if-x-to_x.true (paired_at c.args.fabric.now c.args.from c.args.to c.spot-x.result.0 c.spot-x.result.1 c.spot-x.result.2 (c.spot-to_x).result.0 (c.spot-to_x).result.1 (c.spot-to_x).result.2
    c.spot-x.ensures.number c.spot-x.ensures.index (c.spot-to_x).ensures.number (c.spot-to_x).ensures.index c.is_well_made.ensures.are_tiles p).x_same)

pub returns-then-y-to_y : goal.returns-then-y-to_y
returns-then-y-to_y c =
    not_paired c.args.fabric.now c.args.from c.args.to
    (λ p. c.if-y-to_y.true (paired_at c.args.fabric.now c.args.from c.args.to c.spot-x.result.0 c.spot-x.result.1 c.spot-x.result.2 (c.spot-to_x).result.0 (c.spot-to_x).result.1 (c.spot-to_x).result.2
    c.spot-x.ensures.number c.spot-x.ensures.index (c.spot-to_x).ensures.number (c.spot-to_x).ensures.index c.is_well_made.ensures.are_tiles p).y_same)

pub returns : goal.returns
returns c =
    pair_answers c.args.fabric.now c.args.from c.args.to c.spot-x.result.0 c.spot-x.result.1 c.spot-x.result.2 (c.spot-to_x).result.0 (c.spot-to_x).result.1 (c.spot-to_x).result.2
    c.spot-x.ensures.number c.spot-x.ensures.index (c.spot-to_x).ensures.number (c.spot-to_x).ensures.index c.is_well_made.ensures.are_tiles c.if-x-to_x.false c.if-y-to_y.false c.has_pair.result c.has_pair.ensures
