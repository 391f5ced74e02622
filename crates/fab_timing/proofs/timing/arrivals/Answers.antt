use Rattle.std.proofs.Common.{◌∙◌}
use Rattle.std.proofs.lemmas.Result.{IfOk-weaker}
use Rattle.fab_timing.specs.inner.Tables.{plain_steps, sum_at}
use Rattle.fab_timing.proofs.Ranked.{given_made, given_ranked}
use Rattle.fab_timing.proofs.Walks.{latest_at}
use Rattle.fab_timing.proofs.timing.arrivals.Goals as goal

pub steps_of-requires-clause-made : goal.steps_of-requires-clause-made
steps_of-requires-clause-made c = given_made c.args.packed.now c.requires.packs

pub settle_all-requires-clause-ranked : goal.settle_all-requires-clause-ranked
settle_all-requires-clause-ranked c =
    given_ranked c.args.fabric.now c.args.packed.now c.args.legal.now (plain_steps c.in_ok-steps.steps) c.is_well_made.ensures.are_tiles c.requires.packs c.requires.legal c.in_ok-steps.ensures.steps

pub returns-clause-count : goal.returns-clause-count
returns-clause-count c = IfOk-weaker c.settle_all.result _ _ (λ sums is. is ∙ c.in_ok-steps.ensures.count) c.settle_all.ensures.len

pub returns-clause-latest : goal.returns-clause-latest
returns-clause-latest c =
    IfOk-weaker c.settle_all.result _ _
    (λ sums is wire. latest_at c.args.fabric.now c.args.packed.now c.args.legal.now (plain_steps c.in_ok-steps.steps) c.in_ok-steps.ensures.steps wire (sum_at sums.items wire.0) (is wire.0))
    c.settle_all.ensures.latest
