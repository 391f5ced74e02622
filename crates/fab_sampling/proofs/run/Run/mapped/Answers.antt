use Rattle.std.proofs.Common.{sym, subst}
use Rattle.fab_sampling.specs.inner.Running.{HasFlowed}
use Rattle.fab_sampling.proofs.Flowed.{still_flowed}
use Rattle.fab_sampling.proofs.Traced.{mapped_of}
use Rattle.fab_sampling.proofs.run.Run.mapped.Goals as goal

pub simulate-requires : goal.simulate-requires
simulate-requires g c =
    subst HasFlowed (sym c.measured.ensures.same) (still_flowed c.args.self.now c.measured.new.run.shelf c.measured.ensures.files c.requires)

pub returns-clause-comes : goal.returns-clause-comes
returns-clause-comes g c =
    mapped_of c.args.self.now c.requires c.measured.new.run c.measured.ensures.same c.measured.ensures.files c.in_ok-cost.cost c.in_ok-cost.edges (c.in_ok-cost.ensures.cost c.requires)
    (c.in_ok-cost.ensures.edges c.requires) c.in_ok-simulate.ensures.traced
