use Rattle.std.proofs.Common.{sym, subst}
use Rattle.fab_network.specs.Passes.{kept_tern}
use Rattle.fab_demand.specs.Asked.{Asked}
use Rattle.fab_demand.specs.Demand.{IsAsked}
use Rattle.fab_demand.proofs.Asking.{begins}
use Rattle.fab_demand.proofs.demand.Demand.ask.Goals as goal

pub ask-requires-clause-searching : goal.ask-requires-clause-searching
ask-requires-clause-searching c =
    begins c.args.network.now c.args.clock (kept_tern c.args.given.now) c.self.inside.search c.forget.new.self c.self.invariant
    (subst (λ (a : Asked). IsAsked c.args.network.now c.args.clock (kept_tern c.args.given.now) a) (sym c.self.view_is) c.requires.asked) c.forget.ensures
