use Rattle.std.proofs.Common.{ℕ, Option, refl, sym, subst}
use Rattle.fab_annealing.specs.inner.Tied.{AreForecast, ties_at}
use Rattle.fab_annealing.proofs.Forecasting.{forecast_none}
use Rattle.fab_annealing.proofs.placement.Placement.forecast_other.Goals as goal

pub returns-in-None : goal.returns-in-None
returns-in-None c =
    subst (λ (other : Option ℕ). AreForecast c.args.board.now c.args.self.now (ties_at c.args.ties.now other) c.args.from c.args.to
    (record { before = 0; after = 0 })) (sym c.in-None.is)
    (forecast_none c.args.board.now c.args.self.now c.args.from c.args.to (record { before = 0; after = 0 }) refl refl)
