use Rattle.std.proofs.Common.{◌≡◌, ℕ}
use Rattle.fab_network.specs.Passes.{kept_tern, IsListed}
use Rattle.fab_demand.proofs.Starting.{HaveStarted}
use Rattle.fab_demand.proofs.cycles.start.Given as goal

-- the points so far have started
abbrev pub invariant-loop-place : goal.invariant-loop-place
invariant-loop-place l = record {
  so_far : HaveStarted l.network l.given l.order l.place l.terns;
  others : (point : ℕ) → (IsListed l.order point → ⊥) → kept_tern l.terns point ≡ kept_tern l.initial.terns point;
}
