-- Runs that may have ended before their last round.
use Rattle.std.proofs.Common.{◌≡◌, ℕ, ◌≤◌, Bool, true, false, List, length, Option, None, IfSome, sym, subst, inl, inr}
use Rattle.std.proofs.lemmas.Bool.{cases_Bool}
use Rattle.fab_pathfinder.specs.declared.rounds.Routed.{Routed}
use Rattle.fab_pathfinder.specs.Rounds.{Net}
use Rattle.fab_astar.specs.Walks.{Graph}
use Rattle.fab_route.specs.inner.Told.{IsNodeRun}

none_left : (o : Option ℕ) (P : Type 0) → o ≡ None → IfSome o (λ _. P)
none_left o P none = subst (λ (p : Option ℕ). IfSome p (λ _. P)) (sym none) tt

-- a run that shares nothing, or has all rounds that it might have, is one of so many
pub run_at : (graph : Graph) (nets : List Net) (allowed : ℕ) (patient : Bool) (run : Routed) → IsNodeRun graph nets (length run.rounds.items) run → length run.rounds.items ≤ allowed
    → (patient ≡ true → IfSome run.shared (λ _. length run.rounds.items ≡ allowed)) → (patient ≡ false → run.shared ≡ None) → IsNodeRun graph nets allowed run
run_at graph nets allowed patient run is few all unshared = record {
  run = is.run;
  some_rounds = is.some_rounds;
  few_rounds = few;
  unshared = is.unshared;
  shared = is.shared;
  all_rounds = elim (cases_Bool patient) [
    | inl t ↦ all t
    | inr f ↦ none_left run.shared (length run.rounds.items ≡ allowed) (unshared f)
  ];
}
