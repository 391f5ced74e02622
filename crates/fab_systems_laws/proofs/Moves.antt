-- Moves are events whose states are assignments.
use Rattle.std.proofs.Common.{◌≡◌, ℕ, Bool, List, [], ◌∷◌, refl, sym, ap, ◌∙◌, subst}
use Rattle.fab_systems_laws.specs.System.{AgreeOn, ReadsOnly, IsRanked}
use Rattle.fab_systems_laws.specs.Steps.{Move, IsMove, AreMoves, last, blocks_then, SettlesAfter}
use Rattle.fab_systems_laws.proofs.Runs.{Run}
use Rattle.fab_systems_laws.proofs.States.{states_settle}

module _ {P : Type 0} (has given : P → Bool) (next : P → (P → Bool) → Bool) where
  abbrev Leads : Move P → (P → Bool) → (P → Bool) → Type 0
  Leads move a b = IsMove has given next a move × (move.after ≡ b)

  run_of : (start : P → Bool) (moves : List (Move P)) → AreMoves has given next start moves → Run Leads moves start (last start moves)
  run_of start [] are = refl
  run_of start (move ∷ moves) are = (move.after, (are.0, refl), run_of move.after moves are.1)

  pub moves_settle : (reads : P → P → Bool) (rank : P → ℕ) (ranks : ℕ) → IsRanked has given reads rank ranks → ReadsOnly has reads next → SettlesAfter has given next ranks
  moves_settle reads rank ranks ranked only start settled is agree blocks more all enough are =
      states_settle has given reads rank ranks next ranked only settled is
      (λ (a : P → Bool) p. a p) Leads (λ (move : Move P). move.activated) (λ (a : P → Bool). AgreeOn given a settled)
      (λ move a b g m. subst (λ (c : P → Bool). AgreeOn given c settled) m.1 (λ p h. m.0.stay p h ∙ g p h))
      (λ a g. g)
      (λ move a b p g m h f. ap (λ c. c p) (sym m.1) ∙ m.0.keeps p h f)
      (λ move a b p g m h t. ap (λ c. c p) (sym m.1) ∙ m.0.takes p h t)
      blocks more start (last start (blocks_then blocks more)) (run_of start (blocks_then blocks more) are) agree all enough
