-- What the best end becomes, from the clauses of the code.
use Rattle.std.proofs.Common.{◌≡◌, ◌⊎◌, ℕ, ◌+◌, ◌≤◌, List, Some, ap, inl, inr, arith}
use Rattle.std.specs.List.{Contains}
use Rattle.fab_astar.specs.declared.explore.Best.{Best}
use Rattle.fab_astar.proofs.Turning.{IsNoted}

pub noted_is : (goals : List ℕ) (u c price : ℕ) (best new : Best) → c ≡ price → new.limit ≤ best.limit → (Contains goals u → new.limit ≤ c + 1) → (new ≡ best) ⊎ ((new.end ≡ Some u) × Contains goals u × (new.limit ≡ c + 1)) → IsNoted goals u price best.limit new.limit best.end new.end
noted_is goals u c price best new same lower goal cases = record {
  below = lower;
  goal = λ among. omega (arith, goal among, same);
  cases = elim cases [
    | inl e ↦ inl (ap (λ (b : Best). b.limit) e, ap (λ (b : Best). b.end) e)
    | inr h ↦ inr (h.0, h.1, omega (arith, h.2, same))
  ];
}
