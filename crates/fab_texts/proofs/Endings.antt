-- The end of a text, which is judged after its lines.
use Rattle.std.proofs.Common.{◌≡◌, ℕ, List, Result, Ok, Err, refl, sym, ap, subst, ◌∙◌, ◌⊎◌, inl, inr}
use Rattle.fab_base.specs.declared.fault.Fault.{Fault}
use Rattle.fab_base.specs.declared.fault.Fault.TheVariants as faults
use Rattle.fab_base.specs.declared.problem.Problem.{Problem}
use Rattle.fab_base.specs.declared.problem.Problem.TheVariants as problems
use Rattle.fab_base.specs.Reading.{Fails, Refuses, IsFaultOr, fault_at}
use Rattle.fab_lines.specs.Order.{ended, goes_on, placed}
use Rattle.fab_lines.proofs.Judging.{placed_ok}

fails_so : {S : Type 0} (fault : Fault) (given : Result S Fault) → given ≡ Err fault → Fails fault given
fails_so faults.Memory given so = tt
fails_so fault given so = so

fails_or : {S : Type 0} (fault expected : Fault) (given : Result S Fault) → IsFaultOr fault expected → given ≡ Err expected → Fails fault given
fails_or {S} fault expected given which so = elim which [
  | inl memory ↦ subst (λ (f : Fault). Fails f given) (sym memory) tt
  | inr same ↦ fails_so fault given (so ∙ ap (λ (f : Fault). let r : Result S Fault = Err f in r) (sym same))
]

only_memory : {S : Type 0} (fault : Fault) (given : Result S Fault) → IsFaultOr fault faults.Memory → Fails fault given
only_memory fault given which = elim which [
  | inl memory ↦ subst (λ (f : Fault). Fails f given) (sym memory) tt
  | inr memory ↦ subst (λ (f : Fault). Fails f given) (sym memory) tt
]

refuses_or : {S : Type 0} (problem : Problem) (given : Result S Problem) → Refuses problem given → (given ≡ Err problem) ⊎ (problem ≡ problems.Memory)
refuses_or problems.Memory given so = inr refl
refuses_or problem given so = inl so

-- the lines leave a state, of which this is made
pub made_of : {S X : Type 0} (finish : S → Result X Problem) (file : List ℕ) (last : ℕ) (answer : Result S (ℕ × Problem)) (state : S) (made : X) → placed file answer ≡ Ok state → finish state ≡ Ok made
    → placed file (ended finish last answer) ≡ Ok made
made_of {S} finish file last answer state made read so =
    ap (λ (r : Result S (ℕ × Problem)). placed file (ended finish last r)) (placed_ok file answer state read) ∙ ap (λ r. placed file (goes_on Ok last r)) so

-- or it is refused
pub refused_of : {S X : Type 0} (finish : S → Result X Problem) (file : List ℕ) (last : ℕ) (answer : Result S (ℕ × Problem)) (state : S) (problem : Problem) (fault : Fault) → placed file answer ≡ Ok state → Refuses problem (finish state)
    → IsFaultOr fault (fault_at file last problem) → Fails fault (placed file (ended finish last answer))
refused_of {S} {X} finish file last answer state problem fault read refused which =
    let lines = ap (λ (r : Result S (ℕ × Problem)). placed file (ended finish last r)) (placed_ok file answer state read) in
    elim (refuses_or problem (finish state) refused) [
      | inl so ↦ fails_or fault (fault_at file last problem) (placed file (ended finish last answer)) which (lines ∙ ap (λ (r : Result X Problem). placed file (goes_on Ok last r)) so)
      | inr memory ↦ only_memory fault (placed file (ended finish last answer)) (subst (λ (p : Problem). IsFaultOr fault (fault_at file last p)) memory which)
    ]
