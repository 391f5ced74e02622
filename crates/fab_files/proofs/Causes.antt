-- Why a command that reads a file ends with what it comes upon there.
use Rattle.std.proofs.Common.{◌≡◌, ◌≢◌, ℕ, List, Option, Some, sym, ◌∙◌, subst, inl, inr}
use Rattle.fab_base.specs.Reading.{fault_at, IsFaultOr}
use Rattle.fab_base.specs.declared.fault.Fault.{Fault}
use Rattle.fab_base.specs.declared.fault.Fault.TheVariants as faults
use Rattle.fab_base.specs.declared.problem.Problem.{Problem}
use Rattle.fab_base.specs.declared.problem.Problem.TheVariants as problems
use Rattle.fab_desk.specs.Files.{Map}
use Rattle.fab_files.specs.Files.{Event, asks, refuses, HasReadCause}
use Rattle.fab_lines.specs.Order.{Format, IsTextFault}

-- a fault of what is met for one reason is met for another
pub cause_weaker : (told earlier : Option Map) (rose more_rose : Type 0) (meets more : Map → Event → Type 0) (fault : Fault) → told ≡ earlier → (rose → more_rose)
    → ((files : Map) → earlier ≡ Some files → (event : Event) → meets files event → more files event) → HasReadCause told rose meets fault → HasReadCause earlier more_rose more fault
cause_weaker told earlier rose more_rose meets more faults.Memory same higher further cause = tt
cause_weaker told earlier rose more_rose meets more (faults.ReadFault file) same higher further cause = (higher cause.0, λ files is. further files is (asks file) (cause.1 files (same ∙ is)))
cause_weaker told earlier rose more_rose meets more (faults.Missing file) same higher further cause = λ files is. further files is _ (cause files (same ∙ is))
cause_weaker told earlier rose more_rose meets more (faults.TooLong file) same higher further cause = λ files is. further files is _ (cause files (same ∙ is))
cause_weaker told earlier rose more_rose meets more (faults.Malformed place reason) same higher further cause = λ files is. further files is _ (cause files (same ∙ is))
cause_weaker told earlier rose more_rose meets more (faults.Unsupported place construct) same higher further cause = λ files is. further files is _ (cause files (same ∙ is))
cause_weaker told earlier rose more_rose meets more (faults.Limit place quantity value bound) same higher further cause = λ files is. further files is _ (cause files (same ∙ is))
cause_weaker told earlier rose more_rose meets more fault same higher further cause = cause

module _ (told : Option Map) (rose : Type 0) (meets : Map → Event → Type 0) where
  at_place : (file : List ℕ) (line : ℕ) (problem : Problem) → ((files : Map) → told ≡ Some files → meets files (refuses (fault_at file line problem)))
      → HasReadCause told rose meets (fault_at file line problem)
  at_place file line (problems.Malformed reason) met = met
  at_place file line (problems.Unsupported construct) met = met
  at_place file line (problems.Limit quantity value bound) met = met
  at_place file line problems.Memory met = tt

  -- a problem at a line is refused there, unless memory was
  pub placed_cause : (file : List ℕ) (line : ℕ) (problem : Problem) (fault : Fault) → ((files : Map) → told ≡ Some files → meets files (refuses (fault_at file line problem)))
      → IsFaultOr fault (fault_at file line problem) → HasReadCause told rose meets fault
  placed_cause file line problem fault met (inl memory) = subst (HasReadCause told rose meets) (sym memory) tt
  placed_cause file line problem fault met (inr is) = subst (HasReadCause told rose meets) (sym is) (at_place file line problem met)

  -- a text is refused for its first refusal, unless memory was
  pub text_cause : {L : Type 0} {format : Format L} {file : List ℕ} {text : List L} {last : ℕ} (fault : Fault) → (fault ≢ faults.Memory → IsTextFault format file text last fault)
      → ((files : Map) → told ≡ Some files → IsTextFault format file text last fault → meets files (refuses fault)) → HasReadCause told rose meets fault
  text_cause faults.Memory refused met = tt
  text_cause {file = file} fault refused met =
      let why = refused (λ same. cc) in
      placed_cause file why.number why.problem fault (λ files is. subst (λ (f : Fault). meets files (refuses f)) why.is (met files is why)) (inr why.is)
