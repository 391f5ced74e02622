-- A file has one first refusal, but where covers read one another round: then any cycle may be named.
use Rattle.std.proofs.Common.{◌≡◌, ℕ, List, codes, length, Option, Some, None, inl, inr, sym, ap, subst, ◌∙◌, arith}
use Rattle.std.proofs.lemmas.Bool.{cases_order, false≢true}
use Rattle.fab_base.specs.Reading.{fault_at}
use Rattle.fab_base.specs.Report.{number_of}
use Rattle.fab_base.specs.declared.fault.Fault.{Fault}
use Rattle.fab_base.specs.declared.problem.Problem.{Problem}
use Rattle.fab_base.specs.declared.problem.Problem.TheVariants as problems
use Rattle.fab_base.specs.declared.words.Reason.TheVariants as reasons
use Rattle.fab_lines.specs.Joined.{joined_lines}
use Rattle.fab_lines.specs.Order.{IsFine}
use Rattle.fab_lines.proofs.Judging.{fault_once}
use Rattle.fab_blif_models.specs.Judge.{judge}
use Rattle.fab_blif_models.specs.Plain.{PlainModel}
use Rattle.fab_blif_models.specs.Rules.{line_numbers}
use Rattle.fab_blif_models.proofs.LineOrder.{spelled_ascend}
use Rattle.fab_instances.specs.Order.{BreaksFormals, IsFirstAgain, IsLeast, IsRecursive, IsUnknown, RefusesFormals, RefusesNames, RefusesRecursive, RefusesUnknown, construct, model_at}
use Rattle.fab_instances.specs.Refusals.{RefusesModels}
use Rattle.fab_blif.specs.declared.clocks.ClockFault.{ClockFault}
use Rattle.fab_lines.specs.Counts.{last_line}
use Rattle.fab_blif.specs.Blif.{RefusesBlif, TellOneRefusal, design_in, models_in}
use Rattle.fab_blif.specs.Clocks.{clock_faults, first_fault}
use Rattle.fab_blif.specs.Design.{PlainDesign}
use Rattle.fab_blif.specs.Judged.{EachHasOne, undriven_line}
use Rattle.fab_blif.specs.Refusals.{IsSecondDriver, RefusesClocks, RefusesDesign, RefusesDrivers, RefusesFile, RefusesNets, RefusesUndriven, clock_problem}
use Rattle.fab_blif.proofs.Excluded.{flat_excluded, line_excluded, models_excluded, names_excluded, none_is_not_some}
use Rattle.fab_blif.proofs.Drivers.{once_upto}
use Rattle.fab_blif.proofs.OneStatement.{Ascend, ascend, one_name}

some_is : {X : Type 0} (a b : X) (o : Option X) → o ≡ Some a → o ≡ Some b → a ≡ b
some_is a b o x y = cc

-- ---- names

first_again : (models : List PlainModel) (a b : ℕ) → IsFirstAgain models a → IsFirstAgain models b → a ≡ b
first_again models a b x y = elim (cases_order a b) [
  | inl same ↦ same
  | inr (inl less) ↦ absurd (false≢true (sym (y.first a less) ∙ x.again))
  | inr (inr more) ↦ absurd (false≢true (sym (x.first b more) ∙ y.again))
]

names_once : (file : List ℕ) (last : ℕ) (models : List PlainModel) (a b : Fault) → RefusesNames file last models a → RefusesNames file last models b → a ≡ b
names_once file last models a b (inl x) (inl y) = x.1 ∙ sym y.1
names_once file last models a b (inl x) (inr y) = absurd (omega (arith, ap length x.0, y.1.within))
names_once file last models a b (inr x) (inl y) = absurd (omega (arith, ap length y.0, x.1.within))
names_once file last models a b (inr x) (inr y) =
    x.2 ∙ ap (λ place. fault_at file (model_at models place).line (problems.Malformed reasons.NameTwice)) (first_again models x.0 y.0 x.1 y.1) ∙ sym y.2

-- ---- models

least_once : (P : ℕ → List ℕ → Type 0) (line other : ℕ) (name more : List ℕ) → IsLeast P line name → IsLeast P other more → line ≡ other
least_once P line other name more x y = omega (arith, x.1 other more y.0, y.1 line name x.0)

module _ (file : List ℕ) (last : ℕ) (models : List PlainModel) (all : Ascend (line_numbers models)) where
  unknown_once : (a b : Fault) → RefusesUnknown file models a → RefusesUnknown file models b → a ≡ b
  unknown_once a b x y =
      let line = least_once (IsUnknown models) x.0 y.0 x.1 y.1 x.2 y.2 in
      let there : IsUnknown models x.0 y.1 = subst (λ l. IsUnknown models l y.1) (sym line) y.2.0 in
      let here : IsUnknown models x.0 x.1 = x.2.0 in
      let name = one_name models all x.0 x.1 y.1 here.0 there.0 here.1 there.1 here.2 there.2 in
      let construct_of : List ℕ → Problem = λ n. problems.Unsupported (construct (codes "model") n) in
      x.3 ∙ ap (λ l. fault_at file l (construct_of x.1)) line ∙ ap (λ n. fault_at file y.0 (construct_of n)) name ∙ sym y.3

  recursive_once : (a b : Fault) → RefusesRecursive file models a → RefusesRecursive file models b → a ≡ b
  recursive_once a b (known, x) (also, y) =
      let line = least_once (IsRecursive models) x.0 y.0 x.1 y.1 x.2 y.2 in
      let there : IsRecursive models x.0 y.1 = subst (λ l. IsRecursive models l y.1) (sym line) y.2.0 in
      let here : IsRecursive models x.0 x.1 = x.2.0 in
      let name = one_name models all x.0 x.1 y.1 here.0 there.0 here.1 there.1 here.3 there.3 in
      let construct_of : List ℕ → Problem = λ n. problems.Unsupported (construct (codes "recursive model") n) in
      x.3 ∙ ap (λ l. fault_at file l (construct_of x.1)) line ∙ ap (λ n. fault_at file y.0 (construct_of n)) name ∙ sym y.3

  formals_once : (a b : Fault) → RefusesFormals file models a → RefusesFormals file models b → a ≡ b
  formals_once a b (known, finite, x) (also, too, y) =
      let line = least_once (BreaksFormals models) x.0 y.0 x.1 y.1 x.2 y.2 in
      x.3 ∙ ap (λ l. fault_at file l (problems.Malformed reasons.Formal)) line ∙ sym y.3

  abbrev IsOfModels : Fault → Type 0
  IsOfModels fault = RefusesModels file last models fault

  unknown_alone : (a b : Fault) → RefusesUnknown file models a → IsOfModels b → a ≡ b
  unknown_alone a b x (inl y) = unknown_once a b x y
  unknown_alone a b x (inr (inl y)) = absurd (y.0 x.0 x.1 x.2.0)
  unknown_alone a b x (inr (inr (inl y))) = absurd (y.0 x.0 x.1 x.2.0)
  unknown_alone a b x (inr (inr (inr y))) = absurd (y.0 x.0 x.1 x.2.0)

  recursive_alone : (a b : Fault) → RefusesRecursive file models a → IsOfModels b → a ≡ b
  recursive_alone a b x (inl y) = sym (unknown_alone b a y (inr (inl x)))
  recursive_alone a b x (inr (inl y)) = recursive_once a b x y
  recursive_alone a b x (inr (inr (inl y))) = absurd (y.1 x.1.0 x.1.1 x.1.2.0)
  recursive_alone a b x (inr (inr (inr y))) = absurd (y.1 x.1.0 x.1.1 x.1.2.0)

  formals_alone : (a b : Fault) → RefusesFormals file models a → IsOfModels b → a ≡ b
  formals_alone a b x (inl y) = sym (unknown_alone b a y (inr (inr (inl x))))
  formals_alone a b x (inr (inl y)) = sym (recursive_alone b a y (inr (inr (inl x))))
  formals_alone a b x (inr (inr (inl y))) = formals_once a b x y
  formals_alone a b x (inr (inr (inr y))) = absurd (y.2 x.2.0 x.2.1 x.2.2.0)

  models_once : (a b : Fault) → IsOfModels a → IsOfModels b → a ≡ b
  models_once a b (inl x) y = unknown_alone a b x y
  models_once a b (inr (inl x)) y = recursive_alone a b x y
  models_once a b (inr (inr (inl x))) y = formals_alone a b x y
  models_once a b (inr (inr (inr x))) (inl y) = sym (unknown_alone b a y (inr (inr (inr x))))
  models_once a b (inr (inr (inr x))) (inr (inl y)) = sym (recursive_alone b a y (inr (inr (inr x))))
  models_once a b (inr (inr (inr x))) (inr (inr (inl y))) = sym (formals_alone b a y (inr (inr (inr x))))
  models_once a b (inr (inr (inr x))) (inr (inr (inr y))) = x.3.1 ∙ sym y.3.1

-- ---- the design

second_once : (design : PlainDesign) (a b : ℕ) → IsSecondDriver design a → IsSecondDriver design b → a ≡ b
second_once design a b x y = elim (cases_order a b) [
  | inl same ↦ same
  | inr (inl less) ↦ absurd (omega (arith, y.first a x.net less, x.second))
  | inr (inr more) ↦ absurd (omega (arith, x.first b y.net more, y.second))
]

module _ (file : List ℕ) (last : ℕ) (design : PlainDesign) where
  drivers_refused_once : (a b : Fault) → RefusesDrivers file design a → RefusesDrivers file design b → a ≡ b
  drivers_refused_once a b x y = x.2 ∙ ap (λ l. fault_at file l (problems.Malformed reasons.Drivers)) (second_once design x.0 y.0 x.1 y.1) ∙ sym y.2

  undriven_once : (a b : Fault) → RefusesUndriven file design a → RefusesUndriven file design b → a ≡ b
  undriven_once a b x y = x.2 ∙ ap (λ l. fault_at file l (problems.Malformed reasons.Undriven)) (some_is x.0 y.0 (undriven_line design) x.1 y.1) ∙ sym y.2

  clocks_once : (a b : Fault) → RefusesClocks file design a → RefusesClocks file design b → a ≡ b
  clocks_once a b x y =
      x.2 ∙ ap (λ (told : ClockFault). fault_at file told.line (clock_problem told.wrong)) (some_is x.0 y.0 (first_fault (clock_faults design)) x.1 y.1) ∙ sym y.2

  abbrev IsOfDesign : Fault → Type 0
  IsOfDesign fault = RefusesDesign file last design fault

  drivers_alone : (a b : Fault) → RefusesDrivers file design a → IsOfDesign b → a ≡ b
  drivers_alone a b x (inl y) = drivers_refused_once a b x y
  drivers_alone a b x (inr (inl y)) = absurd (once_upto design x.0 y.0 x.1)
  drivers_alone a b x (inr (inr (inl y))) = absurd (once_upto design x.0 y.0 x.1)
  drivers_alone a b x (inr (inr (inr y))) = absurd (once_upto design x.0 y.0 x.1)

  undriven_alone : (a b : Fault) → EachHasOne design × RefusesUndriven file design a → IsOfDesign b → a ≡ b
  undriven_alone a b x (inl y) = sym (drivers_alone b a y (inr (inl x)))
  undriven_alone a b x (inr (inl y)) = undriven_once a b x.1 y.1
  undriven_alone a b x (inr (inr (inl y))) = absurd (none_is_not_some (undriven_line design) x.1.0 y.1 x.1.1)
  undriven_alone a b x (inr (inr (inr y))) = absurd (none_is_not_some (undriven_line design) x.1.0 y.1 x.1.1)

  nets_alone : (a b : Fault) → EachHasOne design × (undriven_line design ≡ None) × RefusesNets file last design a → IsOfDesign b → a ≡ b
  nets_alone a b x (inl y) = sym (drivers_alone b a y (inr (inr (inl x))))
  nets_alone a b x (inr (inl y)) = sym (undriven_alone b a y (inr (inr (inl x))))
  nets_alone a b x (inr (inr (inl y))) = x.2.1 ∙ sym y.2.1
  nets_alone a b x (inr (inr (inr y))) = absurd (omega (arith, x.2.0, y.2))

  design_once : (a b : Fault) → IsOfDesign a → IsOfDesign b → a ≡ b
  design_once a b (inl x) y = drivers_alone a b x y
  design_once a b (inr (inl x)) y = undriven_alone a b x y
  design_once a b (inr (inr (inl x))) y = nets_alone a b x y
  design_once a b (inr (inr (inr x))) (inl y) = sym (drivers_alone b a y (inr (inr (inr x))))
  design_once a b (inr (inr (inr x))) (inr (inl y)) = sym (undriven_alone b a y (inr (inr (inr x))))
  design_once a b (inr (inr (inr x))) (inr (inr (inl y))) = sym (nets_alone b a y (inr (inr (inr x))))
  design_once a b (inr (inr (inr x))) (inr (inr (inr y))) = clocks_once a b x.3 y.3

-- ---- the models of a file

module _ (most : ℕ) (file bytes : List ℕ) (fine : IsFine (judge most) (joined_lines bytes)) (a b : Fault) where
  all_ascend : Ascend (line_numbers (models_in bytes))
  all_ascend = ascend (line_numbers (models_in bytes)) (spelled_ascend most (joined_lines bytes) fine).ascend

  abbrev IsOfFile : Fault → Type 0
  IsOfFile fault = RefusesFile file (last_line bytes) (models_in bytes) fault

  file_once : IsOfFile a → IsOfFile b → a ≡ b
  file_once (inl x) (inl y) = names_once file (last_line bytes) (models_in bytes) a b x y
  file_once (inl x) (inr (inl y)) = absurd (names_excluded file (last_line bytes) (models_in bytes) a y.0 y.1 x)
  file_once (inl x) (inr (inr y)) = absurd (names_excluded file (last_line bytes) (models_in bytes) a y.0 y.1 x)
  file_once (inr (inl x)) (inl y) = absurd (names_excluded file (last_line bytes) (models_in bytes) b x.0 x.1 y)
  file_once (inr (inl x)) (inr (inl y)) = models_once file (last_line bytes) (models_in bytes) all_ascend a b x.2 y.2
  file_once (inr (inl x)) (inr (inr y)) = absurd (models_excluded file (last_line bytes) (models_in bytes) a y.2 x.2)
  file_once (inr (inr x)) (inl y) = absurd (names_excluded file (last_line bytes) (models_in bytes) b x.0 x.1 y)
  file_once (inr (inr x)) (inr (inl y)) = absurd (models_excluded file (last_line bytes) (models_in bytes) b x.2 y.2)
  file_once (inr (inr x)) (inr (inr y)) = design_once file (last_line bytes) (design_in bytes) a b x.3 y.3

-- ---- the file

pub refused_once : (most : ℕ) (file bytes : List ℕ) (a b : Fault) → RefusesBlif most file bytes a → RefusesBlif most file bytes b → TellOneRefusal file bytes a b
refused_once most file bytes a b (is_a, inl x) (is_b, inl y) = inl (fault_once x y)
refused_once most file bytes a b (is_a, inl x) (is_b, inr (inl y)) = absurd (line_excluded most file bytes a y.0 x)
refused_once most file bytes a b (is_a, inl x) (is_b, inr (inr y)) = absurd (line_excluded most file bytes a y.0 x)
refused_once most file bytes a b (is_a, inr (inl x)) (is_b, inl y) = absurd (line_excluded most file bytes b x.0 y)
refused_once most file bytes a b (is_a, inr (inl x)) (is_b, inr (inl y)) = inl (file_once most file bytes x.0 a b x.1 y.1)
refused_once most file bytes a b (is_a, inr (inl x)) (is_b, inr (inr y)) = absurd (flat_excluded file bytes a y.1 y.2 y.3 y.4 x.1)
refused_once most file bytes a b (is_a, inr (inr x)) (is_b, inl y) = absurd (line_excluded most file bytes b x.0 y)
refused_once most file bytes a b (is_a, inr (inr x)) (is_b, inr (inl y)) = absurd (flat_excluded file bytes b x.1 x.2 x.3 x.4 y.1)
refused_once most file bytes a b (is_a, inr (inr x)) (is_b, inr (inr y)) = inr (x.5, y.5)

pub numbered_once : (most : ℕ) (file bytes : List ℕ) (a b : Fault) → RefusesBlif most file bytes a → RefusesBlif most file bytes b → number_of a ≡ number_of b
numbered_once most file bytes a b x y = elim (refused_once most file bytes a b x y) [
  | inl same ↦ ap number_of same
  | inr cycles ↦ ap number_of cycles.0.3 ∙ sym (ap number_of cycles.1.3)
]
