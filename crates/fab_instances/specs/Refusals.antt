-- What is judged of models before they are flattened.
use Rattle.std.specs.Prelude.{◌⊎◌, ℕ, ◌≤◌, List}
use Rattle.fab_base.specs.declared.fault.Fault.{Fault}
use Rattle.fab_blif_models.specs.Plain.{PlainModel}
use Rattle.fab_instances.specs.Order.{BreaksFormals, IsRecursive, IsUnknown, NoLine, RefusesFormals, RefusesRecursive, RefusesUnknown}
use Rattle.fab_instances.specs.Counting.{RefusesInstances, instances, most_instances}

-- What holds of models that are not refused before they are flattened. Only lines of models that the first one uses are judged.
pub record AreFineModels (models : List PlainModel) : Type 0 where
  pub known : NoLine (IsUnknown models)
  pub finite : NoLine (IsRecursive models)
  pub fits : NoLine (BreaksFormals models)
  pub small : instances models ≤ most_instances

-- The first refusal of models before they are flattened: an unknown model, a recursive one, formals, or too many instances.
abbrev pub RefusesModels : (file : List ℕ) → (last_line : ℕ) → List PlainModel → Fault → Type 0
RefusesModels file last_line models fault =
    RefusesUnknown file models fault
    ⊎ RefusesRecursive file models fault
    ⊎ RefusesFormals file models fault
    ⊎ (NoLine (IsUnknown models) × NoLine (IsRecursive models) × NoLine (BreaksFormals models) × RefusesInstances file last_line models fault)
