-- How many instances a flattened text has.
use Rattle.std.specs.Prelude.{◌≡◌, ℕ, zero, suc, ◌+◌, ◌<◌, List, Option, Some, None, length, min}
use Rattle.std.specs.List.{sum_by}
use Rattle.fab_base.specs.Reading.{fault_at}
use Rattle.fab_base.specs.declared.fault.Fault.{Fault}
use Rattle.fab_base.specs.declared.problem.Problem.TheVariants as problems
use Rattle.fab_base.specs.declared.words.Quantity.TheVariants as quantities
use Rattle.fab_blif_models.specs.Plain.{PlainModel, PlainStatement}
use Rattle.fab_instances.specs.Places.{model_names, statements_of}
use Rattle.fab_instances.specs.Uses.{inner_of}

-- what a line adds to a count: an instance, and those in the model of which it is one
abbrev pub instance_and : (inside : ℕ → ℕ) → (inner : Option ℕ) → ℕ
instance_and inside None = 0
instance_and inside (Some inner) = 1 + inside inner

abbrev pub instances_at : (names : List (List ℕ)) → (inside : ℕ → ℕ) → PlainStatement → ℕ
instances_at names inside statement = instance_and inside (inner_of names statement.body)

-- The instances in a copy of a model, in one another down to a depth.
unfoldable pub instances_in : List PlainModel → (deep : ℕ) → (place : ℕ) → ℕ
instances_in models zero place = 0
instances_in models (suc deep) place = sum_by (instances_at (model_names models) (instances_in models deep)) (statements_of models place)

-- The instances of the flattened text. Where no model is recursive, they stand in one another no deeper than there are models.
unfoldable pub instances : List PlainModel → ℕ
instances models = instances_in models (length models) 0

-- a count as 64 bits hold it: 2^64 - 1 where it is more
abbrev pub in_64_bits : ℕ → ℕ
in_64_bits count = min count 18446744073709551615

-- A flattened text has no more instances than this.
abbrev pub most_instances : ℕ
most_instances = 16384

-- More instances than a flattened text may have, at the last line of the file.
abbrev pub RefusesInstances : (file : List ℕ) → (last_line : ℕ) → List PlainModel → Fault → Type 0
RefusesInstances file last_line models fault = (most_instances < instances models)
    × (fault ≡ fault_at file last_line (problems.Limit quantities.Instances (in_64_bits (instances models)) most_instances))
