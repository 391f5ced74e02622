-- What is judged of models before they are flattened.
use Rattle.std.specs.Prelude.{◌≡◌, ◌⊎◌, ℕ, ◌<◌, ◌≤◌, Bool, true, false, List, [], ◌∷◌, ◌++◌, Contains, codes, length, take, get_or, Option, Some, None}
use Rattle.std.specs.List.{list_any}
use Rattle.std.specs.Str.{bytes_eq}
use Rattle.fab_base.specs.Reading.{fault_at}
use Rattle.fab_base.specs.declared.fault.Fault.{Fault}
use Rattle.fab_base.specs.declared.problem.Problem.TheVariants as problems
use Rattle.fab_base.specs.declared.words.Reason.TheVariants as reasons
use Rattle.fab_blif_models.specs.Plain.{instance, PlainModel}
use Rattle.fab_instances.specs.Places.{no_model, model_names, place_of_model, statements_of}
use Rattle.fab_instances.specs.Formals.{BreaksPorts, port_names}
use Rattle.fab_instances.specs.Uses.{Found, IsUsed, Uses}

abbrev pub model_at : List PlainModel → ℕ → PlainModel
model_at models place = get_or models place no_model

-- whether a model before the one at a place has its name
abbrev pub is_again : List PlainModel → ℕ → Bool
is_again models place = list_any (bytes_eq (model_at models place).name) (model_names (take place models))

-- no two models have one name
abbrev pub NamesDiffer : List PlainModel → Type 0
NamesDiffer models = (place : ℕ) → place < length models → is_again models place ≡ false

-- The first model in the file whose name a model before it has.
pub record IsFirstAgain (models : List PlainModel) (place : ℕ) : Type 0 where
  pub within : place < length models
  pub again : is_again models place ≡ true
  pub first : (before : ℕ) → before < place → is_again models before ≡ false

-- The refusal of a file without a model, at its last line, or of two models of one name, at the second.
abbrev pub RefusesNames : (file : List ℕ) → (last_line : ℕ) → List PlainModel → Fault → Type 0
RefusesNames file last_line models fault =
    ((models ≡ []) × (fault ≡ fault_at file last_line (problems.Malformed reasons.NoModel)))
    ⊎ ((place : ℕ) × IsFirstAgain models place × (fault ≡ fault_at file (model_at models place).line (problems.Malformed reasons.NameTwice)))

-- ---- the lines of used models

-- A line of a used model, of this number and these words, is an instance of the model of this name.
abbrev pub IsInstanceLine : List PlainModel → (line : ℕ) → (name : List ℕ) → (words : List (List ℕ)) → (place : ℕ) → Type 0
IsInstanceLine models line name words place = IsUsed models place × Contains (statements_of models place) (record { line = line; body = instance name words })

-- The file has no model of the name.
abbrev pub IsUnknown : List PlainModel → (line : ℕ) → (name : List ℕ) → Type 0
IsUnknown models line name = (words : List (List ℕ)) × (place : ℕ) × IsInstanceLine models line name words place × (place_of_model models name ≡ None)

-- The model of the name is the one in which the line stands, or uses that one.
abbrev pub IsRecursive : List PlainModel → (line : ℕ) → (name : List ℕ) → Type 0
IsRecursive models line name = (words : List (List ℕ)) × (place : ℕ) × (inner : ℕ) × IsInstanceLine models line name words place
    × (place_of_model models name ≡ Some inner) × ((inner ≡ place) ⊎ Uses models inner place)

-- A word of the line breaks a rule of formals.
abbrev pub BreaksFormals : List PlainModel → (line : ℕ) → (name : List ℕ) → Type 0
BreaksFormals models line name = (words : List (List ℕ)) × (place : ℕ) × (inner : ℕ) × IsInstanceLine models line name words place
    × (place_of_model models name ≡ Some inner) × BreaksPorts (port_names (statements_of models inner)) words

-- ---- what is refused

-- no line is one of these
abbrev pub NoLine : (ℕ → List ℕ → Type 0) → Type 0
NoLine P = (line : ℕ) (name : List ℕ) → P line name → ⊥

-- a line is one of these, and none of them has a lesser number
abbrev pub IsLeast : (ℕ → List ℕ → Type 0) → (line : ℕ) → (name : List ℕ) → Type 0
IsLeast P line name = P line name × ((other : ℕ) (other_name : List ℕ) → P other other_name → line ≤ other)

-- what was found is the least line of these, if there is one
abbrev pub IsLeastFound : (ℕ → List ℕ → Type 0) → Option Found → Type 0
IsLeastFound P None = NoLine P
IsLeastFound P (Some found) = IsLeast P found.0 found.1

-- what a construct is called by a word and a name
abbrev pub construct : (word name : List ℕ) → List ℕ
construct word name = word ++ 32 ∷ name

-- An instance of an unknown model, at the least line of one.
abbrev pub RefusesUnknown : (file : List ℕ) → List PlainModel → Fault → Type 0
RefusesUnknown file models fault = (line : ℕ) × (name : List ℕ) × IsLeast (IsUnknown models) line name
    × (fault ≡ fault_at file line (problems.Unsupported (construct (codes "model") name)))

-- No model is unknown, and a used model is recursive.
abbrev pub RefusesRecursive : (file : List ℕ) → List PlainModel → Fault → Type 0
RefusesRecursive file models fault = NoLine (IsUnknown models) × ((line : ℕ) × (name : List ℕ) × IsLeast (IsRecursive models) line name
    × (fault ≡ fault_at file line (problems.Unsupported (construct (codes "recursive model") name))))

-- No model is unknown, none is recursive, and words break the rules of formals.
abbrev pub RefusesFormals : (file : List ℕ) → List PlainModel → Fault → Type 0
RefusesFormals file models fault = NoLine (IsUnknown models) × NoLine (IsRecursive models) × ((line : ℕ) × (name : List ℕ) × IsLeast (BreaksFormals models) line name
    × (fault ≡ fault_at file line (problems.Malformed reasons.Formal)))
