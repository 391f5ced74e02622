-- Instances of a model in itself, and ranks of models.
use Rattle.std.specs.Prelude.{◌≡◌, ◌⊎◌, ◌≤◌, ℕ, Bool, true, not, if◌then◌else◌, nat_lt, List, get_or, position, Option, Some, None}
use Rattle.std.specs.Str.{bytes_eq}
use Rattle.fab_blif_models.specs.Plain.{PlainBody, PlainModel, PlainStatement, instance}
use Rattle.fab_instances.specs.Places.{place_of_model}
use Rattle.fab_instances.specs.Order.{IsInstanceLine}
use Rattle.fab_instances.specs.Uses.{Found, inner_of, IsUsed, Uses, UsesAt}

-- A line of a used model is an instance of the model at a place, which is the one in which the line stands or uses that one.
abbrev pub IsRecursiveAt : List PlainModel → (inner : ℕ) → (line : ℕ) → (name : List ℕ) → Type 0
IsRecursiveAt models inner line name = (words : List (List ℕ)) × (place : ℕ) × IsInstanceLine models line name words place
    × (place_of_model models name ≡ Some inner) × ((inner ≡ place) ⊎ Uses models inner place)

-- ---- ranks

-- no line of a used model is an instance of a model of a lower rank
abbrev pub NeverFalls : List PlainModel → (ranks : List ℕ) → Type 0
NeverFalls models ranks = (place inner : ℕ) → IsUsed models place → UsesAt models place inner → get_or ranks place 0 ≤ get_or ranks inner 0

-- a line of a used model is an instance of a model of no higher rank
abbrev pub IsLevel : List PlainModel → (ranks : List ℕ) → (line : ℕ) → (name : List ℕ) → Type 0
IsLevel models ranks line name = (words : List (List ℕ)) × (place : ℕ) × (inner : ℕ) × IsInstanceLine models line name words place
    × (place_of_model models name ≡ Some inner) × (get_or ranks inner 0 ≤ get_or ranks place 0)

-- whether a line is no instance of a model of a lower rank
abbrev pub stays_at : (ranks : List ℕ) → (rank : ℕ) → (inner : Option ℕ) → Bool
stays_at ranks rank None = true
stays_at ranks rank (Some inner) = not (nat_lt (get_or ranks inner 0) rank)

abbrev pub stays : (names : List (List ℕ)) → (ranks : List ℕ) → (rank : ℕ) → PlainStatement → Bool
stays names ranks rank statement = stays_at ranks rank (inner_of names statement.body)

-- where a line is an instance of a model of no higher rank
abbrev pub level_at : (ranks : List ℕ) → (rank : ℕ) → (inner : Option ℕ) → Found → Option Found
level_at ranks rank None found = None
level_at ranks rank (Some inner) found = if nat_lt rank (get_or ranks inner 0) then None else Some found

abbrev pub level_by : (names : List (List ℕ)) → (ranks : List ℕ) → (rank line : ℕ) → PlainBody → Option Found
level_by names ranks rank line (instance name words) = level_at ranks rank (position (bytes_eq name) names) (line, name)
level_by names ranks rank line _ = None

abbrev pub level_in : (names : List (List ℕ)) → (ranks : List ℕ) → (rank : ℕ) → PlainStatement → Option Found
level_in names ranks rank statement = level_by names ranks rank statement.line statement.body
