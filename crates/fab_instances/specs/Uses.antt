-- Which models a model uses.
use Rattle.std.specs.Prelude.{◌≡◌, ◌⊎◌, ◌↔◌, ℕ, zero, suc, ◌++◌, Bool, true, false, if◌then◌else◌, nat_eq, nat_lt, List, [], ◌∷◌, Contains, fold, get_or, position, Option, Some, None}
use Rattle.std.proofs.Math.ListN.{set}
use Rattle.std.specs.Str.{bytes_eq}
use Rattle.fab_blif_models.specs.Plain.{PlainBody, instance, PlainModel, PlainStatement}
use Rattle.fab_instances.specs.Places.{model_names, statements_of}
use Rattle.fab_instances.specs.Formals.{fits_ports}

-- where the model stands of which a line is an instance, if it is one of a model of these names
abbrev pub inner_of : (names : List (List ℕ)) → PlainBody → Option ℕ
inner_of names (instance name words) = position (bytes_eq name) names
inner_of names _ = None

-- a line of the model at a place is an instance of the model at another
abbrev pub UsesAt : List PlainModel → (place inner : ℕ) → Type 0
UsesAt models place inner = (statement : PlainStatement) × Contains (statements_of models place) statement × (inner_of (model_names models) statement.body ≡ Some inner)

-- the model at a place uses another one, directly or through others; itself only if it does so
pub data Uses (models : List PlainModel) (place : ℕ) : ℕ → Type 0 where
  directly : {inner : ℕ} → UsesAt models place inner → Uses models place inner
  through : {middle inner : ℕ} → Uses models place middle → UsesAt models middle inner → Uses models place inner

-- the first model, or one that it uses
abbrev pub IsUsed : List PlainModel → (place : ℕ) → Type 0
IsUsed models place = (place ≡ 0) ⊎ Uses models 0 place

-- ---- marks of models

abbrev pub IsMarked : List Bool → (place : ℕ) → Type 0
IsMarked marks place = get_or marks place false ≡ true

-- the marks are those of the models that the model at a place uses
abbrev pub MarksUses : List PlainModel → (start : ℕ) → List Bool → Type 0
MarksUses models start marks = (place : ℕ) → IsMarked marks place ↔ Uses models start place

abbrev pub MarksUsed : List PlainModel → List Bool → Type 0
MarksUsed models marks = (place : ℕ) → IsMarked marks place ↔ IsUsed models place

-- Marks as they are set: those whose lines are not gone through yet stand on a list.
pub record Marks : Type 0 where
  pub marks : List Bool
  pub todo : List ℕ

abbrev pub marked_unless : Bool → Marks → (place : ℕ) → Marks
marked_unless true old place = old
marked_unless false old place = record { marks = set old.marks place true; todo = old.todo ++ place ∷ [] }

abbrev pub marked_at : Marks → Option ℕ → Marks
marked_at old None = old
marked_at old (Some place) = marked_unless (get_or old.marks place false) old place

-- after one more line
abbrev pub marked_by : (names : List (List ℕ)) → Marks → PlainStatement → Marks
marked_by names old statement = marked_at old (inner_of names statement.body)

abbrev pub marked_all : (names : List (List ℕ)) → Marks → List PlainStatement → Marks
marked_all names old statements = fold (marked_by names) old statements

-- ---- lines of marked models

-- the lines of the marked models before a place
abbrev pub lines_before : List PlainModel → (marks : List Bool) → (place : ℕ) → List PlainStatement
lines_before models marks zero = []
lines_before models marks (suc place) = lines_before models marks place ++ (if get_or marks place false then statements_of models place else [])

-- ---- the first line at which something is found

-- a line, and the name that it holds
abbrev pub Found : Type 0
Found = ℕ × List ℕ

-- what is found at the lesser line; at one line, what is found first
abbrev pub sooner : Option Found → Option Found → Option Found
sooner None second = second
sooner (Some first) None = Some first
sooner (Some first) (Some second) = Some (if nat_lt second.0 first.0 then second else first)

abbrev pub soonest_of : (PlainStatement → Option Found) → Option Found → List PlainStatement → Option Found
soonest_of find first lines = fold (λ found line. sooner found (find line)) first lines

-- where the model of a line is unknown
abbrev pub found_unless : (inner : Option ℕ) → Found → Option Found
found_unless None found = Some found
found_unless (Some inner) found = None

abbrev pub unknown_by : (names : List (List ℕ)) → (line : ℕ) → PlainBody → Option Found
unknown_by names line (instance name words) = found_unless (position (bytes_eq name) names) (line, name)
unknown_by names line _ = None

abbrev pub unknown_in : (names : List (List ℕ)) → PlainStatement → Option Found
unknown_in names statement = unknown_by names statement.line statement.body

-- where a line is an instance of the model at a place
abbrev pub found_at : (place : ℕ) → (inner : Option ℕ) → Found → Option Found
found_at place None found = None
found_at place (Some inner) found = if nat_eq inner place then Some found else None

abbrev pub instance_by : (names : List (List ℕ)) → (place line : ℕ) → PlainBody → Option Found
instance_by names place line (instance name words) = found_at place (position (bytes_eq name) names) (line, name)
instance_by names place line _ = None

abbrev pub instance_in : (names : List (List ℕ)) → (place : ℕ) → PlainStatement → Option Found
instance_in names place statement = instance_by names place statement.line statement.body

-- where the words of a line do not fit the ports of its model; the names of ports stand in the order of the models
abbrev pub breaking_at : (ports : List (List (List ℕ))) → (inner : Option ℕ) → (words : List (List ℕ)) → Found → Option Found
breaking_at ports None words found = None
breaking_at ports (Some inner) words found = if fits_ports (get_or ports inner []) words then None else Some found

abbrev pub breaking_by : (names : List (List ℕ)) → (ports : List (List (List ℕ))) → (line : ℕ) → PlainBody → Option Found
breaking_by names ports line (instance name words) = breaking_at ports (position (bytes_eq name) names) words (line, name)
breaking_by names ports line _ = None

abbrev pub breaking_in : (names : List (List ℕ)) → (ports : List (List (List ℕ))) → PlainStatement → Option Found
breaking_in names ports statement = breaking_by names ports statement.line statement.body
