-- Models by their places in a file.
use Rattle.std.specs.Prelude.{ℕ, List, [], map, get_or, position, Option}
use Rattle.std.specs.Str.{bytes_eq}
use Rattle.fab_blif_models.specs.Plain.{PlainModel, PlainStatement}

abbrev pub no_model : PlainModel
no_model = record { line = 0; name = []; statements = [] }

abbrev pub statements_of : List PlainModel → ℕ → List PlainStatement
statements_of models place = (get_or models place no_model).statements

abbrev pub model_names : List PlainModel → List (List ℕ)
model_names models = map (λ model. model.name) models

-- where the model of a name stands
abbrev pub place_of_model : List PlainModel → List ℕ → Option ℕ
place_of_model models name = position (bytes_eq name) (model_names models)
