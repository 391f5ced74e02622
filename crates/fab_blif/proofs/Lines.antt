-- The next line of a model.
use Rattle.std.proofs.Common.{◌≡◌, ℕ, ◌+◌, ◌<◌, ◌≤◌, List, [], ◌∷◌, Option, Some, None, MatchOption, Bor, length, get_or, drop, map, sym, ap, ◌∙◌, arith}
use Rattle.std.specs.List.{HoldsAt}
use Rattle.std.proofs.lemmas.List.{get_or-map, get_or_past, length-map, drop_more, drop_all}
use Rattle.fab_blif_models.specs.declared.model.Model.{Model}
use Rattle.fab_blif_models.specs.declared.model.Statement.{Statement}
use Rattle.fab_blif_models.specs.Plain.{PlainStatement, PlainModel, plain_model, plain_models, plain_statement}
use Rattle.fab_instances.specs.Places.{no_model, statements_of}

-- the lines of a model that is read
pub statements_met : (models : List Model) (place : ℕ) (model : Model) → place < length models → model ≡ get_or models place model →
    statements_of (plain_models models) place ≡ map plain_statement model.statements.items
statements_met models place model within is =
    ap (λ (m : PlainModel). m.statements) (get_or-map plain_model models place model no_model within ∙ ap plain_model (sym is))

-- a model that is not there has no lines
pub no_statements : (models : List Model) (place : ℕ) → length models ≤ place → statements_of (plain_models models) place ≡ []
no_statements models place past = ap (λ (m : PlainModel). m.statements) (get_or_past (plain_models models) place no_model (omega (arith, length-map models plain_model)))

-- the next line, or none
pub line_met : (lines : List Statement) (next : ℕ) (line : Option (Bor Statement)) →
    MatchOption line (length lines ≤ next) (λ (l : Bor Statement). (next < length lines) × HoldsAt (λ y. l.now ≡ y) lines next) →
    MatchOption line (drop next (map plain_statement lines) ≡ []) (λ (l : Bor Statement). drop next (map plain_statement lines) ≡ plain_statement l.now ∷ drop (next + 1) (map plain_statement lines))
line_met lines next None past = drop_all next (map plain_statement lines) (omega (arith, length-map lines plain_statement, past))
line_met lines next (Some line) met =
    let within : next < length (map plain_statement lines) = omega (arith, length-map lines plain_statement, met.0) in
    drop_more (map plain_statement lines) next (plain_statement line.now) within
    ∙ ap (λ (s : PlainStatement). s ∷ drop (next + 1) (map plain_statement lines))
    (get_or-map plain_statement lines next line.now (plain_statement line.now) met.0 ∙ ap plain_statement (sym (met.1 line.now)))
