-- Models of one name.
use Rattle.std.proofs.Common.{◌≡◌, ◌≢◌, ℕ, ◌+◌, ◌<◌, Bool, true, false, not, if◌then◌else◌, List, [], ◌∷◌, ◌++◌, length, get_or, take, refl, sym, ap, ◌∙◌, inl, inr, arith}
use Rattle.std.specs.List.{list_any}
use Rattle.std.specs.Str.{bytes_eq}
use Rattle.std.proofs.lemmas.Bool.{false≢true}
use Rattle.std.proofs.lemmas.List.{get_or-map, length-map, map-append, map_more, take-map}
use Rattle.fab_base.specs.Reading.{fault_at, IsFaultOr}
use Rattle.fab_base.specs.declared.fault.Fault.{Fault}
use Rattle.fab_base.specs.declared.fault.Fault.TheVariants as faults
use Rattle.fab_base.specs.declared.problem.Problem.TheVariants as problems
use Rattle.fab_base.specs.declared.words.Reason.TheVariants as reasons
use Rattle.fab_blif_models.specs.declared.model.Model.{Model}
use Rattle.fab_blif_models.specs.Plain.{PlainModel, plain_model, plain_models}
use Rattle.fab_instances.specs.Places.{no_model, model_names}
use Rattle.fab_instances.specs.Order.{is_again, model_at}

pub again_here : (models : List Model) (at : ℕ) (model : Model) (keys : List (List ℕ)) → at < length models → model ≡ get_or models at model →
    keys ≡ model_names (plain_models (take at models)) → is_again (plain_models models) at ≡ list_any (bytes_eq model.name) keys
again_here models at model keys within is same =
    let name : (get_or (plain_models models) at no_model).name ≡ model.name =
    ap (λ (m : PlainModel). m.name) (get_or-map plain_model models at model no_model within ∙ ap plain_model (sym is)) in
    let names : model_names (take at (plain_models models)) ≡ keys = ap model_names (take-map plain_model at models) ∙ sym same in
    λ j. list_any (bytes_eq (name j)) (names j)

pub within_plain : (models : List Model) (at : ℕ) → at < length models → at < length (plain_models models)
within_plain models at within = omega (arith, length-map models plain_model)

pub not_new : (added there : Bool) → added ≡ not there → added ≡ false → there ≡ true
not_new added true tells is = refl
not_new added false tells is = absurd (false≢true (sym is ∙ tells))

pub was_new : (added there : Bool) → added ≡ not there → added ≡ true → there ≡ false
was_new added false tells is = refl
was_new added true tells is = absurd (false≢true (sym tells ∙ is))

-- the fault at a model
pub fault_named : (models : List Model) (at : ℕ) (model : Model) (file : List ℕ) (fault : Fault) → at < length models → model ≡ get_or models at model → (fault ≢ faults.Memory) →
    IsFaultOr fault (fault_at file model.line (problems.Malformed reasons.NameTwice)) → fault ≡ fault_at file (model_at (plain_models models) at).line (problems.Malformed reasons.NameTwice)
fault_named models at model file fault within is told (inl none) = absurd (told none)
fault_named models at model file fault within is told (inr same) =
    same ∙ ap (λ (m : PlainModel). fault_at file m.line (problems.Malformed reasons.NameTwice)) (sym (get_or-map plain_model models at model no_model within ∙ ap plain_model (sym is)))

pub names_more : (models : List Model) (at : ℕ) (model : Model) (keys next : List (List ℕ)) (added : Bool) → at < length models → model ≡ get_or models at model → added ≡ true →
    next ≡ (if added then keys ++ model.name ∷ [] else keys) → keys ≡ model_names (plain_models (take at models)) → next ≡ model_names (plain_models (take (at + 1) models))
names_more models at model keys next added within is new added_to so_far =
    added_to
    ∙ ap (λ (b : Bool). if b then keys ++ model.name ∷ [] else keys) new
    ∙ ap (λ (names : List (List ℕ)). names ++ model.name ∷ []) so_far
    ∙ ap (λ (m : Model). model_names (plain_models (take at models)) ++ m.name ∷ []) is
    ∙ sym (map-append (λ (m : PlainModel). m.name) (plain_models (take at models)) (plain_model (get_or models at model) ∷ []))
    ∙ ap model_names (sym (map_more plain_model models at model within))
