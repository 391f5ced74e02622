-- Words that fit the ports of a model, and the least line whose words do not.
use Rattle.std.proofs.Common.{◌≡◌, ℕ, zero, suc, ◌+◌, ◌<◌, Bool, true, false, if◌then◌else◌, not, ◌&&◌, nat_eq, List, [], ◌∷◌, ◌++◌, map, take, length, get_or, position, Contains, Option, Some, None, refl, sym, ap, subst, ◌∙◌, inl, inr, arith, eqb-true}
use Rattle.std.specs.List.{list_any}
use Rattle.std.specs.Str.{bytes_eq}
use Rattle.std.proofs.lemmas.Bool.{and_cases, and_from, and_left, and_right, cases_Bool, false≢true}
use Rattle.std.proofs.lemmas.Grind.{common_steps}
use Rattle.std.proofs.lemmas.List.{get_or_default, length-map, length-take-le, map_more}
use Rattle.fab_blif_models.specs.declared.model.Model.{Model}
use Rattle.fab_blif_models.specs.Plain.{PlainBody, PlainStatement, PlainModel, inputs, outputs, clock, cover, latch, instance, plain_model, plain_models, plain_statement}
use Rattle.fab_instances.specs.Places.{model_names, place_of_model, statements_of}
use Rattle.fab_instances.specs.Formals.{sides, HasPorts, SameNames, fits_before, fits_ports, formal_of, has_both, joins_at, joins_new, port_names}
use Rattle.fab_instances.specs.Order.{BreaksFormals, IsLeastFound}
use Rattle.fab_instances.specs.Uses.{Found, IsMarked, MarksUsed, breaking_at, breaking_by, breaking_in, lines_before, soonest_of}
use Rattle.fab_instances.proofs.Found.{least_found, model_of_line, none_found, used_line}

-- ---- the words of an instance

pub fits_more : (ports words : List (List ℕ)) (at : ℕ) → fits_before ports words at ≡ true → joins_at ports words at ≡ true → fits_before ports words (at + 1) ≡ true
fits_more ports words at before here =
    let next : suc at ≡ at + 1 = omega arith in
    subst (λ (n : ℕ). fits_before ports words n ≡ true) next (and_from (fits_before ports words at) (joins_at ports words at) before here)

-- a word that is tried where the formals before it are held
pub joins_here : (ports words formals : List (List ℕ)) (at : ℕ) (word : List ℕ) → at < length words → word ≡ get_or words at word → formals ≡ map formal_of (take at words) →
    joins_new ports formals word ≡ joins_at ports words at
joins_here ports words formals at word within is held =
    let here : word ≡ get_or words at [] = is ∙ get_or_default words at word [] within in
    λ j. joins_new ports (held j) (here j)

pub formals_more : (words formals next : List (List ℕ)) (at : ℕ) (word : List ℕ) → at < length words → word ≡ get_or words at word → formals ≡ map formal_of (take at words) →
    next ≡ formals ++ formal_of word ∷ [] → next ≡ map formal_of (take (at + 1) words)
formals_more words formals next at word within is held added =
    added
    ∙ (λ j. held j ++ formal_of (is j) ∷ [])
    ∙ sym (map_more formal_of words at word within)

below_other : (place count : ℕ) → place < suc count → nat_eq place count ≡ false → place < count
below_other place count within other = grind (arith, common_steps)

module _ (ports words : List (List ℕ)) where
  -- one word that breaks the rules is enough
  pub fits_broken : (count place : ℕ) → place < count → joins_at ports words place ≡ false → fits_before ports words count ≡ false
  fits_broken zero place within broken = absurd (omega (arith, within))
  fits_broken (suc count) place within broken =
      elim (cases_Bool (nat_eq place count)) [
        | inl t ↦ (
            let here : joins_at ports words count ≡ false = subst (λ (p : ℕ). joins_at ports words p ≡ false) (eqb-true place count t) broken in
            and_right (fits_before ports words count) (joins_at ports words count) here
            )
        | inr f ↦ and_left (fits_before ports words count) (joins_at ports words count) (fits_broken count place (below_other place count within f) broken)
      ]

  pub broken_of : (count : ℕ) → fits_before ports words count ≡ false → (place : ℕ) × (place < count) × (joins_at ports words place ≡ false)
  broken_of zero wrong = absurd (false≢true (sym wrong))
  broken_of (suc count) wrong =
      elim (and_cases (fits_before ports words count) (joins_at ports words count) wrong) [
        | inl before ↦ (let at = broken_of count before in (at.0, omega (arith, at.1), at.2))
        | inr here ↦ (count, omega arith, here)
      ]

-- ports of the same names
pub fits_same : (ports others words : List (List ℕ)) (count : ℕ) → SameNames ports others → fits_before ports words count ≡ fits_before others words count
fits_same ports others words zero same = refl
fits_same ports others words (suc count) same =
    λ j. fits_same ports others words count same j && joins_same (get_or words count []) j
  where
    joins_same : (word : List ℕ) → joins_new ports (map formal_of (take count words)) word ≡ joins_new others (map formal_of (take count words)) word
    joins_same word = ap (λ (there : Bool). has_both (sides word) && (there && not (list_any (bytes_eq (formal_of word)) (map formal_of (take count words))))) (same (formal_of word))

-- ---- the ports of each model

ports_put : (models : List PlainModel) (ports : List (List (List ℕ))) (model : PlainModel) (names : List (List ℕ)) → length ports ≡ length models → HasPorts models ports →
    SameNames names (port_names model.statements) → HasPorts (models ++ model ∷ []) (ports ++ names ∷ [])
ports_put [] [] model names size all same zero = same
ports_put [] [] model names size all same (suc place) = λ name. refl
ports_put [] (first ∷ ports) model names size all same place = absurd (omega (arith, size))
ports_put (first ∷ models) [] model names size all same place = absurd (omega (arith, size))
ports_put (first ∷ models) (other ∷ ports) model names size all same zero = all zero
ports_put (first ∷ models) (other ∷ ports) model names size all same (suc place) = ports_put models ports model names (omega (arith, size)) (λ q. all (suc q)) same place

pub ports_more : (models : List Model) (at : ℕ) (model : Model) (ports next : List (List (List ℕ))) (names : List (List ℕ)) → at < length models → model ≡ get_or models at model →
    length ports ≡ at → HasPorts (plain_models (take at models)) ports → SameNames names (port_names (map plain_statement model.statements.items)) → next ≡ ports ++ names ∷ [] →
    HasPorts (plain_models (take (at + 1) models)) next
ports_more models at model ports next names within is size all same added =
    let count : length (plain_models (take at models)) ≡ at = length-map (take at models) plain_model ∙ length-take-le at models (omega (arith, within)) in
    let put : HasPorts (plain_models (take at models) ++ plain_model model ∷ []) (ports ++ names ∷ []) = ports_put (plain_models (take at models)) ports (plain_model model) names (size ∙ sym count) all same in
    let more : plain_models (take at models) ++ plain_model model ∷ [] ≡ plain_models (take (at + 1) models) =
    ap (λ (m : Model). plain_models (take at models) ++ plain_model m ∷ []) is ∙ sym (map_more plain_model models at model within) in
    subst (λ (list : List PlainModel). HasPorts list next) more (subst (HasPorts (plain_models (take at models) ++ plain_model model ∷ [])) (sym added) put)

-- ---- the least line

module _ (models : List PlainModel) (names : List (List ℕ)) (same : names ≡ model_names models) (used : List Bool) (size : length used ≡ length models) (marked : MarksUsed models used) (ports : List (List (List ℕ))) (held : HasPorts models ports) where
  breaking_to : (line : PlainStatement) (found : Found) → Contains (lines_before models used (length models)) line → breaking_in names ports line ≡ Some found → BreaksFormals models found.0 found.1
  breaking_to line found among is =
      let at = model_of_line models used (length models) line among in
      by_body line.body refl is at
    where
      by_test : (name : List ℕ) (words : List (List ℕ)) (inner : ℕ) (test : Bool) (at : (place : ℕ) × IsMarked used place × Contains (statements_of models place) line) → line.body ≡ instance name words →
          place_of_model models name ≡ Some inner → fits_ports (get_or ports inner []) words ≡ test → (if test then None else Some (line.line, name)) ≡ Some found → BreaksFormals models found.0 found.1
      by_test name words inner true at body place fits is = cc
      by_test name words inner false at body place fits is =
          let here : (line.line, name) ≡ found = cc in
          subst (λ (f : Found). BreaksFormals models f.0 f.1) here (
            words,
            at.0,
            inner,
            ((marked at.0).0 at.1, subst (λ (b : PlainBody). Contains (statements_of models at.0) (record { line = line.line; body = b })) body at.2),
            place,
            broken_of (port_names (statements_of models inner)) words (length words) (sym (fits_same (get_or ports inner []) (port_names (statements_of models inner)) words (length words) (held inner)) ∙ fits),
          )

      told : (name : List ℕ) (words : List (List ℕ)) (inner : Option ℕ) (at : (place : ℕ) × IsMarked used place × Contains (statements_of models place) line) → line.body ≡ instance name words →
          place_of_model models name ≡ inner → breaking_at ports inner words (line.line, name) ≡ Some found → BreaksFormals models found.0 found.1
      told name words None at body place is = cc
      told name words (Some inner) at body place is = by_test name words inner (fits_ports (get_or ports inner []) words) at body place refl is

      by_body : (body : PlainBody) → line.body ≡ body → breaking_by names ports line.line body ≡ Some found →
          (place : ℕ) × IsMarked used place × Contains (statements_of models place) line → BreaksFormals models found.0 found.1
      by_body (inputs list) body is at = cc
      by_body (outputs list) body is at = cc
      by_body (clock port) body is at = cc
      by_body (cover ins output on rows) body is at = cc
      by_body (latch input output control initial) body is at = cc
      by_body (instance name words) body is at = told name words (position (bytes_eq name) names) at body (ap (λ (n : List (List ℕ)). position (bytes_eq name) n) (sym same)) is

  breaking_from : (number : ℕ) (name : List ℕ) → BreaksFormals models number name → (line : PlainStatement) × Contains (lines_before models used (length models)) line × (breaking_in names ports line ≡ Some (number, name))
  breaking_from number name (words, place, inner, here, is, breaks) =
      let wrong : fits_ports (get_or ports inner []) words ≡ false =
      fits_same (get_or ports inner []) (port_names (statements_of models inner)) words (length words) (held inner)
      ∙ fits_broken (port_names (statements_of models inner)) words (length words) breaks.0 breaks.1 breaks.2 in (
        record { line = number; body = instance name words },
        used_line models names same used size marked number name words place here,
        ap (λ (at : Option ℕ). breaking_at ports at words (number, name)) (ap (λ (n : List (List ℕ)). position (bytes_eq name) n) same ∙ is)
            ∙ ap (λ (fits : Bool). if fits then None else Some (number, name)) wrong,
      )

  pub breaking_found : (found : Option Found) (lines : List PlainStatement) → lines ≡ lines_before models used (length models) → found ≡ soonest_of (breaking_in names ports) None lines → IsLeastFound (BreaksFormals models) found
  breaking_found None lines those is =
      none_found (breaking_in names ports) (BreaksFormals models) (lines_before models used (length models)) breaking_to breaking_from (sym (is ∙ ap (soonest_of (breaking_in names ports) None) those))
  breaking_found (Some found) lines those is =
      least_found (breaking_in names ports) (BreaksFormals models) (lines_before models used (length models)) breaking_to breaking_from found (sym (is ∙ ap (soonest_of (breaking_in names ports) None) those))
