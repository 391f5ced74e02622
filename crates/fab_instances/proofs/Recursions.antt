-- The least line at which a model is recursive.
use Rattle.std.proofs.Common.{◌≡◌, ◌⊎◌, ℕ, ◌+◌, ◌<◌, ◌≤◌, Bool, true, false, if◌then◌else◌, nat_eq, List, length, get_or, position, Contains, Option, Some, None, refl, sym, ap, subst, ◌∙◌, inl, inr, arith, eqb-true, eq-eqb}
use Rattle.std.specs.Str.{bytes_eq}
use Rattle.std.proofs.lemmas.Bool.{cases_Bool, false≢true}
use Rattle.std.proofs.lemmas.Grind.{common_steps}
use Rattle.std.proofs.lemmas.List.{length-map}
use Rattle.fab_blif_models.specs.Plain.{PlainBody, PlainStatement, PlainModel, inputs, outputs, clock, cover, latch, instance}
use Rattle.fab_instances.specs.Places.{model_names, place_of_model, statements_of}
use Rattle.fab_instances.specs.Order.{IsInstanceLine, IsLeastFound, IsRecursive, NoLine}
use Rattle.fab_instances.specs.inner.Ranks.{IsRecursiveAt}
use Rattle.fab_instances.specs.Uses.{Found, IsMarked, IsUsed, MarksUsed, MarksUses, Uses, UsesAt, directly, through, found_at, instance_by, instance_in, lines_before, sooner, soonest_of}
use Rattle.fab_instances.proofs.Found.{least_found, line_of_model, model_of_line, none_found, sooner_cases, sooner_first, sooner_second}
use Rattle.fab_instances.proofs.Searching.{marked_within, position_within}

-- what is below a count and one more is the last, or was below it before
pub last_or_before : (inner count : ℕ) → inner < count + 1 → (inner ≡ count) ⊎ (inner < count)
last_or_before inner count within = elim (cases_Bool (nat_eq inner count)) [
  | inl t ↦ inl (eqb-true inner count t)
  | inr f ↦ inr (other inner count within f)
]
  where
    other : (inner count : ℕ) → inner < count + 1 → nat_eq inner count ≡ false → inner < count
    other inner count within f = grind (arith, common_steps)

module _ (models : List PlainModel) where
  pub used_inner : (place inner : ℕ) → IsUsed models place → UsesAt models place inner → IsUsed models inner
  used_inner place inner (inl same) uses = inr (directly (subst (λ (p : ℕ). UsesAt models p inner) same uses))
  used_inner place inner (inr used) uses = inr (through used uses)

  pub used_through : (place inner : ℕ) → IsUsed models place → Uses models place inner → IsUsed models inner
  used_through place inner used (directly uses) = used_inner place inner used uses
  used_through place inner used (through {middle} before uses) = used_inner middle inner (used_through place middle used before) uses

  pub uses_here : (inner line : ℕ) (name : List ℕ) (words : List (List ℕ)) (place : ℕ) → IsInstanceLine models line name words place → place_of_model models name ≡ Some inner → UsesAt models place inner
  uses_here inner line name words place here is = (record { line = line; body = instance name words }, here.1, is)

  used_at : (inner line : ℕ) (name : List ℕ) → IsRecursiveAt models inner line name → IsUsed models inner
  used_at inner line name (words, place, here, is, recursive) = used_inner place inner here.0 (uses_here inner line name words place here is)

  pub uses_back : (inner line : ℕ) (name : List ℕ) (words : List (List ℕ)) (place : ℕ) → IsInstanceLine models line name words place → place_of_model models name ≡ Some inner →
      (inner ≡ place) ⊎ Uses models inner place → Uses models inner place
  uses_back inner line name words place here is (inr uses) = uses
  uses_back inner line name words place here is (inl same) = directly (subst (λ (p : ℕ). UsesAt models p place) (sym same) (subst (λ (q : ℕ). UsesAt models place q) same (uses_here inner line name words place here is)))

  pub is_recursive : (inner line : ℕ) (name : List ℕ) → IsRecursiveAt models inner line name → IsRecursive models line name
  is_recursive inner line name (words, place, here, is, recursive) = (words, place, inner, here, is, recursive)

  -- ---- instances of one model

  module _ (names : List (List ℕ)) (same : names ≡ model_names models) (users : List Bool) (inner : ℕ) (size : length users ≡ length models) (marked : MarksUses models inner users) (used : IsUsed models inner) where
    found_here : (line : PlainStatement) (found : Found) → Contains (lines_before models users (length models)) line → instance_in names inner line ≡ Some found → IsRecursiveAt models inner found.0 found.1
    found_here line found among is = by_body line.body refl is (model_of_line models users (length models) line among)
      where
        by_test : (name : List ℕ) (words : List (List ℕ)) (other : ℕ) (test : Bool) (at : (place : ℕ) × IsMarked users place × Contains (statements_of models place) line) → line.body ≡ instance name words →
            place_of_model models name ≡ Some other → nat_eq other inner ≡ test → (if test then Some (line.line, name) else None) ≡ Some found → IsRecursiveAt models inner found.0 found.1
        by_test name words other true at body place equal is =
            let here : (line.line, name) ≡ found = cc in
            let uses : Uses models inner at.0 = (marked at.0).0 at.1 in
            subst (λ (f : Found). IsRecursiveAt models inner f.0 f.1) here (
              words,
              at.0,
              (used_through inner at.0 used uses, subst (λ (b : PlainBody). Contains (statements_of models at.0) (record { line = line.line; body = b })) body at.2),
              place ∙ ap Some (eqb-true other inner equal),
              inr uses,
            )
        by_test name words other false at body place equal is = cc

        told : (name : List ℕ) (words : List (List ℕ)) (other : Option ℕ) (at : (place : ℕ) × IsMarked users place × Contains (statements_of models place) line) → line.body ≡ instance name words →
            place_of_model models name ≡ other → found_at inner other (line.line, name) ≡ Some found → IsRecursiveAt models inner found.0 found.1
        told name words None at body place is = cc
        told name words (Some other) at body place is = by_test name words other (nat_eq other inner) at body place refl is

        by_body : (body : PlainBody) → line.body ≡ body → instance_by names inner line.line body ≡ Some found →
            (place : ℕ) × IsMarked users place × Contains (statements_of models place) line → IsRecursiveAt models inner found.0 found.1
        by_body (inputs ports) body is at = cc
        by_body (outputs ports) body is at = cc
        by_body (clock port) body is at = cc
        by_body (cover ins output on rows) body is at = cc
        by_body (latch input output control initial) body is at = cc
        by_body (instance name words) body is at = told name words (position (bytes_eq name) names) at body (ap (λ (n : List (List ℕ)). position (bytes_eq name) n) (sym same)) is

    line_here : (line : ℕ) (name : List ℕ) → IsRecursiveAt models inner line name →
        (statement : PlainStatement) × Contains (lines_before models users (length models)) statement × (instance_in names inner statement ≡ Some (line, name))
    line_here line name (words, place, here, is, recursive) =
        let statement : PlainStatement = record { line = line; body = instance name words } in
        let lit : IsMarked users place = (marked place).1 (uses_back inner line name words place here is recursive) in
        let among : Contains (lines_before models users (length models)) statement =
        line_of_model models users (length models) place statement (omega (arith, size, marked_within users place lit)) lit here.1 in
        let found : instance_in names inner statement ≡ Some (line, name) =
        ap (λ (other : Option ℕ). found_at inner other (line, name)) (ap (λ (n : List (List ℕ)). position (bytes_eq name) n) same ∙ is)
        ∙ ap (λ (b : Bool). if b then Some (line, name) else None) (eq-eqb inner inner refl) in
        (statement, among, found)

    pub recursive_found : (found : Option Found) (lines : List PlainStatement) → lines ≡ lines_before models users (length models) → found ≡ soonest_of (instance_in names inner) None lines →
        IsLeastFound (IsRecursiveAt models inner) found
    recursive_found None lines those is =
        none_found (instance_in names inner) (IsRecursiveAt models inner) (lines_before models users (length models)) found_here line_here (sym (is ∙ ap (soonest_of (instance_in names inner) None) those))
    recursive_found (Some found) lines those is =
        least_found (instance_in names inner) (IsRecursiveAt models inner) (lines_before models users (length models)) found_here line_here found (sym (is ∙ ap (soonest_of (instance_in names inner) None) those))

  -- what is told of one model holds of a used one
  pub told_recursive : (inner : ℕ) (found : Option Found) (at : Found) → IsLeastFound (IsRecursiveAt models inner) found → found ≡ Some at → IsRecursive models at.0 at.1
  told_recursive inner None at least is = cc
  told_recursive inner (Some found) at least is =
      let same : found ≡ at = cc in
      subst (λ (f : Found). IsRecursive models f.0 f.1) same (is_recursive inner found.0 found.1 least.0)

  -- ---- one model after the other

  -- What holds of what is found when the models before a place are looked at.
  pub record Recursions (count : ℕ) (found : Option Found) : Type 0 where
    pub told : (at : Found) → found ≡ Some at → IsRecursive models at.0 at.1
    pub counts : (inner line : ℕ) (name : List ℕ) → inner < count → IsRecursiveAt models inner line name → (at : Found) × (found ≡ Some at) × (at.0 ≤ line)

  pub recursions_none : Recursions 0 None
  recursions_none = record {
    told = λ at is. cc;
    counts = λ inner line name within here. absurd (omega (arith, within));
  }

  -- a model that is not used has no such line
  pub recursions_skipped : (used : List Bool) (count : ℕ) (found : Option Found) → MarksUsed models used → get_or used count false ≡ false → Recursions count found → Recursions (count + 1) found
  recursions_skipped used count found marked unmarked before = record {
    told = before.told;
    counts = λ inner line name within here. elim (last_or_before inner count within) [
      | inl same ↦ absurd (false≢true (sym unmarked ∙ (marked count).1 (subst (IsUsed models) same (used_at inner line name here))))
      | inr lower ↦ before.counts inner line name lower here
    ];
  }

  -- a line of one model is no lesser than what is found of it
  counted : (inner line : ℕ) (name : List ℕ) (first here : Option Found) → IsLeastFound (IsRecursiveAt models inner) here → IsRecursiveAt models inner line name →
      (at : Found) × (sooner first here ≡ Some at) × (at.0 ≤ line)
  counted inner line name first None none recursive = absurd (none line name recursive)
  counted inner line name first (Some here) least recursive =
      let next = sooner_second first here in
      (next.0, next.1, omega (arith, next.2, least.1 line name recursive))

  pub recursions_more : (count : ℕ) (found here next : Option Found) → IsLeastFound (IsRecursiveAt models count) here → next ≡ sooner found here → Recursions count found → Recursions (count + 1) next
  recursions_more count found here next least is before = subst (Recursions (count + 1)) (sym is) (record {
    told = λ at found_is. elim (sooner_cases found here at found_is) [
      | inl so_far ↦ before.told at so_far
      | inr now ↦ told_recursive count here at least now
    ];
    counts = λ inner line name within recursive. elim (last_or_before inner count within) [
      | inl same ↦ counted count line name found here least (subst (λ (p : ℕ). IsRecursiveAt models p line name) same recursive)
      | inr lower ↦ (
          let old = before.counts inner line name lower recursive in
          let kept = sooner_first old.0 here in
          (kept.0, ap (λ (f : Option Found). sooner f here) old.1 ∙ kept.1, omega (arith, kept.2, old.2))
          )
    ];
  })

  recursive_within : (inner : ℕ) (name : List ℕ) → place_of_model models name ≡ Some inner → inner < length models
  recursive_within inner name is = omega (arith, position_within (bytes_eq name) (model_names models) inner is, length-map models (λ (m : PlainModel). m.name))

  pub recursions_all : (found : Option Found) → Recursions (length models) found → IsLeastFound (IsRecursive models) found
  recursions_all None all = none
    where
      none : NoLine (IsRecursive models)
      none line name (words, place, inner, here, is, recursive) =
          let at = all.counts inner line name (recursive_within inner name is) (words, place, here, is, recursive) in
          let wrong : None ≡ Some at.0 = at.1 in
          cc
  recursions_all (Some found) all = (all.told found refl, others)
    where
      others : (other : ℕ) (name : List ℕ) → IsRecursive models other name → found.0 ≤ other
      others other name (words, place, inner, here, is, recursive) =
          let at = all.counts inner other name (recursive_within inner name is) (words, place, here, is, recursive) in
          let equal : found ≡ at.0 = cc in
          subst (λ (f : Found). f.0 ≤ other) (sym equal) at.2

  pub recursions_done : (count : ℕ) (found : Option Found) → count ≡ length models → Recursions count found → IsLeastFound (IsRecursive models) found
  recursions_done count found all so_far = recursions_all found (subst (λ (n : ℕ). Recursions n found) all so_far)
