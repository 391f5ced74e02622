-- The least line at which something is found.
use Rattle.std.proofs.Common.{◌≡◌, ◌⊎◌, ℕ, zero, suc, ◌<◌, ◌≤◌, Bool, true, false, if◌then◌else◌, nat_lt, nat_eq, List, [], ◌∷◌, length, get_or, position, Contains, Option, Some, None, refl, sym, ap, subst, ◌∙◌, inl, inr, arith, eqb-true}
use Rattle.std.specs.Str.{bytes_eq}
use Rattle.std.proofs.lemmas.Bool.{cases_Bool}
use Rattle.std.proofs.lemmas.Grind.{common_steps}
use Rattle.std.proofs.lemmas.List.Elements.{Contains-append_cases, Contains-append_left, Contains-append_right}
use Rattle.fab_blif_models.specs.Plain.{PlainBody, PlainStatement, PlainModel, inputs, outputs, clock, cover, latch, instance}
use Rattle.fab_instances.proofs.Members.{first_or_later, in_none}
use Rattle.fab_instances.specs.Places.{model_names, place_of_model, statements_of}
use Rattle.fab_instances.specs.Order.{IsInstanceLine, IsLeast, IsLeastFound, IsUnknown, NoLine}
use Rattle.fab_instances.specs.Uses.{Found, IsMarked, MarksUsed, found_unless, lines_before, sooner, soonest_of, unknown_by, unknown_in}
use Rattle.fab_instances.proofs.Searching.{marked_within}

-- ---- lines of marked models

module _ (models : List PlainModel) (marks : List Bool) where
  lines_if : (mark : Bool) (lines : List PlainStatement) (line : PlainStatement) → Contains (if mark then lines else []) line → (mark ≡ true) × Contains lines line
  lines_if true lines line among = (refl, among)
  lines_if false lines line among = absurd (in_none line among)

  pub model_of_line : (count : ℕ) (line : PlainStatement) → Contains (lines_before models marks count) line →
      (place : ℕ) × IsMarked marks place × Contains (statements_of models place) line
  model_of_line zero line among = absurd (in_none line among)
  model_of_line (suc count) line among =
      elim (Contains-append_cases (lines_before models marks count) (if get_or marks count false then statements_of models count else []) line among) [
        | inl before ↦ model_of_line count line before
        | inr here ↦ (
            let both = lines_if (get_or marks count false) (statements_of models count) line here in
            (count, both.0, both.1)
            )
      ]

  pub line_of_model : (count place : ℕ) (line : PlainStatement) → place < count → IsMarked marks place → Contains (statements_of models place) line →
      Contains (lines_before models marks count) line
  line_of_model zero place line within marked among = absurd (omega (arith, within))
  line_of_model (suc count) place line within marked among =
      elim (cases_Bool (nat_eq place count)) [
        | inl t ↦ (
            let here : count ≡ place = sym (eqb-true place count t) in
            let lit : get_or marks count false ≡ true = ap (λ (p : ℕ). get_or marks p false) here ∙ marked in
            Contains-append_right (lines_before models marks count) (if get_or marks count false then statements_of models count else []) line
            (subst (λ (mark : Bool). Contains (if mark then statements_of models count else []) line) (sym lit) (subst (λ (p : ℕ). Contains (statements_of models p) line) (sym here) among))
            )
        | inr f ↦ (
            let other : place < count = below_other place count within f in
            Contains-append_left (lines_before models marks count) (if get_or marks count false then statements_of models count else []) line (line_of_model count place line other marked among)
            )
      ]
    where
      below_other : (place count : ℕ) → place < suc count → nat_eq place count ≡ false → place < count
      below_other place count within other = grind (arith, common_steps)

-- ---- the least line

pub sooner_first : (first : Found) (second : Option Found) → (found : Found) × (sooner (Some first) second ≡ Some found) × (found.0 ≤ first.0)
sooner_first first None = (first, refl, omega arith)
sooner_first first (Some second) =
    elim (cases_Bool (nat_lt second.0 first.0)) [
      | inl t ↦ (second, ap (λ (b : Bool). Some (if b then second else first)) t, less second first t)
      | inr f ↦ (first, ap (λ (b : Bool). Some (if b then second else first)) f, omega arith)
    ]
  where
    less : (second first : Found) → nat_lt second.0 first.0 ≡ true → second.0 ≤ first.0
    less second first t = grind (arith, common_steps)

pub sooner_second : (first : Option Found) (second : Found) → (found : Found) × (sooner first (Some second) ≡ Some found) × (found.0 ≤ second.0)
sooner_second None second = (second, refl, omega arith)
sooner_second (Some first) second =
    elim (cases_Bool (nat_lt second.0 first.0)) [
      | inl t ↦ (second, ap (λ (b : Bool). Some (if b then second else first)) t, omega arith)
      | inr f ↦ (first, ap (λ (b : Bool). Some (if b then second else first)) f, less second first f)
    ]
  where
    less : (second first : Found) → nat_lt second.0 first.0 ≡ false → first.0 ≤ second.0
    less second first f = grind (arith, common_steps)

pub sooner_cases : (first second : Option Found) (found : Found) → sooner first second ≡ Some found → (first ≡ Some found) ⊎ (second ≡ Some found)
sooner_cases None second found is = inr is
sooner_cases (Some first) None found is = inl is
sooner_cases (Some first) (Some second) found is =
    elim (cases_Bool (nat_lt second.0 first.0)) [
      | inl t ↦ inr (sym (ap (λ (b : Bool). Some (if b then second else first)) t) ∙ is)
      | inr f ↦ inl (sym (ap (λ (b : Bool). Some (if b then second else first)) f) ∙ is)
    ]

module _ (find : PlainStatement → Option Found) where
  -- what is found stays, or something at a lesser line
  pub first_kept : (lines : List PlainStatement) (first : Option Found) (at : Found) → first ≡ Some at → (found : Found) × (soonest_of find first lines ≡ Some found) × (found.0 ≤ at.0)
  first_kept [] first at is = (at, is, omega arith)
  first_kept (line ∷ lines) first at is =
      let next = sooner_first at (find line) in
      let later = first_kept lines (sooner first (find line)) next.0 (ap (λ (f : Option Found). sooner f (find line)) is ∙ next.1) in
      (later.0, later.1, omega (arith, later.2, next.2))

  pub line_counts : (lines : List PlainStatement) (first : Option Found) (line : PlainStatement) (at : Found) → Contains lines line → find line ≡ Some at →
      (found : Found) × (soonest_of find first lines ≡ Some found) × (found.0 ≤ at.0)
  line_counts [] first line at among is = absurd (in_none line among)
  line_counts (other ∷ lines) first line at among is =
      elim (first_or_later other lines line among) [
        | inl same ↦ (
            let next = sooner_second first at in
            let here : find other ≡ Some at = ap find same ∙ is in
            let later = first_kept lines (sooner first (find other)) next.0 (ap (sooner first) here ∙ next.1) in
            (later.0, later.1, omega (arith, later.2, next.2))
            )
        | inr behind ↦ line_counts lines (sooner first (find other)) line at behind is
      ]

  pub found_in : (lines : List PlainStatement) (first : Option Found) (found : Found) → soonest_of find first lines ≡ Some found →
      (first ≡ Some found) ⊎ ((line : PlainStatement) × Contains lines line × (find line ≡ Some found))
  found_in [] first found is = inl is
  found_in (line ∷ lines) first found is =
      elim (found_in lines (sooner first (find line)) found is) [
        | inl so_far ↦ elim (sooner_cases first (find line) found so_far) [
          | inl before ↦ inl before
          | inr here ↦ inr (line, (0, omega arith, refl), here)
        ]
        | inr later ↦ inr (later.0, (suc later.1.0, omega (arith, later.1.1), later.1.2), later.2)
      ]

  module _ (P : ℕ → List ℕ → Type 0) (lines : List PlainStatement)
      (to : (line : PlainStatement) (found : Found) → Contains lines line → find line ≡ Some found → P found.0 found.1)
      (from : (number : ℕ) (name : List ℕ) → P number name → (line : PlainStatement) × Contains lines line × (find line ≡ Some (number, name))) where
    pub none_found : soonest_of find None lines ≡ None → NoLine P
    none_found is number name holds =
        let (line, among, here) = from number name holds in
        let counted = line_counts lines None line (number, name) among here in
        let wrong : None ≡ Some counted.0 = sym is ∙ counted.1 in
        cc

    pub least_found : (found : Found) → soonest_of find None lines ≡ Some found → IsLeast P found.0 found.1
    least_found found is = (
      elim (found_in lines None found is) [
        | inl none ↦ cc
        | inr at ↦ to at.0 found at.1 at.2
      ],
      others,
    )
      where
        others : (other : ℕ) (name : List ℕ) → P other name → found.0 ≤ other
        others other name holds =
            let (line, among, here) = from other name holds in
            let counted = line_counts lines None line (other, name) among here in
            let same : Some found ≡ Some counted.0 = sym is ∙ counted.1 in
            let equal : found ≡ counted.0 = cc in
            subst (λ (f : Found). f.0 ≤ other) (sym equal) counted.2

-- ---- lines of used models

module _ (models : List PlainModel) (names : List (List ℕ)) (same : names ≡ model_names models) (used : List Bool) (size : length used ≡ length models) (marked : MarksUsed models used) where
  unknown_to : (line : PlainStatement) (found : Found) → Contains (lines_before models used (length models)) line → unknown_in names line ≡ Some found → IsUnknown models found.0 found.1
  unknown_to line found among is =
      let at = model_of_line models used (length models) line among in
      by_body line.body refl is at
    where
      told : (name : List ℕ) (words : List (List ℕ)) (inner : Option ℕ) (at : (place : ℕ) × IsMarked used place × Contains (statements_of models place) line) → line.body ≡ instance name words →
          place_of_model models name ≡ inner → found_unless inner (line.line, name) ≡ Some found → IsUnknown models found.0 found.1
      told name words None at body place is =
          let here : (line.line, name) ≡ found = cc in
          subst (λ (f : Found). IsUnknown models f.0 f.1) here
          (words, at.0, ((marked at.0).0 at.1, subst (λ (b : PlainBody). Contains (statements_of models at.0) (record { line = line.line; body = b })) body at.2), place)
      told name words (Some inner) at body place is = cc

      by_body : (body : PlainBody) → line.body ≡ body → unknown_by names line.line body ≡ Some found →
          (place : ℕ) × IsMarked used place × Contains (statements_of models place) line → IsUnknown models found.0 found.1
      by_body (inputs ports) body is at = cc
      by_body (outputs ports) body is at = cc
      by_body (clock port) body is at = cc
      by_body (cover ins output on rows) body is at = cc
      by_body (latch input output control initial) body is at = cc
      by_body (instance name words) body is at = told name words (position (bytes_eq name) names) at body (ap (λ (n : List (List ℕ)). position (bytes_eq name) n) (sym same)) is

  pub used_line : (line : ℕ) (name : List ℕ) (words : List (List ℕ)) (place : ℕ) → IsInstanceLine models line name words place →
      Contains (lines_before models used (length models)) (record { line = line; body = instance name words })
  used_line line name words place (is_used, among) =
      let lit : IsMarked used place = (marked place).1 is_used in
      line_of_model models used (length models) place (record { line = line; body = instance name words }) (omega (arith, size, marked_within used place lit)) lit among

  unknown_from : (number : ℕ) (name : List ℕ) → IsUnknown models number name → (line : PlainStatement) × Contains (lines_before models used (length models)) line × (unknown_in names line ≡ Some (number, name))
  unknown_from number name (words, place, here, none) = (
    record { line = number; body = instance name words },
    used_line number name words place here,
    ap (λ (inner : Option ℕ). found_unless inner (number, name)) (ap (λ (n : List (List ℕ)). position (bytes_eq name) n) same ∙ none),
  )

  pub none_unknown : soonest_of (unknown_in names) None (lines_before models used (length models)) ≡ None → NoLine (IsUnknown models)
  none_unknown is = none_found (unknown_in names) (IsUnknown models) (lines_before models used (length models)) unknown_to unknown_from is

  pub least_unknown : (found : Found) → soonest_of (unknown_in names) None (lines_before models used (length models)) ≡ Some found → IsLeast (IsUnknown models) found.0 found.1
  least_unknown found is = least_found (unknown_in names) (IsUnknown models) (lines_before models used (length models)) unknown_to unknown_from found is

  pub unknown_found : (found : Option Found) (lines : List PlainStatement) → lines ≡ lines_before models used (length models) → found ≡ soonest_of (unknown_in names) None lines → IsLeastFound (IsUnknown models) found
  unknown_found None lines those is = none_unknown (sym (is ∙ ap (soonest_of (unknown_in names) None) those))
  unknown_found (Some found) lines those is = least_unknown found (sym (is ∙ ap (soonest_of (unknown_in names) None) those))
