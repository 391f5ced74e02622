-- What ranks tell of recursive models.
use Rattle.std.proofs.Common.{◌≡◌, ℕ, ◌+◌, ◌<◌, ◌≤◌, Bool, true, false, not, if◌then◌else◌, ◌&&◌, nat_lt, List, [], ◌∷◌, length, get_or, position, Contains, Option, Some, None, option_map, refl, sym, ap, subst, ◌∙◌, inl, inr, arith}
use Rattle.std.specs.Option.{is_some}
use Rattle.std.specs.List.{list_all}
use Rattle.std.specs.Str.{bytes_eq}
use Rattle.std.proofs.lemmas.Bool.{cases_Bool, false≢true}
use Rattle.std.proofs.lemmas.Grind.{common_steps}
use Rattle.fab_blif_models.specs.Plain.{PlainBody, PlainStatement, PlainModel, inputs, outputs, clock, cover, latch, instance}
use Rattle.fab_instances.proofs.Members.{first_or_later, in_none}
use Rattle.fab_instances.specs.Places.{model_names, place_of_model, statements_of}
use Rattle.fab_instances.specs.Order.{IsInstanceLine, IsLeast, IsLeastFound, IsRecursive, NoLine}
use Rattle.fab_instances.specs.inner.Ranks.{IsLevel, NeverFalls, level_at, level_by, level_in, stays, stays_at}
use Rattle.fab_instances.specs.Uses.{Found, IsMarked, IsUsed, MarksUsed, Uses, UsesAt, directly, through, inner_of, soonest_of}
use Rattle.fab_instances.proofs.Found.{first_kept, found_in, line_counts}
use Rattle.fab_instances.proofs.Recursions.{last_or_before, used_inner, used_through, uses_back, uses_here}
use Rattle.fab_instances.proofs.Searching.{marked_within}

both_left : (a b : Bool) → (a && b) ≡ true → a ≡ true
both_left true b is = refl
both_left false b is = is

both_right : (a b : Bool) → (a && b) ≡ true → b ≡ true
both_right true b is = is
both_right false b is = absurd (false≢true is)

test_of : (p : PlainStatement → Bool) (lines : List PlainStatement) (line : PlainStatement) → list_all p lines ≡ true → Contains lines line → p line ≡ true
test_of p [] line all among = absurd (in_none line among)
test_of p (first ∷ lines) line all among = elim (first_or_later first lines line among) [
  | inl same ↦ sym (ap p same) ∙ both_left (p first) (list_all p lines) all
  | inr later ↦ test_of p lines line (both_right (p first) (list_all p lines) all) later
]

below : (a b : ℕ) → nat_lt a b ≡ true → a < b
below a b is = grind (arith, common_steps)

not_below : (a b : ℕ) → nat_lt a b ≡ false → b ≤ a
not_below a b is = grind (arith, common_steps)

not_less : (a b : ℕ) → not (nat_lt a b) ≡ true → b ≤ a
not_less a b is = grind (arith, common_steps)

no_less : (a b : ℕ) → b ≤ a → nat_lt a b ≡ false
no_less a b is = grind (arith, common_steps)

-- nothing is found
pub none_found_of : {X : Type 0} (P : ℕ → List ℕ → Type 0) (f : X → Found) (found : Option X) → is_some found ≡ false → IsLeastFound P (option_map f found) → NoLine P
none_found_of P f None is none = none
none_found_of P f (Some at) is least = absurd (false≢true (sym is))

module _ (models : List PlainModel) (ranks : List ℕ) where
  abbrev rank : ℕ → ℕ
  rank place = get_or ranks place 0

  -- ---- no line falls

  abbrev pub AllStay : (place : ℕ) → Type 0
  AllStay place = list_all (stays (model_names models) ranks (rank place)) (statements_of models place) ≡ true

  pub all_tested : (used : List Bool) (count : ℕ) → length used ≡ length models → MarksUsed models used → count ≡ length models → ((place : ℕ) → place < count → IsMarked used place → AllStay place) → NeverFalls models ranks
  all_tested used count size marked all tested place inner is_used (line, among, is) =
      let lit : IsMarked used place = (marked place).1 is_used in
      let within : place < count = omega (arith, size, all, marked_within used place lit) in
      let test : stays (model_names models) ranks (rank place) line ≡ true = test_of (stays (model_names models) ranks (rank place)) (statements_of models place) line (tested place within lit) among in
      not_less (rank inner) (rank place) (sym (ap (stays_at ranks (rank place)) is) ∙ test)

  stays_through : NeverFalls models ranks → (place inner : ℕ) → IsUsed models place → Uses models place inner → rank place ≤ rank inner
  stays_through never place inner is_used (directly uses) = never place inner is_used uses
  stays_through never place inner is_used (through {middle} before uses) =
      omega (arith, stays_through never place middle is_used before, never middle inner (used_through models place middle is_used before) uses)

  -- a line that comes back to its model does not rise
  recursive_is_level : NeverFalls models ranks → (line : ℕ) (name : List ℕ) → IsRecursive models line name → IsLevel models ranks line name
  recursive_is_level never line name (words, place, inner, here, is, recursive) =
      let uses : UsesAt models place inner = uses_here models inner line name words place here is in
      (words, place, inner, here, is, stays_through never inner place (used_inner models place inner here.0 uses) (uses_back models inner line name words place here is recursive))

  pub none_recursive : NeverFalls models ranks → NoLine (IsLevel models ranks) → NoLine (IsRecursive models)
  none_recursive never none line name recursive = none line name (recursive_is_level never line name recursive)

  -- a recursive line that is no greater than the least one that does not rise is the least one
  pub least_recursive : NeverFalls models ranks → (level found : Found) → IsLeast (IsLevel models ranks) level.0 level.1 → IsRecursive models found.0 found.1 → found.0 ≤ level.0 → IsLeast (IsRecursive models) found.0 found.1
  least_recursive never level found least recursive no_greater = (recursive, others)
    where
      others : (other : ℕ) (name : List ℕ) → IsRecursive models other name → found.0 ≤ other
      others other name here = omega (arith, no_greater, least.1 other name (recursive_is_level never other name here))

  -- ---- where all lines rise

  pub higher_at : NoLine (IsLevel models ranks) → (place inner : ℕ) → IsUsed models place → UsesAt models place inner → rank place < rank inner
  higher_at none place inner is_used (line, among, is) = by_body line.body refl is
    where
      by_body : (body : PlainBody) → line.body ≡ body → inner_of (model_names models) body ≡ Some inner → rank place < rank inner
      by_body (inputs ports) body is = cc
      by_body (outputs ports) body is = cc
      by_body (clock port) body is = cc
      by_body (cover ins output on rows) body is = cc
      by_body (latch input output control initial) body is = cc
      by_body (instance name words) body is =
          elim (cases_Bool (nat_lt (rank place) (rank inner))) [
            | inl t ↦ below (rank place) (rank inner) t
            | inr f ↦ absurd (none line.line name (
              words,
              place,
              inner,
              (is_used, subst (λ (b : PlainBody). Contains (statements_of models place) (record { line = line.line; body = b })) body among),
              is,
              not_below (rank place) (rank inner) f,
            ))
          ]

  -- ---- the least line that does not rise

  -- What holds of what is found when the models before a place are looked at.
  pub record Levels (count : ℕ) (found : Option Found) : Type 0 where
    pub told : (at : Found) → found ≡ Some at → IsLevel models ranks at.0 at.1
    pub counts : (line : ℕ) (name : List ℕ) (words : List (List ℕ)) (place inner : ℕ) → place < count → IsInstanceLine models line name words place → place_of_model models name ≡ Some inner →
        rank inner ≤ rank place → (at : Found) × (found ≡ Some at) × (at.0 ≤ line)

  pub levels_none : Levels 0 None
  levels_none = record {
    told = λ at is. cc;
    counts = λ line name words place inner within here is no_higher. absurd (omega (arith, within));
  }

  -- a model that is not used has no such line
  pub levels_skipped : (used : List Bool) (count : ℕ) (found : Option Found) → MarksUsed models used → get_or used count false ≡ false → Levels count found → Levels (count + 1) found
  levels_skipped used count found marked unmarked before = record {
    told = before.told;
    counts = λ line name words place inner within here is no_higher. elim (last_or_before place count within) [
      | inl same ↦ absurd (false≢true (sym unmarked ∙ (marked count).1 (subst (IsUsed models) same here.0)))
      | inr lower ↦ before.counts line name words place inner lower here is no_higher
    ];
  }

  module _ (names : List (List ℕ)) (same : names ≡ model_names models) (count : ℕ) (used : IsUsed models count) where
    abbrev find : PlainStatement → Option Found
    find = level_in names ranks (rank count)

    level_here : (line : PlainStatement) (found : Found) → Contains (statements_of models count) line → find line ≡ Some found → IsLevel models ranks found.0 found.1
    level_here line found among is = by_body line.body refl is
      where
        by_test : (name : List ℕ) (words : List (List ℕ)) (inner : ℕ) (test : Bool) → line.body ≡ instance name words → place_of_model models name ≡ Some inner → nat_lt (rank count) (rank inner) ≡ test →
            (if test then None else Some (line.line, name)) ≡ Some found → IsLevel models ranks found.0 found.1
        by_test name words inner true body place test is = cc
        by_test name words inner false body place test is =
            let here : (line.line, name) ≡ found = cc in
            subst (λ (f : Found). IsLevel models ranks f.0 f.1) here (
              words,
              count,
              inner,
              (used, subst (λ (b : PlainBody). Contains (statements_of models count) (record { line = line.line; body = b })) body among),
              place,
              not_below (rank count) (rank inner) test,
            )

        told : (name : List ℕ) (words : List (List ℕ)) (inner : Option ℕ) → line.body ≡ instance name words → place_of_model models name ≡ inner → level_at ranks (rank count) inner (line.line, name) ≡ Some found →
            IsLevel models ranks found.0 found.1
        told name words None body place is = cc
        told name words (Some inner) body place is = by_test name words inner (nat_lt (rank count) (rank inner)) body place refl is

        by_body : (body : PlainBody) → line.body ≡ body → level_by names ranks (rank count) line.line body ≡ Some found → IsLevel models ranks found.0 found.1
        by_body (inputs ports) body is = cc
        by_body (outputs ports) body is = cc
        by_body (clock port) body is = cc
        by_body (cover ins output on rows) body is = cc
        by_body (latch input output control initial) body is = cc
        by_body (instance name words) body is = told name words (position (bytes_eq name) names) body (ap (λ (n : List (List ℕ)). position (bytes_eq name) n) (sym same)) is

    counted : (first : Option Found) (line : ℕ) (name : List ℕ) (words : List (List ℕ)) (inner : ℕ) → IsInstanceLine models line name words count → place_of_model models name ≡ Some inner → rank inner ≤ rank count →
        (at : Found) × (soonest_of find first (statements_of models count) ≡ Some at) × (at.0 ≤ line)
    counted first line name words inner here is no_higher =
        let statement : PlainStatement = record { line = line; body = instance name words } in
        let found : find statement ≡ Some (line, name) =
        ap (λ (i : Option ℕ). level_at ranks (rank count) i (line, name)) (ap (λ (n : List (List ℕ)). position (bytes_eq name) n) same ∙ is)
        ∙ ap (λ (b : Bool). if b then None else Some (line, name)) (no_less (rank count) (rank inner) no_higher) in
        line_counts find (statements_of models count) first statement (line, name) here.1 found

    pub levels_more : (found next : Option Found) (lines : List PlainStatement) → lines ≡ statements_of models count → next ≡ soonest_of find found lines → Levels count found → Levels (count + 1) next
    levels_more found next lines those is before = subst (Levels (count + 1)) (sym (is ∙ ap (soonest_of find found) those)) (record {
      told = λ at found_is. elim (found_in find (statements_of models count) found at found_is) [
        | inl so_far ↦ before.told at so_far
        | inr here ↦ level_here here.0 at here.1 here.2
      ];
      counts = λ line name words place inner within here is no_higher. elim (last_or_before place count within) [
        | inl at_count ↦ counted found line name words inner (subst (IsInstanceLine models line name words) at_count here) is (subst (λ (p : ℕ). rank inner ≤ rank p) at_count no_higher)
        | inr lower ↦ (
            let old = before.counts line name words place inner lower here is no_higher in
            let kept = first_kept find (statements_of models count) found old.0 old.1 in
            (kept.0, kept.1, omega (arith, kept.2, old.2))
            )
      ];
    })

  pub levels_done : (used : List Bool) (count : ℕ) (found : Option Found) → length used ≡ length models → MarksUsed models used → count ≡ length models → Levels count found → IsLeastFound (IsLevel models ranks) found
  levels_done used count None size marked all levels = none
    where
      none : NoLine (IsLevel models ranks)
      none line name (words, place, inner, here, is, no_higher) =
          let at = levels.counts line name words place inner (omega (arith, size, all, marked_within used place ((marked place).1 here.0))) here is no_higher in
          let wrong : None ≡ Some at.0 = at.1 in
          cc
  levels_done used count (Some found) size marked all levels = (levels.told found refl, others)
    where
      others : (other : ℕ) (name : List ℕ) → IsLevel models ranks other name → found.0 ≤ other
      others other name (words, place, inner, here, is, no_higher) =
          let at = levels.counts other name words place inner (omega (arith, size, all, marked_within used place ((marked place).1 here.0))) here is no_higher in
          let equal : found ≡ at.0 = cc in
          subst (λ (f : Found). f.0 ≤ other) (sym equal) at.2
