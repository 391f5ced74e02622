-- Models are fine, or they have a first refusal.
use Rattle.std.proofs.Common.{◌≡◌, ◌<◌, ◌⊎◌, ◌+◌, ℕ, zero, suc, Bool, true, false, List, [], ◌∷◌, ◌++◌, map, length, get_or, Option, Some, None, refl, ap, subst, arith, inl, inr}
use Rattle.std.specs.Prelude.{codes}
use Rattle.std.specs.List.{list_any}
use Rattle.std.specs.Str.{bytes_eq}
use Rattle.std.proofs.lemmas.Bool.{cases_eq, cases_lt}
use Rattle.std.proofs.lemmas.List.{length-map}
use Rattle.fab_base.specs.Reading.{fault_at}
use Rattle.fab_base.specs.declared.fault.Fault.{Fault}
use Rattle.fab_base.specs.declared.problem.Problem.TheVariants as problems
use Rattle.fab_base.specs.declared.words.Quantity.TheVariants as quantities
use Rattle.fab_base.specs.declared.words.Reason.TheVariants as reasons
use Rattle.fab_blif_models.specs.Plain.{PlainModel, PlainStatement}
use Rattle.fab_instances.specs.Counting.{in_64_bits, instances, most_instances}
use Rattle.fab_instances.specs.Formals.{HasPorts, port_names}
use Rattle.fab_instances.specs.Order.{BreaksFormals, IsFirstAgain, IsLeast, IsLeastFound, IsRecursive, IsUnknown, NamesDiffer, NoLine, RefusesNames, construct, is_again, model_at}
use Rattle.fab_instances.specs.Places.{model_names, no_model, statements_of}
use Rattle.fab_instances.specs.Refusals.{AreFineModels, RefusesModels}
use Rattle.fab_instances.specs.Uses.{Found, IsUsed, MarksUsed, MarksUses, Uses, UsesAt, breaking_in, directly, inner_of, instance_in, lines_before, sooner, soonest_of, through, unknown_in}
use Rattle.fab_instances.specs.inner.Ranks.{IsRecursiveAt}
use Rattle.fab_instances.proofs.Fitting.{breaking_found}
use Rattle.fab_instances.proofs.Found.{unknown_found}
use Rattle.fab_instances.proofs.Recursions.{Recursions, recursions_all, recursions_more, recursions_none, recursions_skipped, recursive_found}
use Rattle.fab_instances.proofs.Searching.{inner_within}
use Rattle.fab_ready_laws.proofs.Decisions.{IsDecided, decided_as, one_of, some_decided}
use Rattle.fab_ready_laws.proofs.Graphs.{On, on_joined, walk_decided}
use Rattle.fab_ready_laws.proofs.Leasts.{least_below, marks_of}

-- ---- names

again_decided : (b : Bool) → IsDecided (b ≡ true)
again_decided true = inl refl
again_decided false = inr (λ is. cc)

not_again : (b : Bool) → (b ≡ true → ⊥) → b ≡ false
not_again true never = absurd (never refl)
not_again false never = refl

abbrev IsAgain : List PlainModel → ℕ → Type 0
IsAgain models place = is_again models place ≡ true

abbrev NamesAreJudged : (file : List ℕ) (last : ℕ) → List PlainModel → Type 0
NamesAreJudged file last models = ((0 < length models) × NamesDiffer models) ⊎ ((fault : Fault) × RefusesNames file last models fault)

some_judged : (file : List ℕ) (last : ℕ) (models : List PlainModel) → 0 < length models → NamesAreJudged file last models
some_judged file last models some = elim (least_below (IsAgain models) (λ place. again_decided (is_again models place)) (length models)) [
  | inr none ↦ inl (some, λ place within. not_again (is_again models place) (none place within))
  | inl found ↦ (
      let first : IsFirstAgain models found.0 =
      record { within = found.1; again = found.2.0; first = λ before less. not_again (is_again models before) (found.2.1 before less) } in
      inr (fault_at file (model_at models found.0).line (problems.Malformed reasons.NameTwice), inr (found.0, first, refl)))
]

pub names_judged : (file : List ℕ) (last : ℕ) (models : List PlainModel) → NamesAreJudged file last models
names_judged file last [] = inr (fault_at file last (problems.Malformed reasons.NoModel), inl (refl, refl))
names_judged file last (model ∷ more) = some_judged file last (model ∷ more) (omega arith)

-- ---- a line that is found is the least, or there is none

least_or_none : (P : ℕ → List ℕ → Type 0) (found : Option Found) → IsLeastFound P found → NoLine P ⊎ ((line : ℕ) × (name : List ℕ) × IsLeast P line name)
least_or_none P None none = inl none
least_or_none P (Some found) least = inr (found.0, found.1, least)

ports_at : (models : List PlainModel) (place : ℕ) → get_or (map (λ (m : PlainModel). port_names m.statements) models) place [] ≡ port_names (get_or models place no_model).statements
ports_at [] zero = refl
ports_at [] (suc place) = refl
ports_at (model ∷ models) zero = refl
ports_at (model ∷ models) (suc place) = ports_at models place

some_place : (found : Option ℕ) (place : ℕ) → IsDecided (found ≡ Some place)
some_place None place = inr (λ is. cc)
some_place (Some other) place = decided_as (λ same. ap Some same) (λ is. let same : other ≡ place = cc in same) (cases_eq other place)

module _ (models : List PlainModel) where
  -- ---- which models use which

  inner_below : (a b : ℕ) → UsesAt models a b → b < length models
  inner_below a b uses = omega (arith, inner_within (model_names models) uses.0.body b uses.2, length-map models (λ (m : PlainModel). m.name))

  at_decided : (a b : ℕ) → IsDecided (UsesAt models a b)
  at_decided a b =
      some_decided (λ (s : PlainStatement). inner_of (model_names models) s.body ≡ Some b) (λ s. some_place (inner_of (model_names models) s.body) b) (statements_of models a)

  uses_walk : (a b : ℕ) → Uses models a b → (inner : List ℕ) × On (UsesAt models) a inner b
  uses_walk a b (directly uses) = ([], uses)
  uses_walk a b (through {middle = middle} before uses) =
      let walk = uses_walk a middle before in
      (walk.0 ++ middle ∷ [], on_joined (UsesAt models) a walk.0 middle [] b walk.1 uses)

  uses_first : (a m b : ℕ) → UsesAt models a m → Uses models m b → Uses models a b
  uses_first a m b first (directly uses) = through (directly first) uses
  uses_first a m b first (through {middle = middle} before uses) = through (uses_first a m middle first before) uses

  walk_uses : (a : ℕ) (inner : List ℕ) (b : ℕ) → On (UsesAt models) a inner b → Uses models a b
  walk_uses a [] b on = directly on
  walk_uses a (m ∷ inner) b on = uses_first a m b on.0 (walk_uses m inner b on.1)

  uses_decided : (a b : ℕ) → IsDecided (Uses models a b)
  uses_decided a b = decided_as (λ walk. walk_uses a walk.0 b walk.1) (uses_walk a b) (walk_decided (UsesAt models) at_decided (length models) inner_below a b)

  used_below : (a b : ℕ) → Uses models a b → b < length models
  used_below a b (directly uses) = inner_below a b uses
  used_below a b (through {middle = middle} before uses) = inner_below middle b uses

  uses_marks : (start : ℕ) → (marks : List Bool) × (length marks ≡ length models) × MarksUses models start marks
  uses_marks start = marks_of (Uses models start) (uses_decided start) (length models) (used_below start)

  module _ (some : 0 < length models) where
    reached_below : (place : ℕ) → IsUsed models place → place < length models
    reached_below place (inl is) = omega (arith, some, is)
    reached_below place (inr uses) = used_below 0 place uses

    used_marks : (marks : List Bool) × (length marks ≡ length models) × MarksUsed models marks
    used_marks = marks_of (IsUsed models) (λ place. one_of (cases_eq place 0) (uses_decided 0 place)) (length models) reached_below

    module _ (used : List Bool) (size : length used ≡ length models) (marked : MarksUsed models used) where
      -- ---- the least lines

      abbrev lines : List PlainStatement
      lines = lines_before models used (length models)

      unknown_judged : NoLine (IsUnknown models) ⊎ ((line : ℕ) × (name : List ℕ) × IsLeast (IsUnknown models) line name)
      unknown_judged =
          least_or_none (IsUnknown models) (soonest_of (unknown_in (model_names models)) None lines)
          (unknown_found models (model_names models) refl used size marked (soonest_of (unknown_in (model_names models)) None lines) lines refl refl)

      ports : List (List (List ℕ))
      ports = map (λ (m : PlainModel). port_names m.statements) models

      holds : HasPorts models ports
      unfolding ports
      holds place name = ap (λ (names : List (List ℕ)). list_any (bytes_eq name) names) (ports_at models place)

      formals_judged : NoLine (BreaksFormals models) ⊎ ((line : ℕ) × (name : List ℕ) × IsLeast (BreaksFormals models) line name)
      formals_judged =
          least_or_none (BreaksFormals models) (soonest_of (breaking_in (model_names models) ports) None lines)
          (breaking_found models (model_names models) refl used size marked ports holds (soonest_of (breaking_in (model_names models) ports) None lines) lines refl refl)

      -- what is found of one model
      recursive_at : (inner : ℕ) → IsUsed models inner → (found : Option Found) × IsLeastFound (IsRecursiveAt models inner) found
      recursive_at inner is_used =
          let users = uses_marks inner in
          let among = lines_before models users.0 (length models) in
          let found = soonest_of (instance_in (model_names models) inner) None among in
          (found, recursive_found models (model_names models) refl users.0 inner users.1 users.2 is_used found among refl refl)

      one_further : (count : ℕ) (found : Option Found) → Recursions models count found → (mark : Bool) → get_or used count false ≡ mark
          → (next : Option Found) × Recursions models (count + 1) next
      one_further count found before true is =
          let here = recursive_at count ((marked count).0 is) in
          (sooner found here.0, recursions_more models count found here.0 (sooner found here.0) here.1 refl before)
      one_further count found before false is = (found, recursions_skipped models used count found marked is before)

      recursions_to : (count : ℕ) → (found : Option Found) × Recursions models count found
      recursions_to zero = (None, recursions_none models)
      recursions_to (suc count) =
          let before = recursions_to count in
          let next = one_further count before.0 before.1 (get_or used count false) refl in
          let same : count + 1 ≡ suc count = omega arith in
          (next.0, subst (λ (n : ℕ). Recursions models n next.0) same next.1)

      recursive_judged : NoLine (IsRecursive models) ⊎ ((line : ℕ) × (name : List ℕ) × IsLeast (IsRecursive models) line name)
      recursive_judged =
          let all = recursions_to (length models) in
          least_or_none (IsRecursive models) all.0 (recursions_all models all.0 all.1)

      -- ---- the models

      module _ (file : List ℕ) (last : ℕ) where
        abbrev AreJudged : Type 0
        AreJudged = AreFineModels models ⊎ ((fault : Fault) × RefusesModels file last models fault)

        by_count : NoLine (IsUnknown models) → NoLine (IsRecursive models) → NoLine (BreaksFormals models) → AreJudged
        by_count known finite fits = elim (cases_lt most_instances (instances models)) [
          | inr small ↦ inl (record { known = known; finite = finite; fits = fits; small = small })
          | inl many ↦
              inr (fault_at file last (problems.Limit quantities.Instances (in_64_bits (instances models)) most_instances), inr (inr (inr (known, finite, fits, (many, refl)))))
        ]

        by_formals : NoLine (IsUnknown models) → NoLine (IsRecursive models) → AreJudged
        by_formals known finite = elim formals_judged [
          | inl fits ↦ by_count known finite fits
          | inr least ↦ inr (fault_at file least.0 (problems.Malformed reasons.Formal), inr (inr (inl (known, finite, (least.0, least.1, least.2, refl)))))
        ]

        by_recursions : NoLine (IsUnknown models) → AreJudged
        by_recursions known = elim recursive_judged [
          | inl finite ↦ by_formals known finite
          | inr least ↦
              inr (fault_at file least.0 (problems.Unsupported (construct (codes "recursive model") least.1)), inr (inl (known, (least.0, least.1, least.2, refl))))
        ]

        marked_judged : AreJudged
        marked_judged = elim unknown_judged [
          | inl known ↦ by_recursions known
          | inr least ↦ inr (fault_at file least.0 (problems.Unsupported (construct (codes "model") least.1)), inl (least.0, least.1, least.2, refl))
        ]

    pub models_judged : (file : List ℕ) (last : ℕ) → AreFineModels models ⊎ ((fault : Fault) × RefusesModels file last models fault)
    models_judged file last =
        let used = used_marks in
        marked_judged used.0 used.1 used.2 file last
