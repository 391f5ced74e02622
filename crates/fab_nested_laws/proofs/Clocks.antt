-- The clocks of the inner text, seen from the outer one.
use Rattle.std.proofs.Common.{◌≡◌, ℕ, Bool, true, false, List, [], ◌∷◌, Option, Some, None, if◌then◌else◌, refl, sym, ap, ap₂, ◌∙◌, inl, inr}
use Rattle.std.proofs.lemmas.Bool.{cases_Bool}
use Rattle.fab_syntax.specs.Plain.{PlainExpr, constant, variable, pick, part, concatenation, complement, operation, conditional, PlainModule}
use Rattle.fab_syntax.specs.Declarations.{is_input_of}
use Rattle.fab_meaning.specs.Points.{Path, instance_in, module_at}
use Rattle.fab_meaning.specs.Runs.{join_of, named_by, clock_of, is_clock}
use Rattle.fab_nested_laws.specs.Nested.{path_in, StandsIn, IsSameClock}
use Rattle.fab_nested_laws.proofs.Stands.{above, same_module}

-- two ways up that agree on names agree on what is joined; of the inner text it is asked what `ticks` tells of an input of its top
leads_alike : (clock : List ℕ) (ticks : Option (List ℕ) → Bool) → ticks None ≡ false → (lead other : List ℕ → Option (List ℕ)) →
    ((name : List ℕ) → is_clock clock (lead name) ≡ ticks (other name)) → (is_input : Bool) (to : Option PlainExpr) →
    is_clock clock (if is_input then named_by to lead else None) ≡ ticks (if is_input then named_by to other else None)
leads_alike clock ticks unnamed lead other each false to = sym unnamed
leads_alike clock ticks unnamed lead other each true None = sym unnamed
leads_alike clock ticks unnamed lead other each true (Some (variable name)) = each name
leads_alike clock ticks unnamed lead other each true (Some (constant bits)) = sym unnamed
leads_alike clock ticks unnamed lead other each true (Some (pick name index)) = sym unnamed
leads_alike clock ticks unnamed lead other each true (Some (part name high low)) = sym unnamed
leads_alike clock ticks unnamed lead other each true (Some (concatenation parts)) = sym unnamed
leads_alike clock ticks unnamed lead other each true (Some (complement e)) = sym unnamed
leads_alike clock ticks unnamed lead other each true (Some (operation op a b)) = sym unnamed
leads_alike clock ticks unnamed lead other each true (Some (conditional c a b)) = sym unnamed

module _ (inner outer : List PlainModule) (i : List ℕ) (stands : StandsIn inner outer i) (clock : List ℕ) (ticks : Option (List ℕ) → Bool) (unnamed : ticks None ≡ false)
    (same : (name : List ℕ) → is_input_of (module_at inner []) name ≡ true → is_clock clock (clock_of outer (i ∷ []) name) ≡ ticks (Some name)) where
  at_top : (m : PlainModule) (own : List ℕ) → module_at inner [] ≡ Some m → is_clock clock (clock_of outer (i ∷ []) own) ≡ ticks (clock_of inner [] own)
  at_top m own at =
      elim (cases_Bool (is_input_of (module_at inner []) own)) [
        | inl input ↦ same own input ∙ rw input refl
        | inr other ↦ (
            let none : is_input_of (module_at outer (i ∷ [])) own ≡ false = ap (λ o. is_input_of o own) (same_module inner outer i stands [] m at) ∙ other in
            rw (none, other) (sym unnamed))
      ]

  -- by induction on the path
  pub same_ticks : (path : Path) (m : PlainModule) (own : List ℕ) → module_at inner path ≡ Some m →
      is_clock clock (clock_of outer (path_in i path) own) ≡ ticks (clock_of inner path own)
  same_ticks [] m own at = at_top m own at
  same_ticks (j ∷ path) m own at =
      above inner (is_clock clock (clock_of outer (path_in i (j ∷ path)) own) ≡ ticks (clock_of inner (j ∷ path) own)) j path m at (λ holder here.
      ap₂ (λ o holds. is_clock clock (if is_input_of o own then named_by (join_of (instance_in holds j) own) (λ name. clock_of outer (path_in i path) name) else None))
      (same_module inner outer i stands (j ∷ path) m at) (same_module inner outer i stands path holder here)
      ∙ leads_alike clock ticks unnamed (λ name. clock_of outer (path_in i path) name) (λ name. clock_of inner path name) (λ name. same_ticks path holder name here)
      (is_input_of (module_at inner (j ∷ path)) own) (join_of (instance_in (module_at inner path) j) own))

-- so a clock of the outer text that is one of the inner text ticks the same flip-flops
module _ (inner outer : List PlainModule) (i : List ℕ) (stands : StandsIn inner outer i) (clock : List ℕ) (same : IsSameClock inner outer i clock) where
  pub same_clock : (path : Path) (m : PlainModule) (own : List ℕ) → module_at inner path ≡ Some m →
      is_clock clock (clock_of outer (path_in i path) own) ≡ is_clock clock (clock_of inner path own)
  same_clock path m own at = same_ticks inner outer i stands clock (is_clock clock) refl same path m own at
