-- The drivers of names, one item more.
use Rattle.std.proofs.Common.{◌≡◌, ℕ, ◌+◌, false, if◌then◌else◌, List, [], ◌∷◌, ◌++◌, slice_get, Option, Some, None, refl, ap, subst, ◌∙◌, inl, inr, arith}
use Rattle.std.proofs.lemmas.Bool.{cases_Bool}
use Rattle.std.proofs.lemmas.Slice.Eq.{bytes_eq-Decides}
use Rattle.std.specs.Str.{bytes_eq}
use Rattle.fab_syntax.specs.Plain.{PlainExpr, constant, variable, pick, part, concatenation, complement, operation, conditional, PlainJoin, PlainItem, PlainModule}
use Rattle.fab_syntax.specs.Declarations.{one_if_same, one_if_variable, times_driven, times_driven_by, times_joined_out, is_input_of}
use Rattle.fab_values.specs.Declarations.{Declaration, declarations, number_of}
use Rattle.fab_equations.specs.inner.Building.{put_at, put_variable, DeclaresOnce, Spot, IsDrivenSoFar, AreDriven}
use Rattle.fab_equations.specs.declared.tables.LocalDriver.{LocalDriver}
use Rattle.fab_equations.proofs.ListPlaces.{set_here, set_elsewhere, number_is, other_number}

-- a driver stays right while nothing more drives its name
still : (spot : Spot) (a b : ℕ) (name : List ℕ) (driver : LocalDriver) → a ≡ b → IsDrivenSoFar spot a name driver → IsDrivenSoFar spot b name driver
still spot a b name driver same is = subst (λ n. IsDrivenSoFar spot n name driver) same is

pub driven_same : (spot : Spot) (a b : List ℕ → ℕ) (drivers : List LocalDriver) → ((name : List ℕ) → a name ≡ b name) → AreDriven spot a drivers → AreDriven spot b drivers
driven_same spot a b drivers same are number d at =
    let here = are number d at in (here.0, here.1, still spot (a d.name) (b d.name) d.name here.0 (same d.name) here.2)

-- an item is put at the place of a name, and nothing else is changed
pub put_here : {X : Type 0} (ds : List Declaration) (xs : List X) (name : List ℕ) (number : ℕ) (d : Declaration) (x y : X) → DeclaresOnce ds → slice_get ds number ≡ Some d →
    name ≡ d.name → slice_get xs number ≡ Some y → slice_get (put_at xs (number_of ds name) x) number ≡ Some x
put_here ds xs name number d x y once at same has =
    let place : number_of ds name ≡ Some number = ap (number_of ds) same ∙ number_is ds number d once at in
    ap (λ p. slice_get (put_at xs p x) number) place ∙ set_here xs number x y has

pub put_elsewhere : {X : Type 0} (ds : List Declaration) (xs : List X) (name : List ℕ) (number : ℕ) (d : Declaration) (x : X) → slice_get ds number ≡ Some d →
    bytes_eq name d.name ≡ false → slice_get (put_at xs (number_of ds name) x) number ≡ slice_get xs number
put_elsewhere ds xs name number d x at other = by (number_of ds name) refl
  where
    by : (place : Option ℕ) → number_of ds name ≡ place → slice_get (put_at xs place x) number ≡ slice_get xs number
    by None is = refl
    by (Some place) is = set_elsewhere xs number place x (other_number ds name number place d at other is)

pub driven_step : (spot : Spot) (times : List ℕ → ℕ) (drivers : List LocalDriver) (target : List ℕ) (driver : LocalDriver) → DeclaresOnce (declarations spot.here) →
    ((n : ℕ) → IsDrivenSoFar spot n target driver) → AreDriven spot times drivers →
    AreDriven spot (λ name. times name + one_if_same target name) (put_at drivers (number_of (declarations spot.here) target) driver)
driven_step spot times drivers target driver once drives are number d at =
    let ds = declarations spot.here in
    let old = are number d at in
    elim (cases_Bool (bytes_eq target d.name)) [
      | inl t ↦ (
          let same : target ≡ d.name = (bytes_eq-Decides target d.name).0 t in (
            driver,
            put_here ds drivers target number d driver old.0 once at same old.1,
            subst (λ (name : List ℕ). IsDrivenSoFar spot (times d.name + one_if_same target d.name) name driver) same (drives (times d.name + one_if_same target d.name)),
          ))
      | inr f ↦ (
          let none : one_if_same target d.name ≡ 0 = rw f refl in
          let more : times d.name ≡ times d.name + one_if_same target d.name = omega arith in
          (old.0, put_elsewhere ds drivers target number d driver at f ∙ old.1, still spot (times d.name) (times d.name + one_if_same target d.name) d.name old.0 more old.2))
    ]

-- an expression that is a name is driven
pub variable_step : (spot : Spot) (times : List ℕ → ℕ) (drivers : List LocalDriver) (e : PlainExpr) (driver : LocalDriver) → DeclaresOnce (declarations spot.here) →
    ((target : List ℕ) → e ≡ variable target → (n : ℕ) → IsDrivenSoFar spot n target driver) → AreDriven spot times drivers →
    AreDriven spot (λ name. times name + one_if_variable (Some e) name) (put_variable drivers (declarations spot.here) e driver)
variable_step spot times drivers (variable target) driver once drives are = driven_step spot times drivers target driver once (drives target refl) are
variable_step spot times drivers (constant bits) driver once drives are = driven_same spot times _ drivers (λ name. omega arith) are
variable_step spot times drivers (pick name index) driver once drives are = driven_same spot times _ drivers (λ name. omega arith) are
variable_step spot times drivers (part name high low) driver once drives are = driven_same spot times _ drivers (λ name. omega arith) are
variable_step spot times drivers (concatenation es) driver once drives are = driven_same spot times _ drivers (λ name. omega arith) are
variable_step spot times drivers (complement e) driver once drives are = driven_same spot times _ drivers (λ name. omega arith) are
variable_step spot times drivers (operation op a b) driver once drives are = driven_same spot times _ drivers (λ name. omega arith) are
variable_step spot times drivers (conditional c a b) driver once drives are = driven_same spot times _ drivers (λ name. omega arith) are

-- ---- counts

pub driven_append : (text : List PlainModule) (items : List PlainItem) (item : PlainItem) (name : List ℕ) →
    times_driven text (items ++ item ∷ []) name ≡ times_driven text items name + times_driven_by text item name
driven_append text [] item name = omega arith
driven_append text (x ∷ items) item name = omega (arith, driven_append text items item name)

pub joined_out_append : (of : Option PlainModule) (joins : List PlainJoin) (join : PlainJoin) (name : List ℕ) →
    times_joined_out of (joins ++ join ∷ []) name ≡ times_joined_out of joins name + (if is_input_of of join.port then 0 else one_if_variable join.to name)
joined_out_append of [] join name = omega arith
joined_out_append of (x ∷ joins) join name = omega (arith, joined_out_append of joins join name)
