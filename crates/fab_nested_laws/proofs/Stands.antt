-- The modules of the inner text stand in the outer one.
use Rattle.std.proofs.Common.{◌≡◌, ℕ, List, [], ◌∷◌, Some, None, All, refl, sym, ap, ◌∙◌, inl, inr}
use Rattle.std.specs.Str.{bytes_eq}
use Rattle.std.proofs.lemmas.Bool.{cases_Bool}
use Rattle.std.proofs.lemmas.List.Elements.{All-head, All-tail}
use Rattle.fab_syntax.specs.Plain.{PlainItem, wire, reg, assign, latch, clocked, instance, PlainModule}
use Rattle.fab_meaning.specs.Points.{Path, instance_named, instance_in, module_of, module_at}
use Rattle.fab_meaning.proofs.Modules.{module_at_holds}
use Rattle.fab_nested_laws.specs.Nested.{path_in, NamesAlike, StandsIn}

-- the instance that a name means is of one module in both texts
found_alike : (inner outer : List PlainModule) (items : List PlainItem) → All (NamesAlike inner outer) items → (j : List ℕ) →
    module_of outer (instance_named items j) ≡ module_of inner (instance_named items j)
found_alike inner outer [] all j = refl
found_alike inner outer (wire shape name ∷ items) all j = found_alike inner outer items (All-tail (NamesAlike inner outer) (wire shape name) items all) j
found_alike inner outer (reg shape name ∷ items) all j = found_alike inner outer items (All-tail (NamesAlike inner outer) (reg shape name) items all) j
found_alike inner outer (assign target e ∷ items) all j = found_alike inner outer items (All-tail (NamesAlike inner outer) (assign target e) items all) j
found_alike inner outer (latch target gate e ∷ items) all j = found_alike inner outer items (All-tail (NamesAlike inner outer) (latch target gate e) items all) j
found_alike inner outer (clocked clock target e ∷ items) all j =
    found_alike inner outer items (All-tail (NamesAlike inner outer) (clocked clock target e) items all) j
found_alike inner outer (instance module_name other joins ∷ items) all j =
    elim (cases_Bool (bytes_eq other j)) [
      | inl here ↦ rw here (All-head (NamesAlike inner outer) (instance module_name other joins) items all)
      | inr past ↦ rw past (found_alike inner outer items (All-tail (NamesAlike inner outer) (instance module_name other joins) items all) j)
    ]

-- what follows from the module above one
pub above : (text : List PlainModule) (P : Type 0) (j : List ℕ) (path : Path) (m : PlainModule) → module_at text (j ∷ path) ≡ Some m →
    ((outer : PlainModule) → module_at text path ≡ Some outer → P) → P
above text P j path m at behind =
    elim (module_at text path) as (λ here. module_at text path ≡ here → module_of text (instance_in here j) ≡ Some m → P) [
      | None ↦ λ here found. absurd (let worse : ⊥ = cc in worse)
      | Some outer ↦ λ here found. behind outer here
    ] refl at

module _ (inner outer : List PlainModule) (i : List ℕ) (stands : StandsIn inner outer i) where
  pub items_alike : (path : Path) (m : PlainModule) → module_at inner path ≡ Some m → All (NamesAlike inner outer) m.items
  items_alike path m at = module_at_holds (λ m. All (NamesAlike inner outer) m.items) inner path m stands.modules at

  pub module_inside : (path : Path) (m : PlainModule) → module_at inner path ≡ Some m → module_at outer (path_in i path) ≡ Some m
  module_inside [] m at = stands.top m at
  module_inside (j ∷ path) m at =
      elim (module_at inner path) as (λ here. module_at inner path ≡ here → module_of inner (instance_in here j) ≡ Some m →
      module_of outer (instance_in (module_at outer (path_in i path)) j) ≡ Some m) [
        | None ↦ λ here found. absurd (let worse : ⊥ = cc in worse)
        | Some holder ↦ λ here found.
            ap (λ o. module_of outer (instance_in o j)) (module_inside path holder here) ∙ found_alike inner outer holder.items (items_alike path holder here) j ∙ found
      ] refl at

  pub same_module : (path : Path) (m : PlainModule) → module_at inner path ≡ Some m → module_at outer (path_in i path) ≡ module_at inner path
  same_module path m at = module_inside path m at ∙ sym at
