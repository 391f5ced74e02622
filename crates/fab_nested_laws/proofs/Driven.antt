-- Whether a point has a driver can be told: only items of its own instance, and of the one above, can drive it.
use Rattle.std.proofs.Common.{◌≡◌, ◌⊎◌, ℕ, zero, suc, Bool, true, false, List, [], ◌∷◌, Option, Some, None, Contains, refl, sym, ap, ◌∙◌, subst, inl, inr, arith}
use Rattle.std.proofs.lemmas.Bool.{cases_Bool, false≢true}
use Rattle.fab_syntax.specs.Plain.{PlainExpr, constant, variable, pick, part, concatenation, complement, operation, conditional, PlainJoin, PlainItem, wire, reg, assign, latch, clocked, instance, PlainModule}
use Rattle.fab_syntax.specs.Declarations.{module_named, is_input_of}
use Rattle.fab_meaning.specs.Points.{Path, Point, point, Driver, outside, copy, bit_of, flop, hold, module_at, JoinDrives, ItemDrives, IsDrivenByItem, Drives}
use Rattle.fab_meaning.specs.Reads.{same_point}
use Rattle.fab_meaning.proofs.Dependence.{same_point_refl, same_point_is}

-- there is one, or there is none
abbrev pub Told : Type 0 → Type 0
Told X = X ⊎ (X → ⊥)

pub another : (p q : Point) → same_point p q ≡ false → p ≡ q → ⊥
another p q f e = false≢true (sym f ∙ (ap (same_point p) (sym e) ∙ same_point_refl p))

same_told : (p q : Point) → Told (p ≡ q)
same_told p q = elim (cases_Bool (same_point p q)) [ inl t ↦ inl (same_point_is p q t) | inr f ↦ inr (another p q f) ]

-- among the elements of a list
module _ {X : Type 0} (P : X → Type 0) (told : (x : X) → Told (P x)) where
  any_told : (xs : List X) → Told ((x : X) × Contains xs x × P x)
  any_told [] = inr (λ h. let few = h.1.1 in omega (arith, few))
  any_told (x ∷ xs) =
      elim (told x) [
        | inl here ↦ inl (x, (zero, omega arith, refl), here)
        | inr differs ↦
            elim (any_told xs) [
              | inl found ↦ (let at = found.1 in inl (found.0, (suc at.0, (let few = at.1 in omega (arith, few)), at.2), found.2))
              | inr none ↦ inr (λ h. in_neither x xs differs none h.0 h.1 h.2)
            ]
      ]
    where
      in_neither : (x : X) (xs : List X) → (P x → ⊥) → ((y : X) × Contains xs y × P y → ⊥) → (y : X) → Contains (x ∷ xs) y → P y → ⊥
      in_neither x xs differs none y (zero, within, same) holds = differs (subst P (sym same) holds)
      in_neither x xs differs none y (suc place, within, same) holds = none (y, (place, omega (arith, within), same), holds)

module _ (text : List PlainModule) (p : Point) where
  -- ---- at one path

  module _ (path : Path) where
    abbrev ByJoin : (i : List ℕ) (input : Bool) (port : List ℕ) → Option PlainExpr → Type 0
    ByJoin i input port to = (d : Driver) × JoinDrives path i input port to p d

    no_name : (i port : List ℕ) (e : PlainExpr) → ((name : List ℕ) → e ≡ variable name → ⊥) → Told (ByJoin i false port (Some e))
    no_name i port e differs = inr (λ h. differs h.1.0 h.1.1)

    join_told : (i : List ℕ) (input : Bool) (port : List ℕ) (to : Option PlainExpr) → Told (ByJoin i input port to)
    join_told i input port None = inr (λ h. h.1)
    join_told i true port (Some e) =
        elim (same_told p (point (i ∷ path) port p.bit)) [ inl is ↦ inl (bit_of path e p.bit, (is, refl)) | inr differs ↦ inr (λ h. differs h.1.0) ]
    join_told i false port (Some (variable name)) =
        elim (same_told p (point path name p.bit)) [
          | inl is ↦ inl (copy (point (i ∷ path) port p.bit), (name, refl, is, refl))
          | inr differs ↦ inr (λ h.
              let named : variable name ≡ variable h.1.0 = h.1.1 in
              let same : name ≡ h.1.0 = cc in
              differs (h.1.2 ∙ ap (λ n. point path n p.bit) (sym same)))
        ]
    join_told i false port (Some (constant bits)) = no_name i port (constant bits) (λ name e. cc)
    join_told i false port (Some (pick name index)) = no_name i port (pick name index) (λ name e. cc)
    join_told i false port (Some (part name high low)) = no_name i port (part name high low) (λ name e. cc)
    join_told i false port (Some (concatenation parts)) = no_name i port (concatenation parts) (λ name e. cc)
    join_told i false port (Some (complement e)) = no_name i port (complement e) (λ name e. cc)
    join_told i false port (Some (operation op a b)) = no_name i port (operation op a b) (λ name e. cc)
    join_told i false port (Some (conditional c a b)) = no_name i port (conditional c a b) (λ name e. cc)

    abbrev ByItem : PlainItem → Type 0
    ByItem item = (d : Driver) × ItemDrives text path item p d

    item_told : (item : PlainItem) → Told (ByItem item)
    item_told (wire shape name) = inr (λ h. h.1)
    item_told (reg shape name) = inr (λ h. h.1)
    item_told (assign target e) = elim (same_told p (point path target p.bit)) [ inl is ↦ inl (bit_of path e p.bit, (is, refl)) | inr differs ↦ inr (λ h. differs h.1.0) ]
    item_told (latch target gate e) = elim (same_told p (point path target p.bit)) [ inl is ↦ inl (hold path gate e p.bit, (is, refl)) | inr differs ↦ inr (λ h. differs h.1.0) ]
    item_told (clocked clock target e) = elim (same_told p (point path target p.bit)) [ inl is ↦ inl (flop path clock e p.bit, (is, refl)) | inr differs ↦ inr (λ h. differs h.1.0) ]
    item_told (instance module_name i joins) =
        let input : List ℕ → Bool = λ port. is_input_of (module_named text module_name) port in
        let By : PlainJoin → Type 0 = λ join. ByJoin i (input join.port) join.port join.to in
        elim (any_told By (λ join. join_told i (input join.port) join.port join.to) joins) [
          | inl found ↦ inl (found.2.0, (found.0, found.1, found.2.1))
          | inr none ↦ inr (λ h. none (h.1.0, h.1.1, (h.0, h.1.2)))
        ]

    -- an item of the module at the path drives the point
    abbrev At : Type 0
    At = (d : Driver) × (by : IsDrivenByItem text p d) × (by.path ≡ path)

    at_told : Told At
    at_told = told_in (module_at text path) refl
      where
        told_in : (here : Option PlainModule) → module_at text path ≡ here → Told At
        told_in None none = inr (λ h.
            let by = h.1 in
            let clash : Some by.module_here ≡ None = sym by.stands ∙ ap (module_at text) h.2 ∙ none in
            cc)
        told_in (Some m) there =
            elim (any_told ByItem item_told m.items) [
              | inl found ↦ inl (
                found.2.0,
                record { path = path; module_here = m; item = found.0; stands = there; holds = found.1; drives = found.2.1 },
                refl,
              )
              | inr none ↦ inr (λ h.
                  let by = h.1 in
                  let modules : Some by.module_here ≡ Some m = sym by.stands ∙ ap (module_at text) h.2 ∙ there in
                  let same : by.module_here ≡ m = cc in
                  none (
                    by.item,
                    subst (λ (n : PlainModule). Contains n.items by.item) same by.holds,
                    (h.0, subst (λ (x : Path). ItemDrives text x by.item p h.0) h.2 by.drives),
                  ))
            ]

  -- ---- at all paths

  -- a point that an item drives stands at the path of the item's module, or right below
  abbrev Near : Path → Type 0
  Near path = (p.path ≡ path) ⊎ ((i : List ℕ) × (p.path ≡ i ∷ path))

  join_near : (path : Path) (i : List ℕ) (input : Bool) (port : List ℕ) (to : Option PlainExpr) (d : Driver) → JoinDrives path i input port to p d → Near path
  join_near path i input port None d h = absurd h
  join_near path i true port (Some e) d h = inr (i, ap (λ (q : Point). q.path) h.0)
  join_near path i false port (Some e) d h = inl (ap (λ (q : Point). q.path) h.2)

  item_near : (path : Path) (item : PlainItem) (d : Driver) → ItemDrives text path item p d → Near path
  item_near path (wire shape name) d h = absurd h
  item_near path (reg shape name) d h = absurd h
  item_near path (assign target e) d h = inl (ap (λ (q : Point). q.path) h.0)
  item_near path (latch target gate e) d h = inl (ap (λ (q : Point). q.path) h.0)
  item_near path (clocked clock target e) d h = inl (ap (λ (q : Point). q.path) h.0)
  item_near path (instance module_name i joins) d (join, among, h) = join_near path i (is_input_of (module_named text module_name) join.port) join.port join.to d h

  abbrev Driven : Type 0
  Driven = (d : Driver) × Drives text p d

  abbrev ByAnItem : Type 0
  ByAnItem = (d : Driver) × IsDrivenByItem text p d

  near_told : (path : Path) → p.path ≡ path → Told ByAnItem
  near_told [] top =
      elim (at_told []) [
        | inl found ↦ inl (found.0, found.1)
        | inr none ↦ inr (λ h.
            elim (item_near h.1.path h.1.item h.0 h.1.drives) [
              | inl here ↦ none (h.0, h.1, sym here ∙ top)
              | inr below ↦ (let clash : [] ≡ below.0 ∷ h.1.path = sym top ∙ below.1 in cc)
            ])
      ]
  near_told (i ∷ path) there =
      elim (at_told (i ∷ path)) [
        | inl found ↦ inl (found.0, found.1)
        | inr none ↦
            elim (at_told path) [
              | inl found ↦ inl (found.0, found.1)
              | inr nor ↦ inr (λ h.
                  elim (item_near h.1.path h.1.item h.0 h.1.drives) [
                    | inl here ↦ none (h.0, h.1, sym here ∙ there)
                    | inr below ↦ (
                        let paths : i ∷ path ≡ below.0 ∷ h.1.path = sym there ∙ below.1 in
                        let same : h.1.path ≡ path = cc in
                        nor (h.0, h.1, same))
                  ])
            ]
      ]

  outside_told : Told ((p.path ≡ []) × (is_input_of (module_at text []) p.name ≡ true))
  outside_told = told_of p.path refl
    where
      told_of : (path : Path) → p.path ≡ path → Told ((p.path ≡ []) × (is_input_of (module_at text []) p.name ≡ true))
      told_of (i ∷ path) there = inr (λ h. let clash : i ∷ path ≡ [] = sym there ∙ h.0 in cc)
      told_of [] top =
          elim (cases_Bool (is_input_of (module_at text []) p.name)) [
            | inl input ↦ inl (top, input)
            | inr other ↦ inr (λ h. false≢true (sym other ∙ h.1))
          ]

  pub driver_told : Told Driven
  driver_told =
      elim outside_told [
        | inl here ↦ inl (outside, inl (record { top = here.0; input = here.1; is = refl }))
        | inr inside ↦
            elim (near_told p.path refl) [
              | inl found ↦ inl (found.0, inr found.1)
              | inr none ↦ inr (λ h. neither inside none h.0 h.1)
            ]
      ]
    where
      neither : ((p.path ≡ []) × (is_input_of (module_at text []) p.name ≡ true) → ⊥) → (ByAnItem → ⊥) → (d : Driver) → Drives text p d → ⊥
      neither inside none d (inl out) = inside (out.top, out.input)
      neither inside none d (inr by) = none (d, by)
