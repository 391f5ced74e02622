-- The features of the cell on a site.
use Rattle.std.proofs.Common.{◌≡◌, ℕ, Bool, true, false, ◌&&◌, List, [], ◌∷◌, ◌++◌, codes, Contains, Option, Some, None, is_some, nat_eq, slice_get, refl, subst, inl, inr, eq-eqb, eqb-true}
use Rattle.std.specs.Option.{option_and_then}
use Rattle.fab_fabric.specs.declared.wire.Site.{Site}
use Rattle.fab_netlist.specs.Packed.{PlainCell, PlainPacked}
use Rattle.fab_netlist.proofs.Members.{in_none, first_or_later, first_in, later_in, in_left, in_right, parts_true, both_true}
use Rattle.fab_legal.proofs.Members.{in_either}
use Rattle.fab_fasm.specs.declared.feature.Feature.{Feature}
use Rattle.fab_use_defs.specs.Configuring.{cell_bit}
use Rattle.fab_features.specs.Design.{feature_of, field_name, same_site, bit_features, cell_features}

-- ---- sites

pub site_same : (a b : Site) → same_site a b ≡ true → a ≡ b
site_same a b e =
    let first = parts_true (nat_eq a.x b.x && nat_eq a.y b.y) (nat_eq a.bel b.bel) e in
    let places = parts_true (nat_eq a.x b.x) (nat_eq a.y b.y) first.0 in
    let x_is = eqb-true a.x b.x places.0 in
    let y_is = eqb-true a.y b.y places.1 in
    let bel_is = eqb-true a.bel b.bel first.1 in
    λ j. record { x = x_is j; y = y_is j; bel = bel_is j }

pub same_itself : (site : Site) → same_site site site ≡ true
same_itself site = both_true (nat_eq site.x site.x && nat_eq site.y site.y) (nat_eq site.bel site.bel) (both_true (nat_eq site.x site.x) (nat_eq site.y site.y) (eq-eqb site.x site.x refl) (eq-eqb site.y site.y refl)) (eq-eqb site.bel site.bel refl)

-- the line and the cell that are found for a site
pub line_of_cell : (packed : PlainPacked) (found : Option (ℕ × Site)) (cell : PlainCell) → option_and_then (λ (line : ℕ × Site). slice_get packed.cells line.0) found ≡ Some cell →
    (line : ℕ × Site) × (found ≡ Some line) × (slice_get packed.cells line.0 ≡ Some cell)
line_of_cell packed None cell e = absurd (never cell e)
  where
    never : (c : PlainCell) → None ≡ Some c → ⊥
    never c e = cc
line_of_cell packed (Some line) cell e = (line, refl, e)

-- ---- lines

-- the fields that the lines of a cell are of
pub data IsCellFeature (resets : Bool) (cell : PlainCell) (site : Site) : Feature → Type 0 where
  table_feature : IsCellFeature resets cell site (feature_of (field_name site (codes "INIT")) 15 0 cell.table)
  latch_feature : is_some cell.latch ≡ true → IsCellFeature resets cell site (feature_of (field_name site (codes "FF")) 0 0 1)
  reset_feature : cell_bit resets cell 18 ≡ true → IsCellFeature resets cell site (feature_of (field_name site (codes "SET_NORESET")) 0 0 1)

of_bit : (site : Site) (field : List ℕ) (g : Feature) (bit : Bool) → Contains (bit_features site field bit) g → (bit ≡ true) × (feature_of (field_name site field) 0 0 1 ≡ g)
of_bit site field g true there =
    elim (first_or_later (feature_of (field_name site field) 0 0 1) [] g there) [ inl same ↦ (refl, same) | inr none ↦ absurd (in_none g none) ]
of_bit site field g false there = absurd (in_none g there)

bit_there : (site : Site) (field : List ℕ) (bit : Bool) → bit ≡ true → Contains (bit_features site field bit) (feature_of (field_name site field) 0 0 1)
bit_there site field bit is = let one = feature_of (field_name site field) 0 0 1 in rw is (first_in one [] one refl)

module _ (resets : Bool) (site : Site) (cell : PlainCell) where
  abbrev Table : Feature
  Table = feature_of (field_name site (codes "INIT")) 15 0 cell.table

  abbrev Latch : List Feature
  Latch = bit_features site (codes "FF") (is_some cell.latch)

  abbrev Reset : List Feature
  Reset = bit_features site (codes "SET_NORESET") (cell_bit resets cell 18)

  pub of_cell : (g : Feature) → Contains (cell_features resets site (Some cell)) g → IsCellFeature resets cell site g
  of_cell g here =
      elim (first_or_later Table (Latch ++ Reset) g here) [
        | inl same ↦ subst (IsCellFeature resets cell site) same table_feature
        | inr later ↦ elim (in_either Latch Reset g later) [
          | inl latch ↦ (let one = of_bit site (codes "FF") g (is_some cell.latch) latch in subst (IsCellFeature resets cell site) one.1 (latch_feature one.0))
          | inr reset ↦ (let one = of_bit site (codes "SET_NORESET") g (cell_bit resets cell 18) reset in subst (IsCellFeature resets cell site) one.1 (reset_feature one.0))
        ]
      ]

  pub latch_listed : is_some cell.latch ≡ true → Contains (cell_features resets site (Some cell)) (feature_of (field_name site (codes "FF")) 0 0 1)
  latch_listed latch =
      let one = feature_of (field_name site (codes "FF")) 0 0 1 in
      later_in Table (Latch ++ Reset) one (in_left Latch Reset one (bit_there site (codes "FF") (is_some cell.latch) latch))

  pub reset_listed : cell_bit resets cell 18 ≡ true → Contains (cell_features resets site (Some cell)) (feature_of (field_name site (codes "SET_NORESET")) 0 0 1)
  reset_listed high =
      let one = feature_of (field_name site (codes "SET_NORESET")) 0 0 1 in
      later_in Table (Latch ++ Reset) one (in_right Latch Reset one (bit_there site (codes "SET_NORESET") (cell_bit resets cell 18) high))
