-- Tables of the first values by key, and what they say of edges and cells.
use Rattle.std.proofs.Common.{◌≡◌, ℕ, ◌+◌, ◌-◌, ◌*◌, ◌<◌, ◌≤◌, ◌/◌, Bool, true, false, not, cond, ◌&&◌, List, [], ◌∷◌, length, map, take, get_or, set, Option, Some, None, is_some, nat_eq, slice_get, sym, refl, ap, ◌∙◌, subst, inl, inr, arith, All, eqb-true, eq-eqb}
use Rattle.std.specs.List.{find}
use Rattle.std.specs.Option.{option_map, option_or, option_and_then}
use Rattle.std.proofs.lemmas.Bool.{false≢true, cases_Bool}
use Rattle.std.proofs.lemmas.Bool.Decides.{eqb_tells}
use Rattle.std.proofs.lemmas.List.{get_or-set_same, get_or-set_other, length-set, get_or_default}
use Rattle.std.proofs.lemmas.List.Folds.{find-append}
use Rattle.std.proofs.lemmas.List.Elements.{All-tail}
use Rattle.std.proofs.lemmas.Nat.{div-mul-add}
use Rattle.std.proofs.lemmas.Option.{slice_get_within, get_or_from_slice_get}
use Rattle.std.proofs.Math.Nat.{mul-le-mul_left}
use Rattle.fab_kinds.specs.declared.kind.Kind.{Kind}
use Rattle.fab_model.specs.Tiles.{PlainTile}
use Rattle.fab_model.specs.Grid.{PlainFabric, tile_at}
use Rattle.fab_fabric.specs.Fabric.{IsFabric}
use Rattle.fab_fabric.specs.declared.wire.Site.{Site}
use Rattle.fab_fabric.proofs.Numbered.{tile_within}
use Rattle.fab_fabric.proofs.Placed.{in_columns}
use Rattle.fab_netlist.specs.Plain.{IsAt}
use Rattle.fab_netlist.specs.Packed.{PlainPacked}
use Rattle.fab_implementation.specs.Plain.{Edge}
use Rattle.fab_implementation.specs.OnFabric.{kind_at}
use Rattle.fab_legal.proofs.Members.{taken_more}
use Rattle.fab_legal.proofs.Pins.{tile_of_kind, tile_type}
use Rattle.fab_features.specs.Design.{same_site}
use Rattle.fab_features.specs.inner.Listing.{Keyed, first_value, HoldsFirsts, edge_key, line_key, site_index, IsNear, IsInGrid}

-- ---- in general

-- what is read at a place
pub read_is : {X : Type 0} (table : List X) (k : ℕ) (value d : X) → k < length table → value ≡ get_or table k value → get_or table k d ≡ value
read_is table k value d few is = get_or_default table k d value few ∙ sym is

pub no_value : (o : Option ℕ) (none : Bool) → is_some o ≡ not none → none ≡ true → o ≡ None
no_value None none is told = refl
no_value (Some n) none is told = absurd (false≢true (sym (is ∙ ap not told)))

pub some_value : (o : Option ℕ) (none : Bool) → is_some o ≡ not none → none ≡ false → o ≡ None → ⊥
some_value None none is told e = false≢true (is ∙ ap not told)
some_value (Some n) none is told e = absurd cc

found_or : (o : Option Keyed) (b : Bool) (pair : Keyed) → option_map (λ (p : Keyed). p.1) (option_or o (cond b (Some pair) None)) ≡ option_or (option_map (λ (p : Keyed). p.1) o) (cond b (Some pair.1) None)
found_or None true pair = refl
found_or None false pair = refl
found_or (Some p) b pair = refl

value_more : (pairs : List Keyed) (i : ℕ) (pair : Keyed) (key : ℕ) → IsAt pairs i pair → first_value (take (i + 1) pairs) key ≡ option_or (first_value (take i pairs) key) (cond (nat_eq pair.0 key) (Some pair.1) None)
value_more pairs i pair key at =
    let test : Keyed → Bool = λ p. nat_eq p.0 key in
    ap (λ (ps : List Keyed). first_value ps key) (taken_more pairs i pair at)
    ∙ ap (option_map (λ (p : Keyed). p.1)) (find-append test (take i pairs) (pair ∷ []))
    ∙ found_or (find test (take i pairs)) (nat_eq pair.0 key) pair

or_none : (o : Option ℕ) → option_or o None ≡ o
or_none None = refl
or_none (Some n) = refl

-- a pair of a new key
pub first_more : (size : ℕ) (pairs : List Keyed) (i : ℕ) (pair : Keyed) (table : List (Option ℕ)) → IsAt pairs i pair → pair.0 < size → get_or table pair.0 None ≡ None → HoldsFirsts size (take i pairs) table →
    HoldsFirsts size (take (i + 1) pairs) (set table pair.0 (Some pair.1))
first_more size pairs i pair table at within none holds = record {
  as_many = length-set table pair.0 (Some pair.1) ∙ holds.as_many;
  each = λ key few.
      let few_keys : pair.0 < length table = omega (arith, within, holds.as_many) in
      elim (eqb_tells pair.0 key) [
        | inl t ↦ (
            let before : first_value (take i pairs) key ≡ None = sym (holds.each key few) ∙ ap (λ n. get_or table n None) (sym t.1) ∙ none in
            ap (λ n. get_or (set table pair.0 (Some pair.1)) n None) (sym t.1)
            ∙ get_or-set_same table pair.0 (Some pair.1) None few_keys
            ∙ sym (value_more pairs i pair key at ∙ ap (λ o. option_or o (cond (nat_eq pair.0 key) (Some pair.1) None)) before ∙ ap (λ b. cond b (Some pair.1) None) t.0))
        | inr f ↦ (
            get_or-set_other table pair.0 key (Some pair.1) None (λ e. f.1 (sym e))
            ∙ holds.each key few
            ∙ sym (value_more pairs i pair key at ∙ ap (λ b. option_or (first_value (take i pairs) key) (cond b (Some pair.1) None)) f.0 ∙ or_none (first_value (take i pairs) key)))
      ];
}

or_some : (o p : Option ℕ) → (o ≡ None → ⊥) → option_or o p ≡ o
or_some None p some = absurd (some refl)
or_some (Some n) p some = refl

-- a pair of a key that is known
pub first_kept : (size : ℕ) (pairs : List Keyed) (i : ℕ) (pair : Keyed) (table : List (Option ℕ)) → IsAt pairs i pair → (get_or table pair.0 None ≡ None → ⊥) → HoldsFirsts size (take i pairs) table →
    HoldsFirsts size (take (i + 1) pairs) table
first_kept size pairs i pair table at some holds = record {
  as_many = holds.as_many;
  each = λ key few.
      elim (eqb_tells pair.0 key) [
        | inl t ↦ (
            let before : first_value (take i pairs) key ≡ None → ⊥ = λ e. some (ap (λ n. get_or table n None) t.1 ∙ holds.each key few ∙ e) in
            holds.each key few ∙ sym (value_more pairs i pair key at ∙ or_some (first_value (take i pairs) key) (cond (nat_eq pair.0 key) (Some pair.1) None) before))
        | inr f ↦ (
            holds.each key few ∙ sym (value_more pairs i pair key at ∙ ap (λ b. option_or (first_value (take i pairs) key) (cond b (Some pair.1) None)) f.0 ∙ or_none (first_value (take i pairs) key)))
      ];
}

-- ---- edges

-- the first edge into a wire, by the wire from which it leads
pub first_edge : (edges : List Edge) (index : ℕ) → first_value (map edge_key edges) index ≡ option_map (λ (edge : Edge). edge.0.0) (find (λ edge. nat_eq edge.1.0 index) edges)
first_edge [] index = refl
first_edge (edge ∷ edges) index =
    elim (cases_Bool (nat_eq edge.1.0 index)) [ inl t ↦ rw t refl | inr f ↦ rw f (first_edge edges index) ]

pub left_of : (found : Option Edge) (base : ℕ) (from : Option ℕ) → from ≡ option_map (λ (edge : Edge). edge.0.0) found →
    option_map (λ n. n - base) from ≡ option_map (λ (edge : Edge). edge.0.0 - base) found
left_of None base from is = ap (option_map (λ n. n - base)) is
left_of (Some edge) base from is = ap (option_map (λ n. n - base)) is

-- ---- sites

pub few_bels : (fabric : PlainFabric) (x y : ℕ) (tile : PlainTile) → IsFabric fabric → tile_at fabric x y ≡ Some tile → length tile.bels ≤ 26
few_bels fabric x y tile is tile_is =
    let number = tile_type fabric x y tile tile_is in
    subst (λ (t : PlainTile). length t.bels ≤ 26) (get_or_from_slice_get fabric.types number.0 tile tile number.1) (is.few_bels number.0 tile (slice_get_within fabric.types number.0 tile number.1))

-- a site with a BEL is in the grid
pub site_near : (fabric : PlainFabric) (site : Site) (kind : Kind) → IsFabric fabric → kind_at fabric site ≡ Some kind → IsInGrid fabric site
site_near fabric site kind is kind_is =
    let found = tile_of_kind site (tile_at fabric site.x site.y) kind kind_is in
    let inside = tile_within fabric site.x site.y found.0 found.1 in
    let few = few_bels fabric site.x site.y found.0 is found.1 in
    record { x = inside.0; y = inside.1; bel = omega (arith, few, slice_get_within found.0.bels site.bel found.2.0 found.2.1) }

pub grid_near : (fabric : PlainFabric) (site : Site) → IsFabric fabric → IsInGrid fabric site → IsNear fabric.rows site
grid_near fabric site is near = record { x = omega (arith, near.x, is.few_columns); y = near.y; bel = near.bel }

pub sites_fit : (columns rows : ℕ) → columns ≤ 32 → rows ≤ 31 → columns * rows ≤ 992
sites_fit columns rows few low = omega (arith, mul-le-mul_left columns low, few)

pub index_fits : (fabric : PlainFabric) (site : Site) → IsInGrid fabric site → site_index fabric.rows site < fabric.columns * fabric.rows * 26
index_fits fabric site near = omega (arith, in_columns site.x site.y fabric.columns fabric.rows near.x near.y, near.bel)

-- sites of one number are the same
same_index : (fabric : PlainFabric) (a b : Site) → IsInGrid fabric a → IsInGrid fabric b → site_index fabric.rows a ≡ site_index fabric.rows b → (a.x ≡ b.x) × (a.y ≡ b.y) × (a.bel ≡ b.bel)
same_index fabric a b near_a near_b same =
    let rows = fabric.rows in
    let places : a.x * rows + a.y ≡ b.x * rows + b.y =
    sym (div-mul-add (a.x * rows + a.y) 26 a.bel near_a.bel) ∙ ap (λ n. n / 26) same ∙ div-mul-add (b.x * rows + b.y) 26 b.bel near_b.bel in
    let x_is : a.x ≡ b.x = sym (div-mul-add a.x rows a.y near_a.y) ∙ ap (λ n. n / rows) places ∙ div-mul-add b.x rows b.y near_b.y in
    let y_is : a.y ≡ b.y = omega (arith, places, ap (λ n. n * rows) x_is) in
    (x_is, y_is, omega (arith, same, places))

site_test : (fabric : PlainFabric) (a b : Site) → IsInGrid fabric a → IsInGrid fabric b → nat_eq (site_index fabric.rows a) (site_index fabric.rows b) ≡ same_site a b
site_test fabric a b near_a near_b =
    elim (eqb_tells (site_index fabric.rows a) (site_index fabric.rows b)) [
      | inl t ↦ (
          let same = same_index fabric a b near_a near_b t.1 in
          t.0 ∙ sym (rw (eq-eqb a.x b.x same.0, eq-eqb a.y b.y same.1, eq-eqb a.bel b.bel same.2) refl))
      | inr f ↦ f.0 ∙ sym (not_same (λ e. f.1 e))
    ]
  where
    all_true : (p q r : Bool) → ((p && q) && r) ≡ true → (p ≡ true) × (q ≡ true) × (r ≡ true)
    all_true true true true e = (refl, refl, refl)
    all_true true true false e = absurd (false≢true e)
    all_true true false r e = absurd (false≢true e)
    all_true false q r e = absurd (false≢true e)

    not_same : (site_index fabric.rows a ≡ site_index fabric.rows b → ⊥) → same_site a b ≡ false
    not_same apart =
        elim (cases_Bool (same_site a b)) [
          | inr f ↦ f
          | inl t ↦ (
              let parts = all_true (nat_eq a.x b.x) (nat_eq a.y b.y) (nat_eq a.bel b.bel) t in
              let x_is = eqb-true a.x b.x parts.0 in
              let y_is = eqb-true a.y b.y parts.1 in
              let bel_is = eqb-true a.bel b.bel parts.2 in
              absurd (apart (ap (λ n. (n * fabric.rows + a.y) * 26 + a.bel) x_is ∙ ap (λ n. (b.x * fabric.rows + n) * 26 + a.bel) y_is ∙ ap (λ n. (b.x * fabric.rows + b.y) * 26 + n) bel_is)))
        ]

-- the first line of a site, by its cell
pub first_line : (fabric : PlainFabric) (lines : List (ℕ × Site)) (site : Site) → All (λ line. IsInGrid fabric line.1) lines → IsInGrid fabric site →
    first_value (map (line_key fabric.rows) lines) (site_index fabric.rows site) ≡ option_map (λ (line : ℕ × Site). line.0) (find (λ line. same_site line.1 site) lines)
first_line fabric [] site near in_grid = refl
first_line fabric (line ∷ lines) site near in_grid =
    let here : IsInGrid fabric line.1 = near 0 line (omega arith) in
    let test = site_test fabric line.1 site here in_grid in
    elim (cases_Bool (same_site line.1 site)) [
      | inl t ↦ (let key : nat_eq (site_index fabric.rows line.1) (site_index fabric.rows site) ≡ true = test ∙ t in rw (key, t) refl)
      | inr f ↦ (
          let key : nat_eq (site_index fabric.rows line.1) (site_index fabric.rows site) ≡ false = test ∙ f in
          rw (key, f) (first_line fabric lines site (All-tail (λ l. IsInGrid fabric l.1) line lines near) in_grid))
    ]

pub cell_of : (packed : PlainPacked) (found : Option (ℕ × Site)) (cell : Option ℕ) → cell ≡ option_map (λ (line : ℕ × Site). line.0) found →
    option_and_then (slice_get packed.cells) cell ≡ option_and_then (λ (line : ℕ × Site). slice_get packed.cells line.0) found
cell_of packed None cell is = ap (option_and_then (slice_get packed.cells)) is
cell_of packed (Some line) cell is = ap (option_and_then (slice_get packed.cells)) is
