-- The sites of a kind: all that there are, each once.
use Rattle.std.proofs.Common.{◌≡◌, ℕ, ◌+◌, ◌<◌, ◌≤◌, Bool, true, List, [], ◌∷◌, filter, Option, Some, None, length, get_or, slice_get, refl, sym, ◌∙◌, ap, subst, arith}
use Rattle.std.specs.List.{Contains, flat_map, enumerate_from}
use Rattle.std.specs.Option.{option_map, option_and_then}
use Rattle.std.proofs.lemmas.Bool.{false≢true}
use Rattle.std.proofs.lemmas.List.{get_or_default, length-map}
use Rattle.std.proofs.lemmas.List.Concat.{length-flat_map}
use Rattle.std.proofs.lemmas.List.FromFn.{length-enumerate_from, get_or-enumerate_from}
use Rattle.std.proofs.lemmas.List.Sums.{length-filter, count_by-le-length, sum_by-le}
use Rattle.std.proofs.lemmas.Option.{get_or_from_slice_get, slice_get_within, slice_get-get_or}
use Rattle.fab_kinds.specs.declared.kind.Kind.{Kind}
use Rattle.fab_kinds.specs.declared.kind.Kind.TheVariants as kinds
use Rattle.fab_model.specs.declared.tiles.Bel.{Bel}
use Rattle.fab_model.specs.Tiles.{PlainTile, counted}
use Rattle.fab_model.specs.Grid.{PlainFabric, tile_at}
use Rattle.fab_fabric.specs.Fabric.{IsFabric}
use Rattle.fab_fabric.specs.declared.wire.Site.{Site}
use Rattle.fab_fabric.proofs.Numbered.{tile_within}
use Rattle.fab_netlist.proofs.Members.{mapped_in}
use Rattle.fab_implementation.specs.OnFabric.{kind_at}
use Rattle.fab_ways_laws.proofs.fab_legal_Members.{from_mapped}
use Rattle.fab_ways_laws.proofs.fab_legal_Pins.{tile_of_kind, tile_type}
use Rattle.fab_ways_laws.proofs.fab_legal_SinkLaw.{in_flat, into_flat}
use Rattle.fab_fabric.specs.Sites.{same_kind, tile_sites, sites_of_kind}
use Rattle.fab_ways_laws.proofs.Lists.{from_filter, into_filter, in_counted, from_counted}
use Rattle.fab_place.proofs.Counting.{length_counted, numbered_counted}
use Rattle.fab_place.proofs.Once.{Once, once_counted, once_filter, once_map, once_pieces}

-- ---- kinds

pub kind_same : (a b : Kind) → same_kind a b ≡ true → a ≡ b
kind_same kinds.Lut4c kinds.Lut4c h = refl
kind_same kinds.Lut4c kinds.Io h = absurd (false≢true h)
kind_same kinds.Lut4c kinds.Mux8 h = absurd (false≢true h)
kind_same kinds.Io kinds.Lut4c h = absurd (false≢true h)
kind_same kinds.Io kinds.Io h = refl
kind_same kinds.Io kinds.Mux8 h = absurd (false≢true h)
kind_same kinds.Mux8 kinds.Lut4c h = absurd (false≢true h)
kind_same kinds.Mux8 kinds.Io h = absurd (false≢true h)
kind_same kinds.Mux8 kinds.Mux8 h = refl

kind_self : (a : Kind) → same_kind a a ≡ true
kind_self kinds.Lut4c = refl
kind_self kinds.Io = refl
kind_self kinds.Mux8 = refl

-- ---- the BELs of a tile

pub numbered_at : {X : Type 0} (xs : List X) (entry : ℕ × X) → Contains (enumerate_from 0 xs) entry → (entry.0 < length xs) × (get_or xs entry.0 entry.1 ≡ entry.1)
numbered_at {X} xs entry h =
    let low : h.0 < length xs = omega (arith, h.1, length-enumerate_from 0 xs) in
    let is : entry ≡ (0 + h.0, get_or xs h.0 entry.1) = sym h.2 ∙ get_or-enumerate_from 0 xs h.0 entry low in
    let place : entry.0 ≡ h.0 = ap (λ (e : ℕ × X). e.0) is ∙ omega arith in
    (omega (arith, low, place), ap (λ (n : ℕ). get_or xs n entry.1) place ∙ sym (ap (λ (e : ℕ × X). e.1) is))

pub at_numbered : {X : Type 0} (xs : List X) (k : ℕ) (x : X) → slice_get xs k ≡ Some x → Contains (enumerate_from 0 xs) (k, x)
at_numbered {X} xs k x is =
    let low = slice_get_within xs k x is in
    (k, omega (arith, low, length-enumerate_from 0 xs), get_or-enumerate_from 0 xs k (k, x) low ∙ ap (λ (n : ℕ). (n, get_or xs k x)) (let e : 0 + k ≡ k = omega arith in e) ∙ ap (λ (y : X). (k, y)) (get_or_from_slice_get xs k x x is))

once_numbered : {X : Type 0} (xs : List X) → Once (enumerate_from 0 xs)
once_numbered [] = tt
once_numbered {X} (x ∷ xs) =
    subst (λ (es : List (ℕ × X)). Once es) (sym (numbered_counted (x ∷ xs) x))
    (once_counted (length (x ∷ xs)) (λ k. (k, get_or (x ∷ xs) k x)) (λ i j li lj e. ap (λ (entry : ℕ × X). entry.0) e))

module _ (kind : Kind) (x y : ℕ) where
  abbrev Passes : ℕ × Bel → Bool
  Passes bel = same_kind bel.1.kind kind

  abbrev here : ℕ × Bel → Site
  here bel = record { x = x; y = y; bel = bel.0 }

  once_tile : (found : Option PlainTile) → Once (tile_sites kind x y found)
  once_tile None = tt
  once_tile (Some tile) =
      once_map here (filter Passes (enumerate_from 0 tile.bels))
      (λ a b ha hb e.
      let first = numbered_at tile.bels a (from_filter Passes (enumerate_from 0 tile.bels) a ha).0 in
      let second = numbered_at tile.bels b (from_filter Passes (enumerate_from 0 tile.bels) b hb).0 in
      let same : a.0 ≡ b.0 = ap (λ (site : Site). site.bel) e in
      let bels : a.1 ≡ b.1 = sym first.1 ∙ ap (λ (n : ℕ). get_or tile.bels n a.1) same ∙ get_or_default tile.bels b.0 a.1 b.1 second.0 ∙ second.1 in
      ap (λ (n : ℕ). (n, a.1)) same ∙ ap (λ (bel : Bel). (b.0, bel)) bels)
      (once_filter Passes (enumerate_from 0 tile.bels) (once_numbered tile.bels))

  from_tile : (tile : PlainTile) (site : Site) → Contains (tile_sites kind x y (Some tile)) site → (bel : Bel) × (slice_get tile.bels site.bel ≡ Some bel) × (bel.kind ≡ kind) × (site ≡ record { x = x; y = y; bel = site.bel })
  from_tile tile site h =
      let found = from_mapped here (filter Passes (enumerate_from 0 tile.bels)) site h in
      let kept = from_filter Passes (enumerate_from 0 tile.bels) found.0 found.1 in
      let at = numbered_at tile.bels found.0 kept.0 in
      let number : found.0.0 ≡ site.bel = ap (λ (s : Site). s.bel) found.2 in
      let read : slice_get tile.bels site.bel ≡ Some found.0.1 =
      ap (slice_get tile.bels) (sym number) ∙ slice_get-get_or tile.bels found.0.0 found.0.1 at.0 ∙ ap (λ (bel : Bel). Some bel) at.1 in
      (found.0.1, read, kind_same found.0.1.kind kind kept.1, sym found.2 ∙ ap (λ (n : ℕ). here (n, found.0.1)) number)

  into_tile : (tile : PlainTile) (number : ℕ) (bel : Bel) → slice_get tile.bels number ≡ Some bel → bel.kind ≡ kind → Contains (tile_sites kind x y (Some tile)) (record { x = x; y = y; bel = number })
  into_tile tile number bel read is =
      mapped_in here (filter Passes (enumerate_from 0 tile.bels)) (number, bel)
      (into_filter Passes (enumerate_from 0 tile.bels) (number, bel) (at_numbered tile.bels number bel read) (ap (λ (k : Kind). same_kind k kind) is ∙ kind_self kind))

  few_here : (tile : PlainTile) → length (tile_sites kind x y (Some tile)) ≤ length tile.bels
  few_here tile =
      let numbered = enumerate_from 0 tile.bels in
      omega (arith, length-map (filter Passes numbered) here, length-filter Passes numbered, count_by-le-length Passes numbered, length-enumerate_from 0 tile.bels)

-- ---- the sites of a fabric

module _ (fabric : PlainFabric) (kind : Kind) where
  abbrev Place : (x y : ℕ) → List Site
  Place x y = tile_sites kind x y (tile_at fabric x y)

  abbrev Column : (x : ℕ) → List Site
  Column x = flat_map (Place x) (counted fabric.rows (λ y. y))

  -- what a site of a place is
  pub record IsOf (x y : ℕ) (site : Site) : Type 0 where
    pub column : site.x ≡ x
    pub row : site.y ≡ y
    pub of_kind : kind_at fabric site ≡ Some kind

  nothing : (x y : ℕ) (site : Site) → Contains (tile_sites kind x y None) site → ⊥
  nothing x y site h = omega (arith, h.1)

  of_found : (x y : ℕ) (found : Option PlainTile) (site : Site) → tile_at fabric x y ≡ found → Contains (tile_sites kind x y found) site → IsOf x y site
  of_found x y None site is h = absurd (nothing x y site h)
  of_found x y (Some tile) site is h =
      let found = from_tile kind x y tile site h in
      let column : site.x ≡ x = ap (λ (s : Site). s.x) found.3 in
      let row : site.y ≡ y = ap (λ (s : Site). s.y) found.3 in
      let tile_is : tile_at fabric site.x site.y ≡ Some tile = ap (λ (n : ℕ). tile_at fabric n site.y) column ∙ ap (tile_at fabric x) row ∙ is in
      record {
        column = column;
        row = row;
        of_kind = ap (λ (o : Option PlainTile). option_map (λ (bel : Bel). bel.kind) (option_and_then (λ (t : PlainTile). slice_get t.bels site.bel) o)) tile_is
            ∙ ap (λ (o : Option Bel). option_map (λ (bel : Bel). bel.kind) o) found.1 ∙ ap (λ (k : Kind). Some k) found.2;
      }

  in_place : (x y : ℕ) (site : Site) → Contains (Place x y) site → IsOf x y site
  in_place x y site h = of_found x y (tile_at fabric x y) site refl h

  in_column : (x : ℕ) (site : Site) → Contains (Column x) site → (y : ℕ) × (y < fabric.rows) × IsOf x y site
  in_column x site h =
      let found = in_flat (Place x) (counted fabric.rows (λ y. y)) site h in
      let row = from_counted fabric.rows (λ y. y) found.0 found.1 in
      (found.0, omega (arith, row.1, row.2), in_place x found.0 site found.2)

  -- a listed site has the kind, and is in the grid
  pub record IsListed (site : Site) : Type 0 where
    pub column : site.x < fabric.columns
    pub row : site.y < fabric.rows
    pub of_kind : kind_at fabric site ≡ Some kind

  pub in_sites : (site : Site) → Contains (sites_of_kind fabric kind) site → IsListed site
  in_sites site h =
      let found = in_flat Column (counted fabric.columns (λ x. x)) site h in
      let column = from_counted fabric.columns (λ x. x) found.0 found.1 in
      let there = in_column found.0 site found.2 in
      record {
        column = omega (arith, column.1, column.2, there.2.column);
        row = omega (arith, there.1, there.2.row);
        of_kind = there.2.of_kind;
      }

  pub into_sites : (site : Site) → kind_at fabric site ≡ Some kind → Contains (sites_of_kind fabric kind) site
  into_sites site is =
      let found = tile_of_kind site (tile_at fabric site.x site.y) kind is in
      let inside = tile_within fabric site.x site.y found.0 found.1 in
      let bel = found.2 in
      let here : Contains (Place site.x site.y) site =
      subst (λ (o : Option PlainTile). Contains (tile_sites kind site.x site.y o) site) (sym found.1) (into_tile kind site.x site.y found.0 site.bel bel.0 bel.1 bel.2) in
      into_flat Column (counted fabric.columns (λ x. x)) site.x site (in_counted fabric.columns (λ x. x) site.x inside.0)
      (into_flat (Place site.x) (counted fabric.rows (λ y. y)) site.y site (in_counted fabric.rows (λ y. y) site.y inside.1) here)

  pub once_sites : Once (sites_of_kind fabric kind)
  once_sites =
      once_pieces fabric.columns (λ x. x) Column
      (λ x low. once_pieces fabric.rows (λ y. y) (Place x) (λ y _. once_tile kind x y (tile_at fabric x y))
      (λ i j site li lj hi hj. sym (in_place x i site hi).row ∙ (in_place x j site hj).row))
      (λ i j site li lj hi hj. sym (in_column i site hi).2.column ∙ (in_column j site hj).2.column)

  few_found : IsFabric fabric → (x y : ℕ) (found : Option PlainTile) → tile_at fabric x y ≡ found → length (tile_sites kind x y found) ≤ 26
  few_found is x y None at = omega arith
  few_found is x y (Some tile) at =
      let number = tile_type fabric x y tile at in
      let few : length (get_or fabric.types number.0 tile).bels ≤ 26 = is.few_bels number.0 tile (slice_get_within fabric.types number.0 tile number.1) in
      let same = get_or_from_slice_get fabric.types number.0 tile tile number.1 in
      let here : length tile.bels ≤ 26 = subst (λ (t : PlainTile). length t.bels ≤ 26) same few in
      omega (arith, here, few_here kind x y tile)

  few_column : IsFabric fabric → (x : ℕ) → length (Column x) ≤ 806
  few_column is x =
      let rows = counted fabric.rows (λ y. y) in
      omega (arith, length-flat_map (Place x) rows, length_counted fabric.rows (λ y. y), is.few_rows, sum_by-le (λ y. length (Place x y)) 26 rows (λ k d low. few_found is x (get_or rows k d) (tile_at fabric x (get_or rows k d)) refl))

  pub few_sites : IsFabric fabric → length (sites_of_kind fabric kind) ≤ 25792
  few_sites is =
      let columns = counted fabric.columns (λ x. x) in
      omega (arith, length-flat_map Column columns, length_counted fabric.columns (λ x. x), is.few_columns, sum_by-le (λ x. length (Column x)) 806 columns (λ k d low. few_column is (get_or columns k d)))
