-- The wires of a sample's fabric have short names.
use Rattle.std.proofs.Common.{◌≡◌, ◌≤◌, ◌<◌, ℕ, zero, suc, ◌+◌, Bool, true, List, [], ◌∷◌, ◌++◌, codes, length, All, Option, Some, None, sym, ap, ◌∙◌, subst, refl, arith, length-append}
use Rattle.std.specs.Prelude.{nat_le}
use Rattle.std.specs.Fmt.{digits}
use Rattle.std.specs.List.{list_all}
use Rattle.std.specs.Option.{option_map_or}
use Rattle.std.proofs.lemmas.Bool.{and_parts, leb-true}
use Rattle.std.proofs.lemmas.List.Elements.{All-append, All-cons, All-from_recursion, All-map, All-nil, All-weaker}
use Rattle.std.proofs.lemmas.Option.{get_or_from_slice_get, slice_get_within}
use Rattle.fab_desk.specs.Files.{Map}
use Rattle.fab_model.specs.Tiles.{PlainTile, counted, matrix_names}
use Rattle.fab_model.specs.Grid.{PlainFabric, tile_at}
use Rattle.fab_fabric.specs.Fabric.{IsFabric}
use Rattle.fab_fabric.specs.Names.{full_name, place_name}
use Rattle.fab_fabric.proofs.Numbered.{tile_within}
use Rattle.fab_legal.proofs.Pins.{tile_type}
use Rattle.fab_impl.specs.Names.{list_to, place_wires, wire_names}
use Rattle.fab_read.specs.Fabrics.{SpellsFabric}
use Rattle.fab_sample_laws.specs.Fabrics.{TellsFabric}
use Rattle.fab_sample_laws.proofs.Assembled.{east_tile, fabrics_typed, logic_tile, west_tile}
use Rattle.fab_sample_laws.proofs.Blocks.{east, logic, west}
use Rattle.fab_flow_laws.specs.fab_legal_states_laws_ShortLaws.{IsShortName}
use Rattle.fab_flow_laws.proofs.fab_legal_states_laws_Rows.{place_length}

-- ---- tiles

abbrev is_tile_name : List ℕ → Bool
is_tile_name name = nat_le (length name) 16

-- the names of a tile's wires are short, also with its place in front of them
abbrev HasShortWires : PlainTile → Type 0
HasShortWires tile = All (λ name. length name ≤ 16) (matrix_names tile)

all_short : (names : List (List ℕ)) → list_all is_tile_name names ≡ true → All (λ name. length name ≤ 16) names
all_short [] pass = All-nil (λ name. length name ≤ 16)
all_short (name ∷ names) pass =
    let parts = and_parts (is_tile_name name) (list_all is_tile_name names) pass in
    All-cons (λ name. length name ≤ 16) name names (leb-true (length name) 16 parts.0) (all_short names parts.1)

-- they depend on the rows and the BELs of the tile alone
west_short : (tile : PlainTile) → tile.rows ≡ west.rows → tile.bels ≡ west.bels → list_all is_tile_name (matrix_names tile) ≡ true
unfolding counted digits
west_short tile rows bels = rw (rows, bels) refl

logic_short : (tile : PlainTile) → tile.rows ≡ logic.rows → tile.bels ≡ logic.bels → list_all is_tile_name (matrix_names tile) ≡ true
unfolding counted digits
logic_short tile rows bels = rw (rows, bels) refl

east_short : (tile : PlainTile) → tile.rows ≡ east.rows → tile.bels ≡ east.bels → list_all is_tile_name (matrix_names tile) ≡ true
unfolding counted digits
east_short tile rows bels = rw (rows, bels) refl

types_short : All HasShortWires (west_tile ∷ logic_tile ∷ east_tile ∷ [])
types_short =
    All-from_recursion HasShortWires (west_tile ∷ logic_tile ∷ east_tile ∷ []) (
      all_short (matrix_names west_tile) (west_short west_tile refl refl),
      (
        all_short (matrix_names logic_tile) (logic_short logic_tile refl refl),
        (all_short (matrix_names east_tile) (east_short east_tile refl refl), tt),
      ),
    )

-- ---- the fabric

all_to : {X : Type 0} (P : X → Type 0) (n : ℕ) (f : ℕ → List X) → ((k : ℕ) → k < n → All P (f k)) → All P (list_to n f)
unfolding list_to
all_to P zero f all = All-nil P
all_to P (suc n) f all = All-append P (list_to n f) (f n) (all_to P n f (λ k few. all k (omega (arith, few)))) (all n (omega arith))

module _ (fabric : PlainFabric) (is : IsFabric fabric) (types : All HasShortWires fabric.types) where
  full_short : (x y : ℕ) (name : List ℕ) → x < 32 → y < 32 → length name ≤ 16 → IsShortName (full_name x y name)
  full_short x y name few_x few_y short =
      omega (
        arith,
        length-append (place_name x y ++ codes "/") name,
        length-append (place_name x y) (codes "/"),
        place_length x y few_x few_y,
        short,
      )

  tile_short : (x y : ℕ) (tile : PlainTile) → tile_at fabric x y ≡ Some tile → HasShortWires tile
  tile_short x y tile there =
      let type = tile_type fabric x y tile there in
      subst HasShortWires (get_or_from_slice_get fabric.types type.0 tile tile type.1) (types type.0 tile (slice_get_within fabric.types type.0 tile type.1))

  place_short : (x y : ℕ) (found : Option PlainTile) → x < 32 → y < 32 → tile_at fabric x y ≡ found → All IsShortName (place_wires fabric x y)
  place_short x y None few_x few_y there = rw there (All-nil IsShortName)
  place_short x y (Some tile) few_x few_y there =
      rw there (All-map IsShortName (full_name x y) (matrix_names tile)
      (All-weaker (λ name. length name ≤ 16) (λ name. IsShortName (full_name x y name)) (λ name short. full_short x y name few_x few_y short) (matrix_names tile)
      (tile_short x y tile there)))

  wires_short : All IsShortName (wire_names fabric)
  wires_short =
      all_to IsShortName fabric.columns (λ x. list_to fabric.rows (place_wires fabric x)) (λ x below.
      all_to IsShortName fabric.rows (place_wires fabric x) (λ y under.
      place_short x y (tile_at fabric x y) (omega (arith, below, is.few_columns)) (omega (arith, under, is.few_rows)) refl))

-- files spell one fabric
pub sample_wires_short : ((files : Map) (name : List ℕ) (first second : PlainFabric) → SpellsFabric files name first → SpellsFabric files name second → first ≡ second) →
    (files : Map) (size : ℕ) → 2 ≤ size → size ≤ 16 → TellsFabric files size → (fabric : PlainFabric) → SpellsFabric files (codes "sample.csv") fabric → IsFabric fabric →
    All IsShortName (wire_names fabric)
sample_wires_short once files size least most told fabric spelled is =
    let typed = fabrics_typed files size least most told in
    let same : typed.0 ≡ fabric = once files (codes "sample.csv") typed.0 fabric typed.1 spelled in
    wires_short fabric is (subst (λ (types : List PlainTile). All HasShortWires types) (sym (ap (λ (f : PlainFabric). f.types) (sym same) ∙ typed.3)) types_short)
