-- The text of a sample's fabric is small: a top over small tiles, and modules that do not depend on the size.
use Rattle.std.proofs.Common.{◌≡◌, ◌≤◌, ◌∙◌, ℕ, ◌+◌, List, [], ◌∷◌, ◌++◌, codes, get_or, length, map, reverse, refl, sym, ap, subst, arith, lit≤, All, append_assoc}
use Rattle.std.specs.List.{flat_map, sum_by}
use Rattle.std.proofs.lemmas.Bool.{leb-true}
use Rattle.std.proofs.lemmas.List.{reverse-append}
use Rattle.std.proofs.lemmas.List.Elements.{All-from_recursion}
use Rattle.std.proofs.lemmas.List.Sums.{sum_by-cons, sum_by-append}
use Rattle.std.proofs.lemmas.Nat.{mul-le}
use Rattle.fab_syntax.specs.Plain.{PlainModule}
use Rattle.fab_syntax.specs.Spelling.{text_bytes}
use Rattle.fab_prim.specs.Modules.{module_of_kind}
use Rattle.fab_model.specs.declared.mode.Mode.TheVariants as modes
use Rattle.fab_model.specs.Tiles.{PlainTile}
use Rattle.fab_model.specs.Grid.{PlainFabric}
use Rattle.fab_gen_tile.specs.Names.{tile_module_name}
use Rattle.fab_gen_loader.specs.Expressions.{loader_module}
use Rattle.fab_gen_loader.proofs.Small as loaders
use Rattle.fab_gen_loader.specs.Loader.{loader_module_name}
use Rattle.fab_fabric_text_defs.specs.Mode.{text_mode}
use Rattle.fab_fabric_text_defs.specs.Places.{placed_tiles}
use Rattle.fab_fabric_text_defs.specs.Text.{tile_modules}
use Rattle.fab_fabric_text_defs.specs.Texts.{loaders_of, generated_text}
use Rattle.fab_fabric_text_defs.specs.Top.{top_module}
use Rattle.fab_sample_laws.proofs.fab_read_FabricsOnce.{one_fabric}
use Rattle.fab_sample_laws.specs.Fabrics.{IsSampleFabric}
use Rattle.fab_sample_laws.proofs.Assembled.{west_pairs, logic_pairs, east_pairs, west_tile, logic_tile, east_tile, fabrics_typed}
use Rattle.fab_sample_laws.specs.Sizes.{IsSmall, SampleTextsAreSmall}
use Rattle.fab_sample_laws.proofs.Sums.{of_flat_map}
use Rattle.fab_sample_laws.proofs.Printed.{module_bytes, bytes_sum}
use Rattle.fab_sample_laws.proofs.Types.{IsSmallTile}
use Rattle.fab_sample_laws.proofs.Tops.{placed_within}
use Rattle.fab_sample_laws.proofs.TopBytes.{top_within}
use Rattle.fab_sample_laws.proofs.Counts.{below, count_is}
use Rattle.fab_sample_laws.proofs.TopCounts.{top_count}
use Rattle.fab_sample_laws.proofs.Tiles.{primitives, primitives_within, sample_types, before_top, west_within, logic_within, east_within, west_has, logic_has, east_has}
use Rattle.fab_sample_laws.proofs.Grids.{types_stand, types_small, loader_has}

-- ---- any text of such parts

-- primitives and tiles, the loader and the top
abbrev whole : (prims tiles : List PlainModule) (loader top : PlainModule) → List PlainModule
whole prims tiles loader top = prims ++ (tiles ++ loader ∷ top ∷ [])

-- what stands before the top, the last first
abbrev before : (prims tiles : List PlainModule) (loader : PlainModule) → List PlainModule
before prims tiles loader = loader ∷ reverse (prims ++ tiles)

whole_bytes : (prims tiles : List PlainModule) (loader top : PlainModule) →
    length (text_bytes (whole prims tiles loader top)) ≡ length (text_bytes prims) + length (text_bytes tiles) + module_bytes loader + module_bytes top
whole_bytes prims tiles loader top =
    let first = sum_by-append module_bytes prims (tiles ++ loader ∷ top ∷ []) in
    let second = sum_by-append module_bytes tiles (loader ∷ top ∷ []) in
    let third = sum_by-cons module_bytes loader (top ∷ []) in
    let fourth = sum_by-cons module_bytes top [] in
    omega (arith, bytes_sum (whole prims tiles loader top), first, second, third, fourth, bytes_sum prims, bytes_sum tiles)

reversed : (prims tiles : List PlainModule) (loader top : PlainModule) → reverse (whole prims tiles loader top) ≡ top ∷ before prims tiles loader
reversed prims tiles loader top =
    ap reverse (sym (append_assoc prims tiles (loader ∷ top ∷ []))) ∙ reverse-append (prims ++ tiles) (loader ∷ top ∷ [])

abbrev IsShortTile : PlainTile → Type 0
IsShortTile tile = length (text_bytes (tile_modules modes.Frames tile)) ≤ 65536

tiles_within : (types : List PlainTile) → length types ≤ 3 → All IsShortTile types → length (text_bytes (flat_map (tile_modules modes.Frames) types)) ≤ 196608
tiles_within types few each =
    let sums : All (λ tile. sum_by module_bytes (tile_modules modes.Frames tile) ≤ 65536) types =
    λ k d l. subst (λ (sum : ℕ). sum ≤ 65536) (bytes_sum (tile_modules modes.Frames (get_or types k d))) (each k d l) in
    omega (arith, bytes_sum (flat_map (tile_modules modes.Frames) types), of_flat_map module_bytes 65536 (tile_modules modes.Frames) types sums, few)

-- below an instance of the tile there are few points and instances
abbrev HasFewBelow : (before : List PlainModule) → PlainTile → Type 0
HasFewBelow before tile = below before (tile_module_name tile) ≤ 30000

module _ (fabric : PlainFabric) (prims tiles : List PlainModule)
    (small : All IsSmallTile fabric.types) (frames : text_mode fabric ≡ modes.Frames) (rows : fabric.rows ≤ 16) (columns : fabric.columns ≤ 18)
    (prims_short : length (text_bytes prims) ≤ 65536) (tiles_short : length (text_bytes tiles) ≤ 196608)
    (of_loader : below (before prims tiles (loader_module fabric.rows)) loader_module_name ≤ 10000)
    (of_tiles : All (HasFewBelow (before prims tiles (loader_module fabric.rows))) fabric.types) where
  few_tiles : length (placed_tiles fabric) ≤ 288
  few_tiles = omega (arith, placed_within fabric, mul-le fabric.columns fabric.rows 18 16 columns rows)

  whole_small : IsSmall (whole prims tiles (loader_module fabric.rows) (top_module fabric))
  whole_small =
      let m : PlainModule = loader_module fabric.rows in
      let top : PlainModule = top_module fabric in
      let loader = (loaders.is_small fabric.rows m (omega (arith, rows)) refl).short in
      let count = count_is (before prims tiles m) top (whole prims tiles m top) (reversed prims tiles m top) in
      let few = top_count fabric small frames (below (before prims tiles m)) of_loader of_tiles rows columns few_tiles in
      record {
        bytes = omega (arith, whole_bytes prims tiles m top, prims_short, tiles_short, loader, top_within fabric small frames rows columns few_tiles);
        points = omega (arith, count, few);
      }

-- ---- the samples

types_short : All IsShortTile sample_types
types_short = All-from_recursion IsShortTile sample_types (
  leb-true (length (text_bytes (tile_modules modes.Frames west_tile))) 65536 west_within,
  (
    leb-true (length (text_bytes (tile_modules modes.Frames logic_tile))) 65536 logic_within,
    (leb-true (length (text_bytes (tile_modules modes.Frames east_tile))) 65536 east_within, tt),
  ),
)

types_have : (rows : ℕ) → All (HasFewBelow (before_top rows)) sample_types
types_have rows = All-from_recursion (HasFewBelow (before_top rows)) sample_types (
  leb-true (below (before_top rows) (codes "tile_SW")) 30000 (west_has rows),
  (
    leb-true (below (before_top rows) (codes "tile_SLOG")) 30000 (logic_has rows),
    (leb-true (below (before_top rows) (codes "tile_SE")) 30000 (east_has rows), tt),
  ),
)

module _ (size : ℕ) (least : 2 ≤ size) (most : size ≤ 16)
    (fabric : PlainFabric) (is : IsSampleFabric size fabric) (typed : fabric.types ≡ sample_types) where
  loader_few : below (before_top fabric.rows) loader_module_name ≤ 10000
  loader_few =
      let others : List PlainModule = reverse (primitives ++ flat_map (tile_modules modes.Frames) sample_types) in
      leb-true (below (before_top fabric.rows) loader_module_name) 10000
      (loader_has others fabric.rows (omega (arith, is.rows, least)) (omega (arith, is.rows, most)))

  -- frames keep the configuration
  in_frames : text_mode fabric ≡ modes.Frames
  unfolding text_mode
  in_frames = is.mode

  text_small : IsSmall (generated_text fabric)
  text_small =
      let tiles : List PlainModule = flat_map (tile_modules modes.Frames) sample_types in
      let are_small = subst (All IsSmallTile) (sym typed) (types_small west_pairs logic_pairs east_pairs) in
      let prims_short = leb-true (length (text_bytes primitives)) 65536 primitives_within in
      let tiles_short = tiles_within sample_types (lit≤ tt) types_short in
      let have_few = subst (All (HasFewBelow (before_top fabric.rows))) (sym typed) (types_have fabric.rows) in
      let rows : fabric.rows ≤ 16 = omega (arith, is.rows, most) in
      let columns : fabric.columns ≤ 18 = omega (arith, is.columns, most) in
      let here = whole_small fabric primitives tiles are_small in_frames rows columns prims_short tiles_short loader_few have_few in
      let stands = types_stand west_pairs logic_pairs east_pairs size fabric least most is typed in
      let types_are = sym typed ∙ sym stands.types in
      let kinds_are = sym stands.kinds in
      let mode_is = sym in_frames in
      subst IsSmall
      (λ j. map module_of_kind (kinds_are j)
      ++ (flat_map (tile_modules (mode_is j)) (types_are j) ++ (loaders_of (mode_is j) fabric.rows ++ top_module fabric ∷ []))) here

pub texts_small : SampleTextsAreSmall
texts_small files size least most told fabric spelled =
    let typed = fabrics_typed files size least most told in
    let same : typed.0 ≡ fabric = one_fabric files (codes "sample.csv") typed.0 fabric typed.1 spelled in
    subst (λ (f : PlainFabric). IsSmall (generated_text f)) same (text_small size least most typed.0 typed.2 typed.3)
