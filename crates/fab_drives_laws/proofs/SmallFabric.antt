-- The small fabric keeps what the law of drives asks for.
use Rattle.std.proofs.Common.{◌≡◌, ◌≢◌, ℕ, List, [], ◌∷◌, ◌++◌, refl, sym, ap, ◌∙◌, arith, All, AllPairs, codes, decimal}
use Rattle.std.proofs.lemmas.Fmt.{decimal_digit}
use Rattle.std.proofs.lemmas.List.Elements.{All-weaker, All-from_recursion}
use Rattle.fab_syntax.specs.Plain.{PlainModule}
use Rattle.fab_fabric_text_defs.specs.fab_meaning_Points.{Point, point}
use Rattle.fab_fabric_text_defs.specs.fab_model_Tiles.{IsTile, IsPair, bare_tile, counted}
use Rattle.fab_fabric_text_defs.specs.fab_model_Wires.{source_of, dest_of, IsWire}
use Rattle.fab_fabric_text_defs.specs.fab_model_Drive.{PlainBits, copy, drive}
use Rattle.fab_fabric_text_defs.specs.fab_fabric_Sums.{sum_to}
use Rattle.fab_fabric_text_defs.specs.fab_fabric_Fabric.{IsPlace, IsFabric, AreTiles, wire_count}
use Rattle.fab_fabric_text_defs.specs.fab_fabric_Examples.{pads, lut, pad_rows, pad_bels, pad_pairs, lut_rows, lut_bels, lut_pairs}
use Rattle.fab_fabric_text_defs.proofs.fab_fabric_Samples.{pads_tile, lut_tile, pad_pairs_fit, lut_pairs_fit, two_tiles_fabric, names_differ}
use Rattle.fab_fabric_text_defs.specs.fab_gen_loader_Loader.{loader_module_name}
use Rattle.fab_fabric_text_defs.specs.Mode.{text_mode}
use Rattle.fab_fabric_text_defs.specs.Top.{top_module}
use Rattle.fab_fabric_text_defs.specs.Text.{fabric_text}
use Rattle.fab_tile_drives_laws.specs.Stands.{wire_point}
use Rattle.fab_drives_laws.specs.Points.{place_path}
use Rattle.fab_drives_laws.specs.Drives.{drive_value}
use Rattle.fab_drives_laws.specs.Examples.{small_grid, small_fabric, small_chain, ShowsCrossing, declared_names, small_top_names, small_chain_names, small_sources}
use Rattle.fab_drives_laws.proofs.Fabrics.{fabric_shows_drives}

-- ---- it is a fabric

small_wires : wire_count small_fabric ≡ 58
unfolding sum_to counted
small_wires = refl

pub small_is_fabric : IsFabric small_fabric
small_is_fabric = record {
  some_columns = omega arith;
  few_columns = omega arith;
  some_rows = omega arith;
  few_rows = omega arith;
  places = refl;
  numbers = All-from_recursion (IsPlace (pads ∷ lut ∷ [])) small_grid (omega arith, (omega arith, (omega arith, (omega arith, tt))));
  few_types = omega arith;
  names = two_tiles_fabric.names;
  few_bels = two_tiles_fabric.few_bels;
  tables = two_tiles_fabric.tables;
  few_wires = omega (arith, small_wires);
}

-- ---- of tiles

-- pairs join wires that the tile has without them
pads_is_tile : IsTile pads
pads_is_tile = record {
  rows = pads_tile.rows;
  apart = pads_tile.apart;
  few = pads_tile.few;
  pairs = All-weaker (IsPair (bare_tile (codes "IO") pad_rows pad_bels)) (IsPair pads) (λ pair is. record { output = is.output; input = is.input }) pad_pairs pad_pairs_fit;
}

lut_is_tile : IsTile lut
lut_is_tile = record {
  rows = lut_tile.rows;
  apart = lut_tile.apart;
  few = lut_tile.few;
  pairs = All-weaker (IsPair (bare_tile (codes "LOG") lut_rows lut_bels)) (IsPair lut) (λ pair is. record { output = is.output; input = is.input }) lut_pairs lut_pairs_fit;
}

pub small_is_of_tiles : AreTiles small_fabric
small_is_of_tiles = All-from_recursion IsTile (pads ∷ lut ∷ []) (pads_is_tile, (lut_is_tile, tt))

-- ---- a wire of it

zero_is : decimal 0 ≡ codes "0"
zero_is = decimal_digit 0 (omega arith)

one_is : decimal 1 ≡ codes "1"
one_is = decimal_digit 1 (omega arith)

-- the wire comes from the tile beside it
comes_from_there : (bits : PlainBits) → drive small_fabric bits 1 1 (dest_of 0 1) ≡ copy 0 1 (source_of 0 1)
comes_from_there bits = refl

abbrev placed_name : (x y name number : List ℕ) → Point
placed_name x y name number = point ((codes "X" ++ x ++ codes "Y" ++ y) ∷ []) (name ++ number) 0

end_is : wire_point (place_path 1 1) lut (dest_of 0 1) ≡ point (codes "X1Y1" ∷ []) (codes "E1END1") 0
end_is = λ j. placed_name (one_is j) (one_is j) (codes "E1END") (one_is j)

begin_is : wire_point (place_path 0 1) pads (source_of 0 1) ≡ point (codes "X0Y1" ∷ []) (codes "E1BEG1") 0
begin_is = λ j. placed_name (zero_is j) (one_is j) (codes "E1BEG") (one_is j)

pub crossing_shows : (loaders : List PlainModule) → All (λ loader. loader.name ≡ loader_module_name) loaders → ShowsCrossing (fabric_text small_fabric loaders)
crossing_shows loaders named bits inputs held now shows settled =
    let is_wire : IsWire lut (dest_of 0 1) = omega arith in
    let value_is = fabric_shows_drives small_fabric loaders small_is_fabric small_is_of_tiles named bits inputs held now shows 1 1 lut (dest_of 0 1) refl is_wire settled in
    sym (ap now end_is) ∙ value_is ∙ ap (drive_value small_fabric bits held now) (comes_from_there bits) ∙ ap now begin_is

-- ---- the names of its top

abbrev pad_names : (x y : List ℕ) → (bel : List ℕ) → List (List ℕ)
pad_names x y bel =
    let place = codes "X" ++ x ++ codes "Y" ++ y in
    (place ++ (codes "_" ++ (bel ++ codes "_O_top"))) ∷ (place ++ (codes "_" ++ (bel ++ codes "_I_top"))) ∷ (place ++ (codes "_" ++ (bel ++ codes "_T_top"))) ∷ []

abbrev begin_names : (x y name number : List ℕ) → List ℕ
begin_names x y name number = (codes "X" ++ x ++ codes "Y" ++ y) ++ (codes "_" ++ (name ++ (codes "_" ++ number)))

abbrev chain_name : (x y : List ℕ) → List ℕ
chain_name x y = (codes "X" ++ x ++ codes "Y" ++ y) ++ codes "_fab_chain"

-- where the digits of numbers are these
module _ (o i : List ℕ) where
  abbrev port_names : List (List ℕ)
  port_names =
      (codes "CLK" ∷ codes "UserCLK" ∷ codes "WriteStrobe" ∷ codes "WriteData" ∷ [])
      ++ (pad_names o o (codes "A") ++ (pad_names o o (codes "B") ++ (pad_names o i (codes "A") ++ pad_names o i (codes "B"))))

  abbrev wire_names : List (List ℕ)
  wire_names =
      begin_names o o (codes "E1BEG") o ∷ begin_names o o (codes "E1BEG") i ∷ begin_names o i (codes "E1BEG") o ∷ begin_names o i (codes "E1BEG") i
      ∷ begin_names i o (codes "W1BEG") o ∷ begin_names i i (codes "W1BEG") o ∷ []

  abbrev names_with : List (List ℕ)
  names_with =
      port_names ++ (codes "Address" ∷ codes "Strobe" ∷ (codes "Row" ++ o) ∷ (codes "Row" ++ i) ∷ (codes "fab_strobe_" ++ o) ∷ (codes "fab_strobe_" ++ i) ∷ wire_names)

  abbrev chain_names_with : List (List ℕ)
  chain_names_with = port_names ++ (chain_name o o ∷ chain_name o i ∷ chain_name i o ∷ chain_name i i ∷ wire_names)

  abbrev sources_with : List (List ℕ)
  sources_with = codes "WriteData" ∷ chain_name o o ∷ chain_name o i ∷ chain_name i o ∷ []

pub small_names_are : declared_names (top_module small_fabric) ≡ small_top_names
unfolding counted text_mode
small_names_are = λ j. names_with (zero_is j) (one_is j)

pub small_names_differ : AllPairs (λ first second. first ≢ second) small_top_names
small_names_differ = names_differ small_top_names refl

-- ---- with a chain

pub small_chain_names_are : declared_names (top_module small_chain) ≡ small_chain_names
unfolding counted text_mode
small_chain_names_are = λ j. chain_names_with (zero_is j) (one_is j)

pub small_chain_names_differ : AllPairs (λ first second. first ≢ second) small_chain_names
small_chain_names_differ = names_differ small_chain_names refl

pub small_sources_are : small_sources ≡ codes "WriteData" ∷ codes "X0Y0_fab_chain" ∷ codes "X0Y1_fab_chain" ∷ codes "X1Y0_fab_chain" ∷ []
unfolding counted
small_sources_are = λ j. sources_with (zero_is j) (one_is j)
