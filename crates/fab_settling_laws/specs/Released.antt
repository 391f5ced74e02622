-- Pads that an implementation leaves alone: where the tables list a constant 0 first for T, they are released.
use Rattle.std.specs.Prelude.{◌≡◌, ◌⊎◌, ◌<◌, ℕ, true, false, List, [], ◌∷◌, Contains, codes, map, slice_get, Some}
use Rattle.fab_bits.specs.Bits.{digits}
use Rattle.fab_kinds.specs.declared.kind.Kind.TheVariants as kinds
use Rattle.fab_kinds.specs.Pins.{pad_t}
use Rattle.fab_syntax.specs.Plain.{PlainModule}
use Rattle.fab_meaning.specs.Points.{Point, point}
use Rattle.fab_meaning.specs.Settled.{Assignment, IsSettledOn}
use Rattle.fab_meaning.specs.Runs.{Moment, IsRunOn}
use Rattle.fab_meaning.specs.Loading.{IsLoading}
use Rattle.fab_model.specs.declared.tiles.WireRow.{WireRow}
use Rattle.fab_model.specs.Rows.{is_jump, is_named, dest_bits}
use Rattle.fab_model.specs.Tiles.{PlainTile}
use Rattle.fab_model.specs.Wires.{PlainWire, dest_of, pin_of, wire_number}
use Rattle.fab_model.specs.Grid.{PlainFabric, tile_at}
use Rattle.fab_model.specs.Drive.{PlainBits, zero_bit, constant, matrix_inputs, select_value}
use Rattle.fab_fabric.specs.Fabric.{IsFabric, AreTiles}
use Rattle.fab_fabric.specs.declared.wire.Site.{Site}
use Rattle.fab_frames.specs.Stream.{stream}
use Rattle.fab_netlist.specs.Plain.{PlainNetlist}
use Rattle.fab_netlist.specs.WellMade.{IsWellMade}
use Rattle.fab_netlist.specs.Cycles.{HasNoCycle}
use Rattle.fab_netlist.specs.Packing.{packed}
use Rattle.fab_implementation.specs.Plain.{Pad, Edge, PlainTree, PlainImplementation}
use Rattle.fab_implementation.specs.OnFabric.{kind_at}
use Rattle.fab_runs_laws.specs.fab_legal_Legal.{IsLegal}
use Rattle.fab_runs_laws.specs.fab_legal_Steps.{pin_wire}
use Rattle.fab_runs_laws.specs.fab_text_loads_laws_Loads.{Writes}
use Rattle.fab_runs_laws.specs.fab_tile_drives_laws_Stands.{matrix_path, name_of, wire_point}
use Rattle.fab_runs_laws.specs.fab_fabric_text_defs_Texts.{IsFabricText}
use Rattle.fab_runs_laws.specs.fab_use_defs_Sites.{site_path, bel_point, port_point, top_point, pin_point}
use Rattle.fab_runs_laws.specs.fab_use_defs_Configuring.{Configures}
use Rattle.fab_runs_laws.specs.fab_use_defs_Headline.{DesignPoints}

-- The site is a pad, and the first input that its tile's switch matrix lists for T is a bit of a jump without a source whose value is 0, as `GND0`.
pub record ListsZeroFirst (fabric : PlainFabric) (site : Site) : Type 0 where
  pub tile : PlainTile
  pub tile_is : tile_at fabric site.x site.y ≡ Some tile
  pub is_pad : kind_at fabric site ≡ Some kinds.Io
  pub row : ℕ
  pub bit : ℕ
  pub found : WireRow
  pub row_is : slice_get tile.rows row ≡ Some found
  pub inside : bit < dest_bits found
  pub jumps : is_jump found.dir ≡ true
  pub unsourced : is_named found.source ≡ false
  pub zero : constant found.dest ≡ zero_bit
  pub later : List ℕ
  pub first : matrix_inputs tile (wire_number tile (pin_of site.bel pad_t)) ≡ wire_number tile (dest_of row bit) ∷ later

-- the points by which this input comes to T and out at the top
abbrev pub points_from : PlainTile → Site → (zero : PlainWire) → List Point
points_from tile site zero =
    wire_point (site_path site) tile zero ∷ point (matrix_path (site_path site)) (name_of tile zero) 0
    ∷ point (matrix_path (site_path site)) (name_of tile (pin_of site.bel pad_t)) 0 ∷ pin_point tile site pad_t
    ∷ bel_point site (codes "T") ∷ bel_point site (codes "T_top") ∷ port_point site (codes "T_top") ∷ top_point site (codes "T_top") ∷ []

abbrev pub release_points : (fabric : PlainFabric) (site : Site) → ListsZeroFirst fabric site → List Point
release_points fabric site lists = points_from lists.tile site (dest_of lists.row lists.bit)

-- What is held is what words left.
pub record IsLoadedWith (text : List PlainModule) (words : List ℕ) (start : Assignment) : Type 0 where
  pub moments : List Moment
  pub held : Assignment
  pub after : Assignment
  pub writes : Writes text (map (digits 32) words) moments
  pub run : IsRunOn (IsLoading text) text moments held after
  pub same : (p : Point) → IsLoading text p → start p ≡ after p

-- Where the loading points hold what the words left, T_top of the pad is 1: its driver is off.
pub record ReleasesPad (fabric : PlainFabric) (text : List PlainModule) (netlist : PlainNetlist) (implementation : PlainImplementation) (words : List ℕ)
    (site : Site) (lists : ListsZeroFirst fabric site) : Type 0 where
  -- It is so in each assignment that is settled on the loading points and on those points of the pad,
  pub released : (inputs start now : Assignment) → IsLoadedWith text words start →
      IsSettledOn (λ p. IsLoading text p ⊎ Contains (release_points fabric site lists) p) text inputs start now → now (top_point site (codes "T_top")) ≡ true
  -- and each assignment that is settled on the design points can be settled on them too, where nothing else changes.
  pub exists : (inputs start now : Assignment) → IsLoadedWith text words start → IsSettledOn (DesignPoints fabric text netlist implementation) text inputs start now →
      (all : Assignment) × IsSettledOn (λ p. DesignPoints fabric text netlist implementation p ⊎ Contains (release_points fabric site lists) p) text inputs start all
      × ((p : Point) → (Contains (release_points fabric site lists) p → ⊥) → all p ≡ now p)

-- The law. Where the bits of T select its first input, and the tables list a constant 0 there, the pad is released.
abbrev pub FirstZeroReleases : Type 0
FirstZeroReleases =
    (fabric : PlainFabric) (text : List PlainModule) (netlist : PlainNetlist) (fixed : List Pad) (implementation : PlainImplementation) (bits : PlainBits) →
    IsFabric fabric → AreTiles fabric → IsFabricText fabric text → IsWellMade netlist → HasNoCycle netlist →
    IsLegal fabric (packed netlist) fixed implementation → Configures fabric (packed netlist) implementation bits →
    (site : Site) (lists : ListsZeroFirst fabric site) → select_value lists.tile (bits site.x site.y) (wire_number lists.tile (pin_of site.bel pad_t)) ≡ 0 →
    ReleasesPad fabric text netlist implementation (stream fabric bits) site lists

-- ---- of all pads that an implementation leaves alone

-- No edge enters T of the pad. At the pad of a port one does, which says whether the pad drives.
abbrev pub IsLeftAlone : PlainFabric → PlainImplementation → Site → Type 0
IsLeftAlone fabric implementation site =
    (tree : PlainTree) (edge : Edge) → Contains implementation.trees tree → Contains tree.edges edge → edge.1 ≡ pin_wire fabric site pad_t → ⊥

abbrev pub ReleasesPads : PlainFabric → List PlainModule → PlainNetlist → PlainImplementation → (words : List ℕ) → Type 0
ReleasesPads fabric text netlist implementation words =
    (site : Site) (lists : ListsZeroFirst fabric site) → IsLeftAlone fabric implementation site → ReleasesPad fabric text netlist implementation words site lists
