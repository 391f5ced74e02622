-- The laws of sources and design points.
use Rattle.std.specs.Prelude.{[], ◌≡◌, ◌⊎◌, ◌↔◌, ◌<◌, ◌≤◌, true, false, All, Contains, ℕ, List, Some, codes, length, if◌then◌else◌}
use Rattle.fab_systems_laws.specs.Ternary.{known}
use Rattle.fab_syntax.specs.Plain.{PlainModule}
use Rattle.fab_meaning.specs.Points.{Point, point, Driver, Drives}
use Rattle.fab_meaning.specs.Settled.{Assignment, IsSettledOn}
use Rattle.fab_meaning.specs.Reads.{is_declared}
use Rattle.fab_meaning.specs.Runs.{clock_name, user_clock_name, Ticks}
use Rattle.fab_meaning.specs.Loading.{IsLoading}
use Rattle.fab_model.specs.Grid.{PlainFabric}
use Rattle.fab_model.specs.Drive.{PlainBits}
use Rattle.fab_fabric.specs.Fabric.{IsFabric, AreTiles}
use Rattle.fab_fabric.specs.declared.wire.Site.{Site}
use Rattle.fab_netlist.specs.Packed.{PlainCell, PlainPacked}
use Rattle.fab_use_defs.specs.fab_implementation_Plain.{Pad, PlainImplementation}
use Rattle.fab_use_defs.specs.fab_legal_WellMade.{IsWellMadePacked}
use Rattle.fab_use_defs.specs.fab_legal_Legal.{IsLegal}
use Rattle.fab_prim.specs.Modules.{flip_flop_name}
use Rattle.fab_use_defs.specs.fab_fabric_text_defs_Texts.{IsFabricText}
use Rattle.fab_use_defs.specs.fab_drives_laws_Points.{ShowsBits}
use Rattle.fab_use_defs.specs.fab_text_loads_laws_Loads.{IsConfigured}
use Rattle.fab_ternary_laws.specs.Shown.{Terns, tern_shown}
use Rattle.fab_use_defs.specs.Sites.{bel_point, reset_bit}
use Rattle.fab_use_defs.specs.Design.{IsBound, IsSourced, IsOfDesign, IsDesignPoint}
use Rattle.fab_use_defs.specs.Configuring.{Configures}
use Rattle.fab_use_defs.specs.Headline.{SettlesOnce}
use Rattle.fab_use_defs.specs.Sources.{Source, source_value, source_reads, HasSource}
use Rattle.fab_points_laws.specs.Shown.{Shown}
use Rattle.fab_points_laws.specs.Known.{KnowsBits}

-- ---- what points show

-- Each point with a source shows it, whatever is known beside the configuration.
abbrev pub SourcesShow : Type 0
SourcesShow =
    (fabric : PlainFabric) (text : List PlainModule) (packed : PlainPacked) (fixed : List Pad) (implementation : PlainImplementation) (bits : PlainBits)
    (inputs held : Assignment) (t : Terns) → IsFabric fabric → AreTiles fabric → IsFabricText fabric text → IsWellMadePacked packed →
    IsLegal fabric packed fixed implementation → Configures fabric packed implementation bits → KnowsBits fabric bits t →
    (p : Point) (s : Source) → HasSource fabric packed implementation p s → Shown text inputs held t p s

-- Where the loading points are settled over a configuration and known, the configuration bits are known where they are used.
abbrev pub LoadedIsKnown : Type 0
LoadedIsKnown =
    (fabric : PlainFabric) (text : List PlainModule) (bits : PlainBits) (inputs held now : Assignment) (t : Terns) → IsFabric fabric → IsFabricText fabric text →
    IsConfigured fabric bits held → IsSettledOn (IsLoading text) text inputs held now → ((p : Point) → IsLoading text p → t p ≡ known (now p)) → KnowsBits fabric bits t

-- Where the loading points are settled and known, and the latches show configuration bits, these are known where they are used.
abbrev pub ShownIsKnown : Type 0
ShownIsKnown =
    (fabric : PlainFabric) (text : List PlainModule) (bits : PlainBits) (inputs held now : Assignment) (t : Terns) → IsFabric fabric → IsFabricText fabric text →
    ShowsBits fabric bits now → IsSettledOn (IsLoading text) text inputs held now → ((p : Point) → IsLoading text p → t p ≡ known (now p)) → KnowsBits fabric bits t

-- Each named point of a design is a loading point, or has a source that reads route, cell and pad points alone, four at most.
abbrev pub DesignIsCovered : Type 0
DesignIsCovered =
    (fabric : PlainFabric) (text : List PlainModule) (packed : PlainPacked) (fixed : List Pad) (implementation : PlainImplementation) → IsFabric fabric → AreTiles fabric →
    IsFabricText fabric text → IsWellMadePacked packed → IsLegal fabric packed fixed implementation → (p : Point) → IsOfDesign fabric packed implementation p →
    IsLoading text p ⊎ ((s : Source) × HasSource fabric packed implementation p s × All (IsSourced fabric packed implementation) (source_reads s) × (length (source_reads s) ≤ 4))

-- Each point with a source is a route, cell or pad point.
abbrev pub SourcesAreOfDesign : Type 0
SourcesAreOfDesign =
    (fabric : PlainFabric) (packed : PlainPacked) (fixed : List Pad) (implementation : PlainImplementation) → AreTiles fabric → IsWellMadePacked packed →
    IsLegal fabric packed fixed implementation → (p : Point) (s : Source) → HasSource fabric packed implementation p s → IsSourced fabric packed implementation p

-- Each design point is declared.
abbrev pub DesignIsDeclared : Type 0
DesignIsDeclared =
    (fabric : PlainFabric) (text : List PlainModule) (packed : PlainPacked) (fixed : List Pad) (implementation : PlainImplementation) → IsFabric fabric → AreTiles fabric →
    IsFabricText fabric text → IsWellMadePacked packed → IsLegal fabric packed fixed implementation → (p : Point) → IsDesignPoint fabric text packed implementation p → is_declared text p ≡ true

-- Over settled loading points that are configured, the design points are settled exactly where each has the value of its source.
abbrev pub DesignSettlesBySources : Type 0
DesignSettlesBySources =
    (fabric : PlainFabric) (text : List PlainModule) (packed : PlainPacked) (fixed : List Pad) (implementation : PlainImplementation) (bits : PlainBits) (inputs held now : Assignment) →
    IsFabric fabric → AreTiles fabric → IsFabricText fabric text → IsWellMadePacked packed → IsLegal fabric packed fixed implementation → Configures fabric packed implementation bits →
    IsConfigured fabric bits held → IsSettledOn (IsLoading text) text inputs held now →
    IsSettledOn (IsDesignPoint fabric text packed implementation) text inputs held now
    ↔ ((p : Point) (s : Source) → IsOfDesign fabric packed implementation p → HasSource fabric packed implementation p s → now p ≡ source_value inputs held now p s)

-- The same where the registers of the configuration show such bits, whatever brings them there.
abbrev pub DesignSettlesByShownSources : Type 0
DesignSettlesByShownSources =
    (fabric : PlainFabric) (text : List PlainModule) (packed : PlainPacked) (fixed : List Pad) (implementation : PlainImplementation) (bits : PlainBits) (inputs held now : Assignment) →
    IsFabric fabric → AreTiles fabric → IsFabricText fabric text → IsWellMadePacked packed → IsLegal fabric packed fixed implementation → Configures fabric packed implementation bits →
    ShowsBits fabric bits now → IsSettledOn (IsLoading text) text inputs held now →
    IsSettledOn (IsDesignPoint fabric text packed implementation) text inputs held now
    ↔ ((p : Point) (s : Source) → IsOfDesign fabric packed implementation p → HasSource fabric packed implementation p s → now p ≡ source_value inputs held now p s)

-- At a tick of UserCLK the flip-flop of a bound latch that is enabled takes the bit that a reset loads where SR is 1, and the table where it is 0; at a
-- tick of CLK it stays.
abbrev pub RegistersTick : Type 0
RegistersTick =
    (fabric : PlainFabric) (text : List PlainModule) (packed : PlainPacked) (fixed : List Pad) (implementation : PlainImplementation) (held now after : Assignment) →
    IsFabric fabric → AreTiles fabric → IsFabricText fabric text → IsLegal fabric packed fixed implementation →
    (cell_number init : ℕ) (site : Site) (cell : PlainCell) → IsBound packed implementation cell_number site cell → cell.latch ≡ Some init →
    (Ticks (IsDesignPoint fabric text packed implementation) text user_clock_name held now after → now (bel_point site (codes "EN")) ≡ true →
    after (bel_point site flip_flop_name) ≡ (if now (bel_point site (codes "SR")) then now (reset_bit site) else now (bel_point site (codes "t"))))
    × (Ticks (IsDesignPoint fabric text packed implementation) text clock_name held now after → after (bel_point site flip_flop_name) ≡ held (bel_point site flip_flop_name))

-- A configuration goes with what the loading points hold.
abbrev pub ConfigurationGoes : Type 0
ConfigurationGoes =
    (fabric : PlainFabric) (text : List PlainModule) (bits : PlainBits) (held after : Assignment) → IsFabric fabric → IsFabricText fabric text → IsConfigured fabric bits held →
    ((p : Point) → IsLoading text p → after p ≡ held p) → IsConfigured fabric bits after

-- The route, cell and pad points stand on one list, each with a source.
abbrev pub DesignIsListed : Type 0
DesignIsListed =
    (fabric : PlainFabric) (packed : PlainPacked) (fixed : List Pad) (implementation : PlainImplementation) → AreTiles fabric → IsWellMadePacked packed →
    IsLegal fabric packed fixed implementation →
    (rows : List (Point × Source))
    × All (λ row. HasSource fabric packed implementation row.0 row.1 × IsSourced fabric packed implementation row.0) rows
    × ((p : Point) → IsSourced fabric packed implementation p → (s : Source) × Contains rows (p, s))

-- Where what the source of a point reads is known beside the configuration, a driver of the point gives a known value, that of the source.
abbrev pub SourcesAreKnown : Type 0
SourcesAreKnown =
    (fabric : PlainFabric) (text : List PlainModule) (packed : PlainPacked) (fixed : List Pad) (implementation : PlainImplementation) (bits : PlainBits)
    (inputs held now : Assignment) (t : Terns) → IsFabric fabric → AreTiles fabric → IsFabricText fabric text → IsWellMadePacked packed →
    IsLegal fabric packed fixed implementation → Configures fabric packed implementation bits → KnowsBits fabric bits t →
    (p : Point) (s : Source) → HasSource fabric packed implementation p s → ((q : Point) → Contains (source_reads s) q → t q ≡ known (now q)) →
    (d : Driver) × Drives text p d × (tern_shown text inputs held t p d ≡ known (source_value inputs held now p s))

-- All sources of one point have one value.
abbrev pub SourcesAgree : Type 0
SourcesAgree =
    (fabric : PlainFabric) (text : List PlainModule) (packed : PlainPacked) (fixed : List Pad) (implementation : PlainImplementation) (bits : PlainBits)
    (inputs held now : Assignment) → IsFabric fabric → AreTiles fabric → IsFabricText fabric text → IsWellMadePacked packed →
    IsLegal fabric packed fixed implementation → Configures fabric packed implementation bits → KnowsBits fabric bits (λ q. known (now q)) →
    (p : Point) (s r : Source) → HasSource fabric packed implementation p s → HasSource fabric packed implementation p r →
    source_value inputs held now p s ≡ source_value inputs held now p r

-- Each design point is a loading point, or has a source, and a rank above those of the design points that this reads, but for loading points.
pub record RanksDesign (fabric : PlainFabric) (text : List PlainModule) (packed : PlainPacked) (implementation : PlainImplementation) (rank : Point → ℕ) (ranks : ℕ) : Type 0 where
  pub bound : (p : Point) → IsOfDesign fabric packed implementation p → rank p < ranks
  pub lower : (p : Point) → IsOfDesign fabric packed implementation p →
      IsLoading text p ⊎ ((s : Source) × HasSource fabric packed implementation p s × All (λ q. IsLoading text q ⊎ (rank q < rank p)) (source_reads s))

-- A ranked design has exactly one settled assignment, whatever the other points have.
abbrev pub RankedDesignSettlesOnce : Type 0
RankedDesignSettlesOnce =
    (fabric : PlainFabric) (text : List PlainModule) (packed : PlainPacked) (fixed : List Pad) (implementation : PlainImplementation) (bits : PlainBits) (inputs held : Assignment)
    (rank : Point → ℕ) (ranks : ℕ) → IsFabric fabric → AreTiles fabric → IsFabricText fabric text → IsWellMadePacked packed → IsLegal fabric packed fixed implementation →
    Configures fabric packed implementation bits → IsConfigured fabric bits held → inputs (point [] clock_name 0) ≡ false → RanksDesign fabric text packed implementation rank ranks →
    SettlesOnce (IsDesignPoint fabric text packed implementation) text inputs held

-- whatever the settled loading points are, the latches show these bits
abbrev pub WillShow : PlainFabric → List PlainModule → PlainBits → (inputs held : Assignment) → Type 0
WillShow fabric text bits inputs held = (now : Assignment) → IsSettledOn (IsLoading text) text inputs held now → ShowsBits fabric bits now

-- The same where the registers of the configuration show such bits, whatever brings them there.
abbrev pub ShownDesignSettlesOnce : Type 0
ShownDesignSettlesOnce =
    (fabric : PlainFabric) (text : List PlainModule) (packed : PlainPacked) (fixed : List Pad) (implementation : PlainImplementation) (bits : PlainBits) (inputs held : Assignment)
    (rank : Point → ℕ) (ranks : ℕ) → IsFabric fabric → AreTiles fabric → IsFabricText fabric text → IsWellMadePacked packed → IsLegal fabric packed fixed implementation →
    Configures fabric packed implementation bits → WillShow fabric text bits inputs held → inputs (point [] clock_name 0) ≡ false → RanksDesign fabric text packed implementation rank ranks →
    SettlesOnce (IsDesignPoint fabric text packed implementation) text inputs held
