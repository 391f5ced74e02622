-- What crates above ask of that which carries the bits to the tiles: they name no loader, and no place of a latch.
use Rattle.std.proofs.Common.{◌≡◌, ℕ, Bool, true, List, ap, ◌∙◌, Some}
use Rattle.fab_syntax.specs.Plain.{PlainExpr, PlainModule}
use Rattle.fab_meaning.specs.Points.{Path, Point, hold, Drives}
use Rattle.fab_meaning.specs.Settled.{Assignment, IsSettledOn}
use Rattle.fab_meaning.specs.Reads.{is_declared}
use Rattle.fab_meaning.specs.Loading.{Within, IsClosed, IsLoading}
use Rattle.fab_drives_laws.specs.fab_model_Tiles.{PlainTile}
use Rattle.fab_drives_laws.specs.fab_model_Grid.{PlainFabric, tile_at}
use Rattle.fab_drives_laws.specs.fab_model_Drive.{PlainBits}
use Rattle.fab_drives_laws.specs.fab_fabric_Fabric.{IsFabric}
use Rattle.fab_drives_laws.specs.fab_fabric_text_defs_Texts.{IsFabricText}
use Rattle.fab_drives_laws.specs.Points.{ShowsBits}
use Rattle.fab_drives_laws.proofs.Texts.{HasFabric}
use Rattle.fab_text_loads_laws.specs.Points.{config_path, IsLoadingPoint}
use Rattle.fab_text_loads_laws.specs.Loads.{IsConfigured}
use Rattle.fab_text_loads_laws.proofs.ChainRuns.{chain_goes, chain_shows}
use Rattle.fab_text_loads_laws.proofs.ChainWithin.{bit_flops, bits_closed, chain_named_within}
use Rattle.fab_text_loads_laws.proofs.Frames.{still_configured}
use Rattle.fab_text_loads_laws.proofs.Loader.{by_frames, by_chain, carrier}
use Rattle.fab_text_loads_laws.proofs.Within.{flops, closed}
use Rattle.fab_text_loads_laws.proofs.Named.{named_within}
use Rattle.fab_text_loads_laws.proofs.Parts.{part_at, latch_of_tile, loader_is_named}
use Rattle.fab_text_loads_laws.proofs.Runs.{configured_shows}
use Rattle.fab_text_loads_laws.proofs.Stays.{latch_item}

-- the tiles stand in the text, and some closed flip-flops lead to all named points
pub record Carries (fabric : PlainFabric) (text : List PlainModule) : Type 0 where
  pub tiles : HasFabric fabric text
  pub flops : Point → Bool
  pub closed : IsClosed text flops
  pub named : (p : Point) → IsLoadingPoint fabric p → is_declared text p ≡ true → Within text flops p

module _ (fabric : PlainFabric) (text : List PlainModule) (is : IsFabric fabric) (is_text : IsFabricText fabric text) where
  pub carried : Carries fabric text
  carried =
      elim (carrier fabric text is is_text) [
        | by_frames next has ↦ record {
          tiles = has.tiles;
          flops = flops fabric next text has;
          closed = closed fabric next text has;
          named = named_within fabric next text has;
        }
        | by_chain has ↦ record {
          tiles = has.tiles;
          flops = bit_flops fabric;
          closed = bits_closed fabric text has is;
          named = chain_named_within fabric text has;
        }
      ]

  -- each latch of the text stands in the configuration of a tile
  pub latches_in_configurations : (p : Point) (path : Path) (gate e : PlainExpr) (bit : ℕ) → Drives text p (hold path gate e bit) →
      (x : ℕ) × (y : ℕ) × (tile : PlainTile) × (tile_at fabric x y ≡ Some tile) × (p.path ≡ config_path x y)
  latches_in_configurations p path gate e bit drives =
      let item = latch_item text p path gate e bit drives in
      let loader = loader_is_named fabric text is is_text in
      let latch =
      latch_of_tile fabric path item.here item.target item.gate item.e (part_at fabric text carried.tiles loader path item.here item.stands) item.there in
      (latch.0, latch.1, latch.2, latch.3, ap (λ (q : Point). q.path) item.at ∙ latch.4)

  -- what holds the same is configured as well
  pub configuration_goes : (bits : PlainBits) (held after : Assignment) → IsConfigured fabric bits held → ((p : Point) → IsLoading text p → after p ≡ held p) →
      IsConfigured fabric bits after
  configuration_goes bits held after =
      elim (carrier fabric text is is_text) [
        | by_frames next has ↦ still_configured fabric next text has is bits held after
        | by_chain has ↦ chain_goes fabric text has is bits held after
      ]

  -- a configured text shows its bits
  pub configuration_shows : (bits : PlainBits) (inputs held now : Assignment) → IsConfigured fabric bits held → IsSettledOn (IsLoading text) text inputs held now →
      ShowsBits fabric bits now
  configuration_shows bits inputs held now =
      elim (carrier fabric text is is_text) [
        | by_frames next has ↦ configured_shows fabric next text has is bits inputs held now
        | by_chain has ↦ chain_shows fabric text has is bits inputs held now
      ]
