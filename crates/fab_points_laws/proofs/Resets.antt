-- The configuration bit that a reset loads into the flip-flop of a cell.
use Rattle.std.proofs.Common.{◌≡◌, ℕ, ◌<◌, true, List, [], sym, ap, ◌∙◌, subst, arith, Option, Some, is_some}
use Rattle.fab_kinds.specs.declared.kind.Kind.TheVariants as kinds
use Rattle.fab_kinds.specs.Pins.{bit_count}
use Rattle.fab_systems_laws.specs.Ternary.{known}
use Rattle.fab_syntax.specs.Plain.{PlainModule}
use Rattle.fab_meaning.specs.Settled.{Assignment}
use Rattle.fab_meaning.specs.Loading.{IsLoading}
use Rattle.fab_model.specs.Tiles.{PlainTile}
use Rattle.fab_model.specs.Grid.{PlainFabric, tile_at}
use Rattle.fab_model.specs.Drive.{PlainBits}
use Rattle.fab_fabric.specs.Fabric.{IsFabric, AreTiles}
use Rattle.fab_fabric.specs.declared.wire.Site.{Site}
use Rattle.fab_netlist.specs.Meaning.{begins_high}
use Rattle.fab_netlist.specs.Packed.{PlainCell, PlainPacked}
use Rattle.fab_use_defs.specs.fab_implementation_Plain.{Pad, PlainImplementation}
use Rattle.fab_use_defs.specs.fab_legal_Legal.{IsLegal}
use Rattle.fab_use_defs.specs.fab_fabric_text_defs_Texts.{IsFabricText}
use Rattle.fab_use_defs.specs.Sites.{reset_bit}
use Rattle.fab_use_defs.specs.Design.{IsBound}
use Rattle.fab_use_defs.specs.Configuring.{Configures, cell_bit}
use Rattle.fab_points_laws.specs.Known.{KnowsBits}
use Rattle.fab_points_laws.proofs.Boolean.{same_known}
use Rattle.fab_points_laws.proofs.Configuration.{config_load}
use Rattle.fab_points_laws.proofs.Places.{SiteBel, site_tile, site_bel, cell_kind}

module _ (fabric : PlainFabric) (packed : PlainPacked) (fixed : List Pad) (implementation : PlainImplementation) (legal : IsLegal fabric packed fixed implementation)
    (number : ℕ) (site : Site) (cell : PlainCell) (bound : IsBound packed implementation number site cell) where
  here : (tile : PlainTile) × (tile_at fabric site.x site.y ≡ Some tile)
  here = site_tile fabric site kinds.Lut4c (cell_kind fabric packed fixed implementation legal number site cell bound)

  lut : SiteBel fabric site kinds.Lut4c here.0
  lut = site_bel fabric site kinds.Lut4c here.0 (cell_kind fabric packed fixed implementation legal number site cell bound) here.1

  enough : (bit : ℕ) → bit < 19 → bit < bit_count lut.found.kind
  enough bit few = subst (λ kind. bit < bit_count kind) (sym lut.kind_is) few

  -- it is a loading point,
  pub reset_loads : (text : List PlainModule) → IsFabric fabric → AreTiles fabric → IsFabricText fabric text → IsLoading text (reset_bit site)
  reset_loads text is are is_text =
      config_load fabric text is are is_text site.x site.y here.0 here.1 site.bel lut.found lut.there (enough 0 (omega arith)) 18 (enough 18 (omega arith))

  -- and in a design with a reset port what the latch of the cell begins with
  pub reset_value : (bits : PlainBits) (now : Assignment) → Configures fabric packed implementation bits → KnowsBits fabric bits (λ q. known (now q)) →
      is_some packed.reset ≡ true → (init : ℕ) → cell.latch ≡ Some init → now (reset_bit site) ≡ begins_high init
  reset_value bits now configures knows resets init latched =
      same_known (now (reset_bit site)) (cell_bit (is_some packed.reset) cell 18)
      ((knows site.x site.y here.0 here.1).bels site.bel 18 lut.found lut.there (enough 18 (omega arith))
      ∙ ap known (configures.cells number 18 site cell here.0 bound here.1 (omega arith)))
      ∙ ap (λ some. cell_bit some cell 18) resets
      ∙ ap (λ (latch : Option ℕ). cell_bit true (record { table = 0; inputs = []; latch = latch }) 18) latched
