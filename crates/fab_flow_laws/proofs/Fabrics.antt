-- What is promised of a fabric that files spell, as far as lists of features ask for it.
use Rattle.std.proofs.Common.{All, ℕ, List}
use Rattle.fab_desk.specs.Files.{Map}
use Rattle.fab_model.specs.Grid.{PlainFabric}
use Rattle.fab_fabric.specs.Fabric.{AreTiles, IsFabric}
use Rattle.fab_read.specs.Fabrics.{SpellsFabric}
use Rattle.fab_spelled_fabrics_laws.proofs.Blocks.{names_kept}
use Rattle.fab_spelled_fabrics_laws.proofs.Prefixes.{ArePrefixed, prefixes_kept}
use Rattle.fab_spelled_fabrics_laws.proofs.Readings.{spelled_keep}
use Rattle.fab_spelled_fabrics_laws.proofs.Whole.{spelled_fabric, spelled_tiles}
use Rattle.fab_flow_laws.specs.fab_features_Naming.{HasPrefixes}
use Rattle.fab_flow_laws.specs.fab_gen_tile_Words.{IsNamed}

pub record IsPromised (fabric : PlainFabric) : Type 0 where
  pub is : IsFabric fabric
  pub tiles : AreTiles fabric
  pub named : All IsNamed fabric.types
  pub prefixed : All HasPrefixes fabric.types

pub spelled_is_promised : (files : Map) (name : List ℕ) (fabric : PlainFabric) → SpellsFabric files name fabric → IsPromised fabric
spelled_is_promised files name fabric spelled = record {
  is = spelled_fabric files name fabric spelled;
  tiles = spelled_tiles files name fabric spelled;
  named = spelled_keep IsNamed IsNamed names_kept files name fabric spelled;
  prefixed = spelled_keep ArePrefixed ArePrefixed prefixes_kept files name fabric spelled;
}
