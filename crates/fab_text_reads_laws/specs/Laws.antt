-- When the text of a fabric can be printed, and so read again.
use Rattle.std.specs.Prelude.{◌≡◌, ◌≤◌, ℕ, true, All, List, length, nat_eq}
use Rattle.fab_desk.specs.Files.{Map}
use Rattle.fab_syntax.specs.Plain.{PlainModule}
use Rattle.fab_syntax.specs.Spelling.{text_bytes}
use Rattle.fab_lines.specs.Names.{is_identifier}
use Rattle.fab_select.specs.Selection.{inputs_of}
use Rattle.fab_model.specs.Tiles.{PlainTile, numbered_pairs, tile_bits}
use Rattle.fab_model.specs.Grid.{PlainFabric}
use Rattle.fab_fabric.specs.Fabric.{AreTiles, IsFabric}
use Rattle.fab_gen_tile.specs.Words.{IsNamed}
use Rattle.fab_gen_loader.specs.Expressions.{loader_module}
use Rattle.fab_spelled_fabrics_laws.specs.fab_read_Fabrics.{SpellsFabric}
use Rattle.fab_grammar_defs.specs.Grammar.{SpellsText}
use Rattle.fab_grammar_defs.specs.Printable.{IsModule, IsPrintableText}
use Rattle.fab_drives_laws.specs.fab_fabric_text_defs_Text.{fabric_text}
use Rattle.fab_drives_laws.specs.fab_fabric_text_defs_Texts.{generated_text}

-- What tables promise beside: the tile has a name, and it has no more inputs of an output and configuration bits than tables allow.
pub record IsWritten (tile : PlainTile) : Type 0 where
  pub name : is_identifier tile.name ≡ true
  pub named : IsNamed tile
  pub few_bits : tile_bits tile ≤ 640
  pub few_inputs : (output : ℕ) → length (inputs_of nat_eq (numbered_pairs tile) output) ≤ 256

abbrev pub FabricTextsArePrintable : Type 0
FabricTextsArePrintable =
    (fabric : PlainFabric) (loaders : List PlainModule) → IsFabric fabric → AreTiles fabric → All IsWritten fabric.types → All IsModule loaders →
    IsPrintableText (fabric_text fabric loaders)

abbrev pub LoadersArePrintable : Type 0
LoadersArePrintable = (rows : ℕ) → IsModule (loader_module rows)

abbrev pub GeneratedTextsAreRead : Type 0
GeneratedTextsAreRead =
    (files : Map) (name : List ℕ) (fabric : PlainFabric) → SpellsFabric files name fabric → IsFabric fabric → AreTiles fabric →
    IsPrintableText (generated_text fabric) × SpellsText 300 128 (text_bytes (generated_text fabric)) (generated_text fabric)
