-- How large the text of a sample's fabric is.
use Rattle.std.specs.Prelude.{◌≤◌, ℕ, List, codes, length}
use Rattle.fab_desk.specs.Files.{Map}
use Rattle.fab_syntax.specs.Plain.{PlainModule}
use Rattle.fab_syntax.specs.Spelling.{text_bytes}
use Rattle.fab_equations.specs.Instances.{whole_count, most_points}
use Rattle.fab_model.specs.Grid.{PlainFabric}
use Rattle.fab_fabric_text_defs.specs.Texts.{generated_text}
use Rattle.fab_sample_laws.specs.fab_read_Fabrics.{SpellsFabric}
use Rattle.fab_sample_laws.specs.Fabrics.{TellsFabric}

-- a quarter of what a file may have
abbrev pub most_sample_bytes : ℕ
most_sample_bytes = 16777216

-- few bytes are printed of the text, and it can be simulated
pub record IsSmall (text : List PlainModule) : Type 0 where
  pub bytes : length (text_bytes text) ≤ most_sample_bytes
  pub points : whole_count text ≤ most_points

-- the text that the generator makes of the fabric that the files of a sample spell
abbrev pub SampleTextsAreSmall : Type 0
SampleTextsAreSmall =
    (files : Map) (size : ℕ) → 2 ≤ size → size ≤ 16 → TellsFabric files size →
    (fabric : PlainFabric) → SpellsFabric files (codes "sample.csv") fabric → IsSmall (generated_text fabric)
