-- What stands under the names of stored files.
use Rattle.std.proofs.Common.{◌≡◌, ℕ, List, [], ◌∷◌, ◌++◌, codes, true, Some, refl, eq-eqb}
use Rattle.std.specs.List.{flat_map}
use Rattle.std.specs.Str.{bytes_eq}
use Rattle.fab_desk.specs.Files.{Map, with_file}
use Rattle.fab_fasm.specs.declared.feature.Feature.{Feature}
use Rattle.fab_fasm.specs.Printing.{printed}
use Rattle.fab_frames.specs.Bytes.{word_bytes}
use Rattle.fab_outputs.specs.Storing.{with_outputs}
use Rattle.fab_state.specs.Plain.{PlainState}
use Rattle.fab_flow_laws.specs.fab_flow_Assembling.{assembly_outputs}
use Rattle.fab_flow_laws.proofs.Stored.{endings}

same_name : (name : List ℕ) → bytes_eq name name ≡ true
same_name [] = refl
same_name (byte ∷ name) = rw (eq-eqb byte byte refl) (same_name name)

-- the one output stands under its name
pub output_stands : (files : Map) (name bytes : List ℕ) → with_file name bytes files name ≡ Some bytes
output_stands files name bytes = rw (same_name name) refl

module _ (files : Map) (base : List ℕ) (features : List Feature) (words : List ℕ) (state : PlainState) where
  abbrev pub assembled : Map
  assembled = with_outputs (assembly_outputs base features words state) files

  pub features_assembled : assembled (base ++ codes ".fasm") ≡ Some (printed features)
  features_assembled =
      rw (endings base (codes ".state") (codes ".fasm"), endings base (codes ".bit") (codes ".fasm"), endings base (codes ".fasm") (codes ".fasm")) refl

  pub words_assembled : assembled (base ++ codes ".bit") ≡ Some (flat_map word_bytes words)
  words_assembled = rw (endings base (codes ".state") (codes ".bit"), endings base (codes ".bit") (codes ".bit")) refl
