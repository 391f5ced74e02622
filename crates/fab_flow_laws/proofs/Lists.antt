-- `bits` on a file in which the lines of a list of features stand.
use Rattle.std.proofs.Common.{◌≡◌, ℕ, ◌+◌, All, List, [], ◌∷◌, Some, Ok, refl, sym, ap, ◌∙◌, subst}
use Rattle.std.specs.List.{flat_map}
use Rattle.std.specs.Str.Lines.{lines}
use Rattle.fab_desk.specs.Files.{Map}
use Rattle.fab_files.specs.Files.{handed_out}
use Rattle.fab_model.specs.Grid.{PlainFabric}
use Rattle.fab_model.specs.Drive.{PlainBits}
use Rattle.fab_fabric.specs.Bits.{plain_bits}
use Rattle.fab_fabric.specs.Fabric.{IsFabric}
use Rattle.fab_legal.specs.Turns.{AreRight}
use Rattle.fab_fasm.specs.declared.feature.Feature.{Feature}
use Rattle.fab_fasm.specs.Printing.{HasSpelling, line_by_line, printed}
use Rattle.fab_fasm.specs.Spelled.{SpellsFasm}
use Rattle.fab_fasm.proofs.PartsLaw.{spelled_is}
use Rattle.fab_fasm.proofs.TextBack.{printed_spells}
use Rattle.fab_frames.specs.Bytes.{word_bytes}
use Rattle.fab_frames.specs.Stream.{stream}
use Rattle.fab_read.specs.Fabrics.{SpellsFabric}
use Rattle.fab_read.proofs.FabricsOnce.{one_fabric}
use Rattle.fab_outputs.specs.Storing.{PlainOutput, output}
use Rattle.fab_flow_laws.specs.BitsLaws.{BitMapsAreOne, HaveSameBits}
use Rattle.fab_flow_laws.specs.fab_features_Features.{IsBitMapOf}
use Rattle.fab_flow_laws.specs.fab_features_Wrong.{IsRightFeature}
use Rattle.fab_flow_laws.specs.fab_flow_Bits.{IsReadyForBits, MakesBits, bits_files}
use Rattle.fab_flow_laws.proofs.HandedOut.{found_is}
use Rattle.fab_flow_laws.proofs.Streams.{stream_same}

-- lines that have their numbers keep them
numbered_again : (number : ℕ) (features : List Feature) → line_by_line number (line_by_line number features) ≡ line_by_line number features
numbered_again number [] = refl
numbered_again number (feature ∷ features) = λ j. record feature { line = number } ∷ numbered_again (number + 1) features j

module _ (behind : List Feature) (has : All HasSpelling (line_by_line 1 behind)) where
  abbrev pub listed : List Feature
  listed = line_by_line 1 behind

  -- what is printed of them is read back
  says_itself : SpellsFasm (lines (printed listed)) listed
  says_itself = subst (SpellsFasm (lines (printed listed))) (numbered_again 1 behind) (printed_spells listed has)

  says_nothing_else : (features : List Feature) → SpellsFasm (lines (printed listed)) features → features ≡ listed
  says_nothing_else features says = spelled_is (lines (printed listed)) features says ∙ sym (spelled_is (lines (printed listed)) listed says_itself)

  module _ (fabric : PlainFabric) (is : IsFabric fabric) (later : Map) (name file : List ℕ) (spelled : SpellsFabric later name fabric) (stands : later file ≡ Some (printed listed)) where
    pub is_ready : AreRight (IsRightFeature fabric) listed → (out text : List ℕ) → handed_out later file ≡ Ok text → IsReadyForBits later (bits_files name file out)
    is_ready right out text found = record {
      fabric = fabric;
      features = listed;
      spelled = spelled;
      read = record {
        bytes = text;
        found = found;
        spelled = subst (λ (bytes : List ℕ). SpellsFasm (lines bytes) listed) (sym (found_is later file text (printed listed) stands found)) says_itself;
      };
      right = right;
    }

    -- the bits that are made of them are those of the list
    module _ (out : List ℕ) (outputs : List PlainOutput) (made : MakesBits later (bits_files name file out) outputs) where
      fabric_is : made.fabric ≡ fabric
      fabric_is = one_fabric later name made.fabric fabric made.spelled spelled

      features_are : made.features ≡ listed
      features_are =
          let bytes_are = found_is later file made.read.bytes (printed listed) stands made.read.found in
          says_nothing_else made.features (subst (λ (bytes : List ℕ). SpellsFasm (lines bytes) made.features) bytes_are made.read.spelled)

      abbrev pub made_bits : PlainBits
      made_bits = plain_bits made.made.bits

      pub made_of_list : IsBitMapOf fabric listed made_bits
      made_of_list =
          subst (λ (f : PlainFabric). IsBitMapOf f listed made_bits) fabric_is
          (subst (λ (features : List Feature). IsBitMapOf made.fabric features made_bits) features_are made.made.bit_map)

      -- bits that are the same have the same bytes
      pub made_bytes : (bits : PlainBits) → HaveSameBits fabric made_bits bits → outputs ≡ output out (flat_map word_bytes (stream fabric bits)) ∷ []
      made_bytes bits same =
          made.outputs_are
          ∙ ap (λ (bytes : List ℕ). output out bytes ∷ []) (made.made.bytes_are
          ∙ ap (λ (f : PlainFabric). flat_map word_bytes (stream f made_bits)) fabric_is
          ∙ ap (flat_map word_bytes) (stream_same fabric is made_bits bits same))

      -- and a list has one bit map
      pub listed_bytes : BitMapsAreOne → (bits : PlainBits) → IsBitMapOf fabric listed bits → outputs ≡ output out (flat_map word_bytes (stream fabric bits)) ∷ []
      listed_bytes one bits of_list = made_bytes bits (one fabric listed made_bits bits made_of_list of_list)
