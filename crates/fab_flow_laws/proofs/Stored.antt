-- What stands under the names of stored files.
use Rattle.std.proofs.Common.{◌≡◌, ℕ, List, [], ◌∷◌, ◌++◌, codes, Some, refl, ap, ◌∙◌, eq-eqb}
use Rattle.std.specs.List.{flat_map}
use Rattle.std.specs.Str.{bytes_eq}
use Rattle.fab_desk.specs.Files.{Map}
use Rattle.fab_syntax.specs.Spelling.{text_bytes}
use Rattle.fab_model.specs.Grid.{PlainFabric}
use Rattle.fab_netlist.specs.Packing.{packed}
use Rattle.fab_implementation.specs.Plain.{PlainImplementation}
use Rattle.fab_fasm.specs.declared.feature.Feature.{Feature}
use Rattle.fab_fasm.specs.Printing.{printed}
use Rattle.fab_frames.specs.Bytes.{word_bytes}
use Rattle.fab_frames.specs.Stream.{stream}
use Rattle.fab_state.specs.Plain.{PlainState}
use Rattle.fab_state.specs.Spelled.{state_text}
use Rattle.fab_impl.specs.Spelled.{implementation_text}
use Rattle.fab_outputs.specs.Storing.{PlainOutput, with_outputs}
use Rattle.fab_flow.specs.fab_features_Design.{design_features}
use Rattle.fab_flow.specs.Assembling.{assembly_outputs}
use Rattle.fab_flow.specs.Generating.{generated_text}
use Rattle.fab_flow.specs.Flowing.{FlowFiles, MakesFlow, flow_outputs, used}
use Rattle.fab_flow_laws.specs.StoredLaws.{FlowFilesStand, HoldsFlow, KeepsFlowFiles, flow_state}

-- names with one beginning differ as their endings do
pub endings : (base a b : List ℕ) → bytes_eq (base ++ a) (base ++ b) ≡ bytes_eq a b
endings [] a b = refl
endings (byte ∷ base) a b = rw (eq-eqb byte byte refl) (endings base a b)

-- ---- the five outputs of a flow

module _ (files : Map) (base text implementation : List ℕ) (features : List Feature) (words : List ℕ) (state : PlainState) where
  abbrev after : Map
  after = with_outputs (flow_outputs base text implementation (assembly_outputs base features words state)) files

  text_stands : after (base ++ codes ".v") ≡ Some text
  text_stands =
      rw (
        endings base (codes ".state") (codes ".v"),
        endings base (codes ".bit") (codes ".v"),
        endings base (codes ".fasm") (codes ".v"),
        endings base (codes ".impl") (codes ".v"),
        endings base (codes ".v") (codes ".v"),
      ) refl

  features_stand : after (base ++ codes ".fasm") ≡ Some (printed features)
  features_stand =
      rw (
        endings base (codes ".state") (codes ".fasm"),
        endings base (codes ".bit") (codes ".fasm"),
        endings base (codes ".fasm") (codes ".fasm"),
      ) refl

  words_stand : after (base ++ codes ".bit") ≡ Some (flat_map word_bytes words)
  words_stand = rw (endings base (codes ".state") (codes ".bit"), endings base (codes ".bit") (codes ".bit")) refl

  state_stands : after (base ++ codes ".state") ≡ Some (state_text state)
  state_stands = rw (endings base (codes ".state") (codes ".state")) refl

-- ---- a flow

module _ (files : Map) (names : FlowFiles) (allowed : ℕ) (stored : List PlainOutput) (flow : MakesFlow files names allowed stored) where
  abbrev fabric : PlainFabric
  fabric = flow.design.fabric

  abbrev implementation : PlainImplementation
  implementation = flow.made.implementation

  abbrev flow_features : List Feature
  flow_features = design_features fabric (packed (used names flow.design)) implementation

  abbrev flow_words : List ℕ
  flow_words = stream fabric flow.made.assembly.bits

  abbrev flow_text : List ℕ
  flow_text = text_bytes (generated_text fabric)

  abbrev implemented : List ℕ
  implemented = implementation_text fabric implementation

  -- what stands under a name behind the five outputs stands there behind the flow
  flowed : (name bytes : List ℕ) → after files names.base flow_text implemented flow_features flow_words (flow_state flow) name ≡ Some bytes →
      with_outputs stored files name ≡ Some bytes
  flowed name bytes there =
      ap (λ (list : List PlainOutput). with_outputs list files name) (flow.made.outputs_are ∙ ap (flow_outputs names.base flow_text implemented) flow.made.assembly.outputs_are)
      ∙ there

  pub flow_features_stand : with_outputs stored files (names.base ++ codes ".fasm") ≡ Some (printed flow_features)
  flow_features_stand = flowed _ _ (features_stand files names.base flow_text implemented flow_features flow_words (flow_state flow))

  pub flow_words_stand : with_outputs stored files (names.base ++ codes ".bit") ≡ Some (flat_map word_bytes flow_words)
  flow_words_stand = flowed _ _ (words_stand files names.base flow_text implemented flow_features flow_words (flow_state flow))

  holds_after : (later : Map) → KeepsFlowFiles names.base (with_outputs stored files) later → HoldsFlow flow later
  holds_after later kept = record {
    text = kept.text ∙ flowed _ _ (text_stands files names.base flow_text implemented flow_features flow_words (flow_state flow));
    words = kept.words ∙ flow_words_stand;
    state = kept.state ∙ flowed _ _ (state_stands files names.base flow_text implemented flow_features flow_words (flow_state flow));
  }

pub holds_flow : FlowFilesStand
holds_flow files names allowed stored flow later kept = holds_after files names allowed stored flow later kept
