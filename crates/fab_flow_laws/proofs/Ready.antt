-- What a flow stored is read.
use Rattle.std.proofs.Common.{◌≡◌, ◌≤◌, ℕ, Bool, true, false, List, [], ◌∷◌, ◌++◌, codes, length, Some, Ok, refl}
use Rattle.std.specs.List.{flat_map}
use Rattle.std.specs.Str.{is_utf8, chars}
use lib.Utf8.{encode}
use Rattle.std.proofs.lemmas.Str.{IsUtf8-append, IsUtf8-from_is_utf8, is_utf8-from_IsUtf8}
use Rattle.fab_base.specs.declared.TheConstants.{MAX_FILE_BYTES}
use Rattle.fab_desk.specs.Files.{Map}
use Rattle.fab_files.specs.Files.{handed_out}
use Rattle.fab_syntax.specs.Plain.{PlainModule}
use Rattle.fab_syntax.specs.Spelling.{text_bytes}
use Rattle.fab_model.specs.Grid.{PlainFabric}
use Rattle.fab_netlist.specs.Packing.{packed}
use Rattle.fab_implementation.specs.Plain.{PlainImplementation}
use Rattle.fab_equations.specs.Instances.{whole_count, most_points}
use Rattle.fab_texts.specs.Rows.{rows_of, words_of}
use Rattle.fab_texts.proofs.PrintedRows.{rows_again}
use Rattle.fab_frames.specs.Bytes.{word_bytes}
use Rattle.fab_frames.specs.Stream.{stream}
use Rattle.fab_state.specs.Plain.{PlainState}
use Rattle.fab_state.specs.Spelled.{HasSpelling, Spells, state_lines, state_text}
use Rattle.fab_state.proofs.Printed.{state_rows}
use Rattle.fab_state.proofs.ReadBack.{spelled_is_read}
use Rattle.fab_text_reads_laws.specs.Laws.{GeneratedTextsAreRead}
use Rattle.fab_spelled_designs_laws.specs.DesignLaws.{IsSound, LegalDesignsAreSpelled, SpelledDesignsAreSound}
use Rattle.fab_legal_states_laws.specs.StandingLaws.{FabricTextsHaveStreams, LegalStatesHaveEntries}
use Rattle.fab_legal_states_laws.specs.ShortLaws.{BitstreamsAreShort}
use Rattle.fab_outputs.specs.Storing.{PlainOutput, with_outputs}
use Rattle.fab_flow_laws.specs.fab_flow_Generating.{generated_text}
use Rattle.fab_flow_laws.specs.fab_flow_Flowing.{FlowFiles, MakesFlow, used}
use Rattle.fab_simulate_command.specs.Simulating.{HasPoints, IsReadyToSimulate, ReadsDevice, ReadsState, ReadsStimulus, ReadsWords, simulation_files}
use Rattle.fab_flow_laws.specs.StoredLaws.{FlowFilesStand, HoldsFlow, KeepsFlowFiles, flow_state}
use Rattle.fab_flow_laws.proofs.HandedOut.{given_out}
use Rattle.fab_flow_laws.proofs.Words.{words_fit}

-- ---- files

-- a name with its ending
text_name : is_utf8 (codes ".v") ≡ true
unfolding is_utf8 chars encode
text_name = refl

words_name : is_utf8 (codes ".bit") ≡ true
unfolding is_utf8 chars encode
words_name = refl

state_name : is_utf8 (codes ".state") ≡ true
unfolding is_utf8 chars encode
state_name = refl

plain_name : (base ending : List ℕ) → is_utf8 base ≡ true → is_utf8 ending ≡ true → is_utf8 (base ++ ending) ≡ true
plain_name base ending first second =
    is_utf8-from_IsUtf8 (base ++ ending) (IsUtf8-append base ending (IsUtf8-from_is_utf8 base first) (IsUtf8-from_is_utf8 ending second))

-- ---- the flow

module _ (stand : FlowFilesStand) (read_again : GeneratedTextsAreRead) (are_sound : SpelledDesignsAreSound) (are_spelled : LegalDesignsAreSpelled) (have_streams : FabricTextsHaveStreams)
    (have_entries : LegalStatesHaveEntries) (are_short : BitstreamsAreShort)
    (files : Map) (names : FlowFiles) (allowed : ℕ) (stored : List PlainOutput) (flow : MakesFlow files names allowed stored)
    (plain : is_utf8 names.base ≡ true) (few : whole_count (generated_text flow.design.fabric) ≤ most_points) (short : length (state_text (flow_state flow)) ≤ MAX_FILE_BYTES)
    (later : Map) (kept : KeepsFlowFiles names.base (with_outputs stored files) later) where
  abbrev fabric : PlainFabric
  fabric = flow.design.fabric

  abbrev implementation : PlainImplementation
  implementation = flow.made.implementation

  abbrev state : PlainState
  state = flow_state flow

  abbrev words : List ℕ
  words = stream fabric flow.made.assembly.bits

  holds : HoldsFlow flow later
  holds = stand files names allowed stored flow later kept

  handed : (ending bytes : List ℕ) → is_utf8 ending ≡ true → later (names.base ++ ending) ≡ Some bytes → length bytes ≤ MAX_FILE_BYTES →
      handed_out later (names.base ++ ending) ≡ Ok bytes
  handed ending bytes is_text there few_bytes =
      given_out later (names.base ++ ending) bytes (plain_name names.base ending plain is_text) there few_bytes

  sound : IsSound flow.design
  sound = are_sound files names.design flow.design flow.spelled

  has : HasSpelling state
  has = (are_spelled files names.design flow.design names.reset implementation flow.spelled flow.made.legal).state

  device : ReadsDevice later (names.base ++ codes ".v") (generated_text fabric)
  device = record {
    bytes = text_bytes (generated_text fabric);
    found = handed (codes ".v") (text_bytes (generated_text fabric)) text_name holds.text flow.made.readable;
    spelled = record {
      spelled = (read_again files names.design.fabric fabric flow.spelled.fabric sound.fabric sound.tiles).1;
      sound = flow.made.text.sound;
      small = few;
    };
  }

  loaded : ReadsWords later (names.base ++ codes ".bit") words
  loaded = record {
    bytes = flat_map word_bytes words;
    found = handed (codes ".bit") (flat_map word_bytes words) words_name holds.words
        (are_short fabric flow.made.assembly.bits sound.fabric);
    spelled = record { fit = words_fit fabric sound.fabric flow.made.assembly.bits; bytes_are = refl };
  }

  points : HasPoints (generated_text fabric) state
  points = record {
    stream = have_streams fabric (generated_text fabric) flow.made.text;
    entries = have_entries fabric (generated_text fabric) (packed (used names flow.design)) flow.design.fixed implementation sound.fabric sound.tiles flow.made.text flow.made.legal;
  }

  spells : Spells (rows_of (state_text state)) state
  spells = record { lines = rows_again (state_lines state) (state_rows state has); fresh = has.fresh }

  stands : ReadsState later (names.base ++ codes ".state") (generated_text fabric) state
  stands = record {
    bytes = state_text state;
    found = handed (codes ".state") (state_text state) state_name holds.state short;
    spelled = record { spelled = spells; says = spelled_is_read (rows_of (state_text state)) state spells; points = points };
  }

  pub ready : (stimulus trace : List ℕ) (lines : List (List Bool)) → ReadsStimulus later stimulus state lines →
      IsReadyToSimulate later
      (simulation_files (names.base ++ codes ".v") (names.base ++ codes ".bit") (names.base ++ codes ".state") stimulus trace)
  ready stimulus trace lines given = record {
    text = generated_text fabric;
    words = words;
    state = state;
    lines = lines;
    device = device;
    loaded = loaded;
    stands = stands;
    given = given;
  }
