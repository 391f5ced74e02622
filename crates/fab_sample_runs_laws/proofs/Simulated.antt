-- What a flow makes of the files of a sample is read.
use Rattle.std.proofs.Common.{◌≡◌, ◌≤◌, ℕ, Bool, true, List, [], ◌∷◌, ◌++◌, codes, length, All, Some, None, Ok, refl, sym, ap, ◌∙◌, subst, arith}
use Rattle.std.specs.Str.{is_utf8, chars}
use lib.Utf8.{encode}
use Rattle.fab_desk.specs.Files.{Map}
use Rattle.fab_files.specs.Files.{handed_out}
use Rattle.fab_base.specs.declared.TheConstants.{MAX_FILE_BYTES}
use Rattle.fab_syntax.specs.Spelling.{text_bytes}
use Rattle.fab_model.specs.Grid.{PlainFabric}
use Rattle.fab_netlist.specs.Plain.{name_of}
use Rattle.fab_netlist.specs.Packing.{packed}
use Rattle.fab_implementation.specs.Plain.{PlainImplementation}
use Rattle.fab_legal.specs.WellMade.{IsWellMadePacked, ports}
use Rattle.fab_legal.proofs.PackedMade.{packed_made}
use Rattle.fab_texts.specs.Rows.{Word, rows_of}
use Rattle.fab_state.specs.Spelled.{state_text}
use Rattle.fab_stimulus.specs.Stimuli.{ports_of}
use Rattle.fab_stimulus.specs.Spelled as stimuli
use Rattle.fab_impl.specs.Spelled.{implementation_text}
use Rattle.fab_read.specs.Fabrics.{SpellsFabric}
use Rattle.fab_designs.specs.Designs.{DesignFiles, PlainDesign, SpellsDesign}
use Rattle.fab_flow_laws.specs.fab_spelled_designs_laws_DesignLaws.{IsSound, SpelledDesignsAreSound}
use Rattle.fab_flow_laws.specs.fab_legal_states_laws_ShortLaws.{IsShortName, LegalImplementationsAreShort, LegalStatesAreShort}
use Rattle.fab_outputs.specs.Storing.{PlainOutput, with_outputs}
use Rattle.fab_flow_laws.specs.fab_flow_Generating.{generated_text}
use Rattle.fab_flow_laws.specs.fab_flow_Flowing.{MakesFlow, flow_outputs}
use Rattle.fab_flow_laws.specs.fab_simulate_command_Simulating.{IsReadyToSimulate, ReadsStimulus}
use Rattle.fab_flow_laws.specs.StoredLaws.{flow_state}
use Rattle.fab_flow_laws.proofs.HandedOut.{given_out}
use Rattle.fab_flow_laws.proofs.Ports.{input_names}
use Rattle.fab_flow_laws.specs.ReadyLaws.{FlowFilesAreReady}
use Rattle.fab_sample.specs.Drawn.{covers, sample_latches, sample_stimulus}
use Rattle.fab_sample.specs.Files.{file_of}
use Rattle.fab_sample_laws.specs.Laws.{SampleStimuliAreRead, stimulus_text}
use Rattle.fab_sample_laws.specs.Named.{IsOfItems}
use Rattle.fab_sample_laws.specs.Samples.{input_words, output_words, sample_items}
use Rattle.fab_sample_laws.specs.Sizes.{SampleTextsAreSmall}
use Rattle.fab_sample_laws.specs.Designs.{SampleDesignsAreRead, TellsSample}
use Rattle.fab_sample_laws.proofs.Designs.{tells_fabric}
use Rattle.fab_sample_runs_laws.specs.Commands.{names, simulated}
use Rattle.fab_sample_runs_laws.proofs.PortNames.{ports_short}
use Rattle.fab_sample_runs_laws.proofs.WireNames.{sample_wires_short}

-- files spell one design, and one fabric
abbrev DesignsOnce : Type 0
DesignsOnce = (files : Map) (names : DesignFiles) (first second : PlainDesign) → SpellsDesign files names first → SpellsDesign files names second → first ≡ second

abbrev FabricsOnce : Type 0
FabricsOnce = (files : Map) (name : List ℕ) (first second : PlainFabric) → SpellsFabric files name first → SpellsFabric files name second → first ≡ second

base_name : is_utf8 (codes "sample") ≡ true
unfolding is_utf8 chars encode
base_name = refl

stimulus_name : is_utf8 (codes "sample.stim") ≡ true
unfolding is_utf8 chars encode
stimulus_name = refl

module _ (designs_read : SampleDesignsAreRead) (designs_once : DesignsOnce) (are_sound : SpelledDesignsAreSound)
    (files : Map) (size : ℕ) (draws : ℕ → ℕ) (least : 2 ≤ size) (most : size ≤ 16) (told : TellsSample files size draws)
    (allowed : ℕ) (stored : List PlainOutput) (flow : MakesFlow files names allowed stored) where
  abbrev design : PlainDesign
  design = flow.design

  sound : IsSound design
  sound = are_sound files names.design design flow.spelled

  made : IsWellMadePacked (packed design.netlist)
  made = packed_made design.netlist sound.netlist

  of_items : IsOfItems design.netlist (input_words size) (output_words size) (sample_items size (covers size draws) (sample_latches size draws))
  of_items =
      let read = designs_read files size draws least most told in
      let same : read.0 ≡ design = designs_once files names.design read.0 design read.1.spelled flow.spelled in
      subst (λ (d : PlainDesign). IsOfItems d.netlist (input_words size) (output_words size) (sample_items size (covers size draws) (sample_latches size draws))) same read.1.netlist

  short_ports : All IsShortName (ports (packed design.netlist))
  short_ports = ports_short size draws least most design.netlist (sample_items size (covers size draws) (sample_latches size draws)) of_items

  -- ---- the implementation

  pub implementation_short : FabricsOnce → LegalImplementationsAreShort → length (implementation_text design.fabric flow.made.implementation) ≤ MAX_FILE_BYTES
  implementation_short fabrics_once are_short =
      let mapping = flow.made.mapping in
      let reset_is = ap (λ (i : PlainImplementation). i.reset) mapping.is ∙ mapping.good.reset in
      are_short design.fabric (packed design.netlist) design.fixed flow.made.implementation sound.fabric sound.tiles made flow.made.legal reset_is
      (sample_wires_short fabrics_once files size least most (tells_fabric files size draws told) design.fabric flow.spelled.fabric sound.fabric) short_ports

  -- ---- the simulation

  short_state : LegalStatesAreShort → length (state_text (flow_state flow)) ≤ MAX_FILE_BYTES
  short_state are_short = are_short design.fabric (packed design.netlist) design.fixed flow.made.implementation sound.fabric made flow.made.legal short_ports

  stimulus_stands : with_outputs stored files (codes "sample.stim") ≡ Some (stimulus_text size (sample_stimulus size draws))
  stimulus_stands =
      ap (λ (list : List PlainOutput). with_outputs list files (codes "sample.stim"))
      (flow.made.outputs_are
      ∙ ap (flow_outputs names.base (text_bytes (generated_text design.fabric)) (implementation_text design.fabric flow.made.implementation)) flow.made.assembly.outputs_are)
      ∙ told.stand 5 (file_of [] []) (omega arith)

  stimulus_read : SampleStimuliAreRead → ReadsStimulus (with_outputs stored files) (codes "sample.stim") (flow_state flow) (sample_stimulus size draws)
  stimulus_read stimuli_read =
      let bytes = stimulus_text size (sample_stimulus size draws) in
      let reads = stimuli_read size draws least most in
      let ports_are : input_words size ≡ ports_of (flow_state flow).ins = sym (input_names flow.made.implementation.ins (packed design.netlist).inputs ∙ of_items.inputs) in
      record {
        bytes = bytes;
        found = given_out (with_outputs stored files) (codes "sample.stim") bytes stimulus_name stimulus_stands reads.short;
        spelled = record {
          spelled = subst (λ (ports : List Word). stimuli.Spells ports (rows_of bytes) (sample_stimulus size draws)) ports_are reads.spelled;
          says = subst (λ (ports : List Word). stimuli.Says ports (rows_of bytes) (sample_stimulus size draws)) ports_are reads.says;
        };
      }

  pub simulates : LegalStatesAreShort → SampleStimuliAreRead → SampleTextsAreSmall → FlowFilesAreReady → IsReadyToSimulate (with_outputs stored files) simulated
  simulates are_short stimuli_read are_small ready =
      let small = are_small files size least most (tells_fabric files size draws told) design.fabric flow.spelled.fabric in
      ready files names allowed stored flow base_name small.points (short_state are_short)
      (with_outputs stored files) (record { text = refl; words = refl; state = refl })
      (codes "sample.stim") (codes "sample.trace") (sample_stimulus size draws) (stimulus_read stimuli_read)
