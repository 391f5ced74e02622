-- What is simulated of the files of a flow.
use Rattle.std.proofs.Common.{◌≡◌, ℕ, Bool, List, [], ◌∷◌, ◌++◌, map, codes, Option, Some, None, sym, ap, ◌∙◌, subst}
use Rattle.std.specs.List.{flat_map}
use Rattle.fab_bits.specs.Bits.{digits}
use Rattle.fab_desk.specs.Files.{Map}
use Rattle.fab_syntax.specs.Plain.{PlainModule}
use Rattle.fab_syntax.specs.Spelling.{text_bytes}
use Rattle.fab_sound.specs.Narrow.{AreNarrow}
use Rattle.fab_grammar_defs.specs.Grammar.{SpellsText}
use Rattle.fab_grammar_defs.specs.Printable.{IsPrintableText}
use Rattle.fab_grammar_defs.proofs.Once.{text_once}
use Rattle.fab_netlist.specs.Cycles.{HasNoCycle}
use Rattle.fab_netlist.specs.Meaning.{IsRun}
use Rattle.fab_netlist.specs.Packing.{packed}
use Rattle.fab_netlist.specs.Plain.{PlainNetlist, name_of}
use Rattle.fab_netlist.specs.Resets.{netlist_with}
use Rattle.fab_netlist.specs.WellMade.{IsWellMade}
use Rattle.fab_netlist.proofs.Resetting.{made_with, no_cycle_with}
use Rattle.fab_model.specs.Grid.{PlainFabric}
use Rattle.fab_implementation.specs.Plain.{PlainImplementation}
use Rattle.fab_frames.specs.Bytes.{word_bytes}
use Rattle.fab_frames.specs.Stream.{stream}
use Rattle.fab_texts.specs.Rows.{Word, rows_of, words_of}
use Rattle.fab_texts.proofs.PrintedRows.{rows_again}
use Rattle.fab_state.specs.Plain.{PlainState}
use Rattle.fab_state.specs.Spelled.{HasSpelling, Says, Spells, state_lines, state_text}
use Rattle.fab_state.proofs.Printed.{state_rows}
use Rattle.fab_state.proofs.ReadBack.{spelled_is_read}
use Rattle.fab_systems_laws.specs.Ternary.{known}
use Rattle.fab_systems_laws.specs.Ternary.{Tern as PlainTern}
use Rattle.fab_ternary.specs.Terns.{plain_tern}
use Rattle.fab_stimulus.specs.Stimuli.{ports_of}
use Rattle.fab_stimulus.specs.Spelled as stimuli
use Rattle.fab_stimulus.specs.Traces.{trace_text}
use Rattle.fab_flow_laws.specs.fab_use_defs_Design.{IsSourced}
use Rattle.fab_text_reads_laws.specs.Laws.{GeneratedTextsAreRead}
use Rattle.fab_draws.specs.Draws.{draws_of}
use Rattle.fab_netlist_traces_laws.specs.SimulatedDesigns.{EachKnows, initial_latches, shown_by}
use Rattle.fab_netlist_traces_laws.specs.SimulatedLaws.{LegalDesignsSimulate}
use Rattle.fab_netlist_traces_laws.specs.OrderedDesigns.{EachRight}
use Rattle.fab_netlist_traces_laws.specs.OrderedLaws.{LegalDesignsSimulateInOrder}
use Rattle.fab_spelled_designs_laws.specs.DesignLaws.{IsSound, LegalDesignsAreSpelled, SpelledDesignsAreSound}
use Rattle.fab_designs.specs.Designs.{read_of}
use Rattle.fab_designs.proofs.SplitNetlists.{design_runs, netlist_acyclic}
use Rattle.fab_outputs.specs.Storing.{PlainOutput, output, with_outputs}
use Rattle.fab_flow_laws.specs.fab_flow_Generating.{generated_text}
use Rattle.fab_flow_laws.specs.fab_flow_Flowing.{FlowFiles, MakesFlow, used}
use Rattle.fab_simulate_command.specs.Simulating.{MakesTrace, Shows, SimulationFiles, simulation_files}
use Rattle.fab_flow_laws.specs.StoredLaws.{FlowFilesStand, HoldsFlow, KeepsFlowFiles, flow_state}
use Rattle.fab_flow_laws.proofs.HandedOut.{found_is, found_short}
use Rattle.fab_flow_laws.proofs.Ports.{input_names, output_names, output_ports}
use Rattle.fab_flow_laws.proofs.ReadTraces.{traces_read}
use Rattle.fab_flow_laws.specs.SimulatedLaws.{KnowsDesign, TracesNetlist}
use Rattle.fab_flow_laws.proofs.Digits.{same_digits}
use Rattle.fab_flow_laws.proofs.Narrow.{narrow_text}
use Rattle.fab_flow_laws.proofs.Shown.{lines_known, shown_values}

-- a printed state says itself alone
state_again : (bytes : List ℕ) (printed said : PlainState) → HasSpelling printed → bytes ≡ state_text printed → Says (rows_of bytes) said → said ≡ printed
state_again bytes printed said has is says =
    let spells : Spells (rows_of bytes) printed = record {
      lines = ap (λ (b : List ℕ). words_of (rows_of b)) is ∙ rows_again (state_lines printed) (state_rows printed has);
      fresh = has.fresh;
    } in
    says.1 ∙ sym (spelled_is_read (rows_of bytes) printed spells).1

-- `KnowsDesign`, of what is shown in any text
abbrev Knows : PlainFabric → PlainNetlist → PlainImplementation → (text : List PlainModule) (state : PlainState) (order : Option ℕ)
    (words lines : List (List Bool)) (shown : List (List PlainTern)) → Shows text state order words lines shown → Type 0
Knows fabric netlist implementation text state None words lines shown simulation =
    EachKnows (IsSourced fabric (packed netlist) implementation) simulation.cycles
Knows fabric netlist implementation text state (Some seed) words lines shown simulation =
    EachRight (IsSourced fabric (packed netlist) implementation) simulation.simulates.cycles

knows_design : (fabric : PlainFabric) (netlist : PlainNetlist) (implementation : PlainImplementation) (files : Map) (names : SimulationFiles) (order : Option ℕ)
    (outputs : List PlainOutput) (made : MakesTrace files names order outputs) →
    Knows fabric netlist implementation made.text made.made.state order (map (digits 32) made.made.words) made.made.lines
    (map (map plain_tern) made.made.traces.shown) made.made.traces.simulates → KnowsDesign fabric netlist implementation order made
knows_design fabric netlist implementation files names None outputs made knows = knows
knows_design fabric netlist implementation files names (Some seed) outputs made knows = knows

-- What is shown is a run of the netlist, and known, and so is what is on the way to it.
record ShowsRun (fabric : PlainFabric) (netlist : PlainNetlist) (implementation : PlainImplementation) (text : List PlainModule) (state : PlainState)
    (order : Option ℕ) (words lines : List (List Bool)) (shown : List (List PlainTern)) (simulation : Shows text state order words lines shown) : Type 0 where
  nows : List (ℕ → Bool)
  run : IsRun netlist (initial_latches netlist) lines nows
  shows : shown ≡ map (shown_by netlist) nows
  knows : Knows fabric netlist implementation text state order words lines shown simulation

module _ (stand : FlowFilesStand) (read_again : GeneratedTextsAreRead) (simulate : LegalDesignsSimulate) (in_order : LegalDesignsSimulateInOrder) (are_sound : SpelledDesignsAreSound) (are_spelled : LegalDesignsAreSpelled)
    (files : Map) (names : FlowFiles) (allowed : ℕ) (stored : List PlainOutput) (flow : MakesFlow files names allowed stored)
    (later : Map) (kept : KeepsFlowFiles names.base (with_outputs stored files) later) (stimulus trace : List ℕ) (order : Option ℕ) (outputs : List PlainOutput)
    (made : MakesTrace later
    (simulation_files (names.base ++ codes ".v") (names.base ++ codes ".bit") (names.base ++ codes ".state") stimulus trace) order outputs) where
  abbrev fabric : PlainFabric
  fabric = flow.design.fabric

  abbrev netlist : PlainNetlist
  netlist = used names flow.design

  abbrev implementation : PlainImplementation
  implementation = flow.made.implementation

  abbrev state : PlainState
  state = flow_state flow

  abbrev words : List ℕ
  words = stream fabric flow.made.assembly.bits

  holds : HoldsFlow flow later
  holds = stand files names allowed stored flow later kept

  sound : IsSound flow.design
  sound = are_sound files names.design flow.design flow.spelled

  netlist_made : IsWellMade netlist
  netlist_made = made_with flow.design.netlist names.reset sound.netlist

  has : HasSpelling state
  has = (are_spelled files names.design flow.design names.reset implementation flow.spelled flow.made.legal).state

  no_cycle : HasNoCycle netlist
  no_cycle =
      no_cycle_with flow.design.netlist names.reset (netlist_acyclic flow.spelled.netlist.bytes flow.design.netlist flow.spelled.netlist.spelled)

  printed : IsPrintableText (generated_text fabric) × SpellsText 300 128 (text_bytes (generated_text fabric)) (generated_text fabric)
  printed = read_again files names.design.fabric fabric flow.spelled.fabric sound.fabric sound.tiles

  text_is : made.text ≡ generated_text fabric
  text_is =
      let bytes_are = found_is later (names.base ++ codes ".v") made.device.bytes (text_bytes (generated_text fabric)) holds.text made.device.found in
      text_once 300 128 300 128 made.device.bytes made.text (generated_text fabric) made.device.spelled.spelled
      (subst (λ (b : List ℕ). SpellsText 300 128 b (generated_text fabric)) (sym bytes_are) printed.1)

  -- a text that a file holds is narrow
  narrow : AreNarrow (generated_text fabric)
  narrow =
      narrow_text (generated_text fabric) printed.0.1
      (found_short later (names.base ++ codes ".v") made.device.bytes (text_bytes (generated_text fabric)) holds.text made.device.found)

  words_are : map (digits 32) made.made.words ≡ map (digits 32) words
  words_are =
      let bytes_are = found_is later (names.base ++ codes ".bit") made.made.loaded.bytes (flat_map word_bytes words) holds.words made.made.loaded.found in
      same_digits made.made.words words (sym made.made.loaded.spelled.bytes_are ∙ bytes_are)

  state_is : made.made.state ≡ state
  state_is =
      let bytes_are = found_is later (names.base ++ codes ".state") made.made.stands.bytes (state_text state) holds.state made.made.stands.found in
      state_again made.made.stands.bytes state made.made.state has bytes_are made.made.stands.spelled.says

  abbrev shown : List (List PlainTern)
  shown = map (map plain_tern) made.made.traces.shown

  -- without an order, and with one
  runs : (chosen : Option ℕ) (lines : List (List Bool)) (seen : List (List PlainTern))
      (simulation : Shows (generated_text fabric) state chosen (map (digits 32) words) lines seen) →
      ShowsRun fabric netlist implementation (generated_text fabric) state chosen (map (digits 32) words) lines seen simulation
  runs None lines seen simulates =
      let it = simulate fabric (generated_text fabric) netlist flow.design.fixed implementation flow.made.assembly.bits sound.fabric sound.tiles flow.made.text
      netlist_made no_cycle flow.made.legal flow.made.assembly.configures lines seen simulates in
      record { nows = it.nows; run = it.run; shows = it.shows; knows = it.knows }
  runs (Some seed) lines seen ordered =
      let it = in_order fabric (generated_text fabric) netlist flow.design.fixed implementation flow.made.assembly.bits sound.fabric sound.tiles flow.made.text narrow
      netlist_made no_cycle flow.made.legal flow.made.assembly.configures (draws_of seed) lines ordered.bits ordered.simulates in
      record { nows = it.nows; run = it.run; shows = ordered.known_is ∙ ap (map (map known)) it.shows ∙ lines_known netlist it.nows; knows = it.right }

  -- so it is in the text, from the state and over the words that were read
  abbrev Runs : List PlainModule → PlainState → List (List Bool) → Type 0
  Runs t s w = (simulation : Shows t s order w made.made.lines shown) → ShowsRun fabric netlist implementation t s order w made.made.lines shown simulation

  shows_run : ShowsRun fabric netlist implementation made.text made.made.state order (map (digits 32) made.made.words) made.made.lines shown
      made.made.traces.simulates
  shows_run =
      subst (λ (t : List PlainModule). Runs t made.made.state (map (digits 32) made.made.words)) (sym text_is)
      (subst (λ (s : PlainState). Runs (generated_text fabric) s (map (digits 32) made.made.words)) (sym state_is)
      (subst (Runs (generated_text fabric) state) (sym words_are) (runs order made.made.lines shown))) made.made.traces.simulates

  traces_netlist : TracesNetlist later stimulus trace netlist outputs
  traces_netlist =
      let ins_are : ports_of made.made.state.ins ≡ (packed netlist).inputs =
      ap (λ (s : PlainState). ports_of s.ins) state_is ∙ input_names implementation.ins (packed netlist).inputs in
      let outs_are : ports_of made.made.state.outs ≡ map (name_of netlist) netlist.outputs =
      ap (λ (s : PlainState). ports_of s.outs) state_is ∙ output_names implementation.outs (packed netlist).outputs ∙ output_ports netlist in
      let it = shows_run in
      let values = shown_values netlist made.made.traces.shown it.nows it.shows in
      let given = made.made.given in
      record {
        lines = made.made.lines;
        given = record {
          bytes = given.bytes;
          found = given.found;
          spelled = subst (λ (ports : List Word). stimuli.Says ports (rows_of given.bytes) made.made.lines) ins_are given.spelled.says;
        };
        nows = it.nows;
        run = it.run;
        outputs_are = made.outputs_are ∙ ap (λ (b : List ℕ). output trace b ∷ []) (made.made.traces.bytes_are ∙ (λ j. trace_text (outs_are j) (values j)));
      }

  -- and so it is with the netlist as it stands in the BLIF file
  abbrev read : PlainNetlist
  read = netlist_with names.reset (read_of flow.spelled)

  pub simulates_flow : TracesNetlist later stimulus trace read outputs × KnowsDesign fabric netlist implementation order made
  simulates_flow = (
    traces_read read netlist (design_runs flow.spelled names.reset) later stimulus trace outputs traces_netlist,
    knows_design fabric netlist implementation later _ order outputs made shows_run.knows,
  )
