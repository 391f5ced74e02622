-- A legal implementation has exactly one simulation, by what it shows.
use Rattle.std.proofs.Common.{◌≡◌, ℕ, true, List, [], codes, map, Contains, ap, subst, inl, inr, bytes_eq}
use Rattle.std.proofs.lemmas.Slice.Eq.{bytes_eq-Decides}
use Rattle.fab_bits.specs.Bits.{digits}
use Rattle.fab_kinds.specs.declared.kind.Kind.TheVariants as kinds
use Rattle.fab_syntax.specs.Plain.{PlainModule}
use Rattle.fab_syntax.specs.Declarations.{width_in, is_input_of}
use Rattle.fab_meaning.specs.Points.{module_at}
use Rattle.fab_meaning.specs.Reads.{is_declared}
use Rattle.fab_meaning.specs.Runs.{clock_name, user_clock_name}
use Rattle.fab_meaning.specs.Loading.{write_strobe_name}
use Rattle.fab_model.specs.Grid.{PlainFabric}
use Rattle.fab_fabric.specs.Fabric.{IsFabric, AreTiles}
use Rattle.fab_frames.specs.Stream.{stream}
use Rattle.fab_netlist.specs.declared.net_id.NetId.{NetId}
use Rattle.fab_netlist.specs.Packed.{PlainPacked}
use Rattle.fab_netlist.specs.Packing.{packed}
use Rattle.fab_netlist.proofs.Members.{mapped_in}
use Rattle.fab_implementation.specs.Plain.{Pad, PlainImplementation}
use Rattle.fab_legal.specs.WellMade.{IsWellMadePacked, output_name}
use Rattle.fab_legal.specs.Lines.{IsOutput}
use Rattle.fab_legal.specs.Sinks.{site_of}
use Rattle.fab_legal.specs.Legal.{IsLegal}
use Rattle.fab_legal.proofs.Members.{from_mapped}
use Rattle.fab_legal.proofs.PackedMade.{packed_made}
use Rattle.fab_legal.proofs.SinkLaw.{known_site}
use Rattle.fab_load_runs_laws.specs.Runs.{HasClocks}
use Rattle.fab_fabric_text_defs.specs.Texts.{IsFabricText}
use Rattle.fab_runs_laws.specs.fab_use_defs_Sites.{top_point}
use Rattle.fab_runs_laws.specs.fab_use_defs_Registers.{bound_pad, design_state}
use Rattle.fab_runs_laws.specs.fab_use_defs_Sources as sources
use Rattle.fab_runs_laws.specs.fab_points_laws_Laws.{DesignIsDeclared}
use Rattle.fab_runs_laws.proofs.fab_points_laws_EachSource.{has_fabric}
use Rattle.fab_runs_laws.proofs.fab_points_laws_Sourced.{sources_are_of_design}
use Rattle.fab_runs_laws.proofs.Ranks.{all_by}
use Rattle.fab_simulation_laws.specs.Laws.{AreShown, SimulationsExist, SimulationsAgree}
use Rattle.fab_netlist_traces_laws.specs.SimulatedLaws.{LegalDesignsSimulateOnce}

module _ (fabric : PlainFabric) (text : List PlainModule) (is : IsFabric fabric) (is_text : IsFabricText fabric text) where
  clocks : HasClocks text
  clocks = record {
    loader_clock = ap (λ m. is_input_of m clock_name) (has_fabric fabric text is is_text).top_is;
    user_clock = ap (λ m. is_input_of m user_clock_name) (has_fabric fabric text is is_text).top_is;
  }

  clock_wide : width_in (module_at text []) clock_name ≡ 1
  clock_wide = ap (λ m. width_in m clock_name) (has_fabric fabric text is is_text).top_is

  strobe_wide : width_in (module_at text []) write_strobe_name ≡ 1
  strobe_wide = ap (λ m. width_in m write_strobe_name) (has_fabric fabric text is is_text).top_is

  -- the pads of output ports are declared
  module _ (declared : DesignIsDeclared) (design : PlainPacked) (fixed : List Pad) (implementation : PlainImplementation) (are : AreTiles fabric)
      (made : IsWellMadePacked design)
      (legal : IsLegal fabric design fixed implementation) where
    abbrev IsThere : Pad → Type 0
    IsThere pad = is_declared text (top_point pad.1 (codes "I_top")) ≡ true

    output_there : (output : List ℕ × NetId) → Contains design.outputs output → IsThere (bound_pad implementation.outs output.0)
    output_there output among =
        let listed = known_site bytes_eq bytes_eq-Decides fabric kinds.Io (IsOutput design) implementation.outs legal.placed.ports.outs output.0
        (mapped_in output_name design.outputs output among) in
        let p = top_point (site_of bytes_eq implementation.outs output.0) (codes "I_top") in
        declared fabric text design fixed implementation is are is_text made legal p
        (inl (inr (sources_are_of_design fabric design fixed implementation are made legal p _ (sources.shown_outside listed))))

    outs_there : AreShown text (design_state design implementation).outs
    outs_there = all_by IsThere (design_state design implementation).outs (λ pad among.
        let from = from_mapped (λ (output : List ℕ × NetId). bound_pad implementation.outs output.0) design.outputs pad among in
        subst IsThere from.2 (output_there from.0 from.1))

pub legal_designs_simulate_once : SimulationsExist → SimulationsAgree → DesignIsDeclared → LegalDesignsSimulateOnce
legal_designs_simulate_once exist agree declared fabric text netlist fixed implementation bits is are is_text narrow made legal lines =
    let state = design_state (packed netlist) implementation in
    let words = map (digits 32) (stream fabric bits) in (
      exist text state words lines is_text.sound narrow (clocks fabric text is is_text),
      agree text state words lines is_text.sound (clock_wide fabric text is is_text) (strobe_wide fabric text is is_text)
          (outs_there fabric text is is_text declared (packed netlist) fixed implementation are (packed_made netlist made) legal),
    )
