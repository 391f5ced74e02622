-- The headline through the port.
use Rattle.std.proofs.Common.{◌≡◌, ℕ, List, map, refl, sym, ap, ◌∙◌, subst}
use Rattle.fab_bits.specs.Bits.{digits}
use Rattle.fab_syntax.specs.Plain.{PlainModule}
use Rattle.fab_meaning.specs.Settled.{Assignment}
use Rattle.fab_model.specs.Grid.{PlainFabric}
use Rattle.fab_fabric.specs.Fabric.{IsFabric}
use Rattle.fab_netlist.specs.Plain.{PlainNetlist}
use Rattle.fab_netlist.specs.Packing.{packed}
use Rattle.fab_implementation.specs.Plain.{Pad, PlainImplementation}
use Rattle.fab_points_laws.specs.fab_legal_Legal.{IsLegal}
use Rattle.fab_points_laws.specs.fab_fabric_text_defs_Texts.{IsFabricText}
use Rattle.fab_points_laws.specs.fab_use_defs_Headline.{RunsDesign}
use Rattle.fab_points_laws.specs.fab_use_defs_Registers.{design_state}
use Rattle.fab_serial_laws.specs.fab_nested_laws_Nested.{inside, within, NestedTexts}
use Rattle.fab_serial_laws.specs.fab_serial_Module.{fabric_instance_name, serial_text, CanHaveSerialPort}
use Rattle.fab_serial_laws.specs.Loads.{full_point, FabricTextsTakePorts, LoadsSerially, SerialTextsLoad}
use Rattle.fab_serial_laws.proofs.fab_serial_Places.{whole, whole_is}
use Rattle.fab_serial_laws.proofs.fab_serial_Led.{registers, closed, full_taken}
use Rattle.fab_serial_laws.proofs.Fabric.{loading_inside}
use Rattle.fab_serial_laws.proofs.Loading.{words_long, written}
use Rattle.fab_serial_runs_laws.specs.Runs.{RunsDesignSerially, DesignsRunSerially}
use Rattle.fab_serial_runs_laws.proofs.Use.{runs_from}

module _ (nested : NestedTexts) (fabric : PlainFabric) (text : List PlainModule) (read netlist : PlainNetlist) (fixed : List Pad) (implementation : PlainImplementation) (is : IsFabric fabric)
    (is_text : IsFabricText fabric text) (can : CanHaveSerialPort text) (legal : IsLegal fabric (packed netlist) fixed implementation) (words : List ℕ) where
  runs_whole : LoadsSerially fabric (whole text can) → RunsDesign fabric text read netlist implementation words (design_state (packed netlist) implementation) →
      RunsDesignSerially fabric text (whole text can) read netlist implementation words
  runs_whole loads design = record {
    once = loads.runs;
    sendable = loads.sendable (map (digits 32) words);
    runs = λ moments held after start sends run same.
        (let done = written text can nested (map (digits 32) words) (words_long words) moments held after sends run in
        runs_from nested fabric text read netlist fixed implementation is is_text can legal start
        (same full_point (registers text can, closed text can, full_taken text can) ∙ done.empty)
        (design.runs done.moments done.between (within fabric_instance_name after) (within fabric_instance_name start) done.writes done.run
        (λ p loading. same (inside fabric_instance_name p) (loading_inside text can p loading))));
    begins = λ held latches holds_state holds. design.begins (within fabric_instance_name held) latches holds_state holds;
  }

pub run_serially : FabricTextsTakePorts → SerialTextsLoad → NestedTexts → DesignsRunSerially
run_serially take load nested fabric text read netlist fixed implementation words frames is is_text legal design =
    let can = take fabric text frames is is_text in
    let loads : LoadsSerially fabric (whole text can) = subst (LoadsSerially fabric) (whole_is text can) (load fabric text frames is is_text) in
    subst (λ serial. RunsDesignSerially fabric text serial read netlist implementation words) (sym (whole_is text can))
    (runs_whole nested fabric text read netlist fixed implementation is is_text can legal words loads design)
