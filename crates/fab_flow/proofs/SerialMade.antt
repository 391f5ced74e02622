-- What the command `serial` makes, and why a fabric is not taken.
use Rattle.std.proofs.Common.{◌≡◌, ◌≤◌, ◌<◌, ◌⊎◌, ℕ, codes, List, [], ◌∷◌, All, length, Option, refl, sym, ap, ◌∙◌, inl, inr, subst}
use Rattle.std.specs.Option.{ForSome}
use Rattle.fab_base.specs.declared.TheConstants.{MAX_FILE_BYTES}
use Rattle.fab_base.specs.Reading.{fault_at, IsFaultOr}
use Rattle.fab_base.specs.declared.fault.Fault.{Fault}
use Rattle.fab_base.specs.declared.fault.Fault.TheVariants as faults
use Rattle.fab_base.specs.declared.problem.Problem.TheVariants as problems
use Rattle.fab_base.specs.declared.words.Quantity.TheVariants as quantities
use Rattle.fab_desk.specs.Files.{Map}
use Rattle.fab_files.specs.Stages.{behind_it}
use Rattle.fab_syntax.specs.Sound.{IsSound}
use Rattle.fab_syntax.specs.Spelling.{text_bytes}
use Rattle.fab_model.specs.Grid.{PlainFabric}
use Rattle.fab_model.specs.declared.mode.Mode.TheVariants as modes
use Rattle.fab_gen_tile.specs.Words.{IsNamed}
use Rattle.fab_assemble.specs.fab_fabric_text_defs_Texts.{IsFabricText}
use Rattle.fab_read.specs.Fabrics.{SpellsFabric}
use Rattle.fab_serial.specs.Delivery.{DeliversSerially}
use Rattle.fab_serial_laws.specs.Loads.{LoadsSerially}
use Rattle.fab_spelled_fabrics_laws.proofs.Blocks.{names_kept}
use Rattle.fab_spelled_fabrics_laws.proofs.Readings.{spelled_keep}
use Rattle.fab_outputs.specs.Storing.{PlainOutput, output, Leaves}
use Rattle.fab_outputs.proofs.Ending.{leaves_of_memory}
use Rattle.fab_flow.specs.Generating.{generated_text, most_text_bytes}
use Rattle.fab_flow.specs.Serial.{text_with_port, serial_length, RefusesSerial, MakesSerial, HasSerialCause, chain, long}

pub serial_made : (files : Map) (name out text : List ℕ) (fabric : PlainFabric) (outputs : List PlainOutput) → SpellsFabric files name fabric
    → fabric.mode ≡ modes.Frames → text ≡ text_bytes (text_with_port fabric) → (All IsNamed fabric.types → IsFabricText fabric (generated_text fabric))
    → (All IsNamed fabric.types → IsSound (text_with_port fabric)) → (All IsNamed fabric.types → DeliversSerially (text_with_port fabric))
    → (All IsNamed fabric.types → LoadsSerially fabric (text_with_port fabric)) → serial_length fabric ≤ most_text_bytes → length text ≤ MAX_FILE_BYTES
    → outputs ≡ output out text ∷ [] → MakesSerial files name out outputs
serial_made files name out text fabric outputs spelled frames printed is_text sound delivers loads short readable are =
    let named = spelled_keep IsNamed IsNamed names_kept files name fabric spelled in
    record {
      text = text;
      made = record {
        fabric = fabric;
        spelled = spelled;
        frames = frames;
        printed = printed;
        is_text = is_text named;
        sound = sound named;
        delivers = delivers named;
        loads = loads named;
        short = short;
        readable = readable;
      };
      outputs_are = are;
    }

-- ---- what is refused

pub chain_refused : (name : List ℕ) (fabric : PlainFabric) (fault : Fault) → fabric.mode ≡ modes.Chain
    → IsFaultOr fault (fault_at name 0 (problems.Unsupported (codes "serial FlipFlopChain"))) → (fault ≡ faults.Memory) ⊎ RefusesSerial name fabric fault
chain_refused name fabric fault is (inl memory) = inl memory
chain_refused name fabric fault is (inr same) = inr (subst (RefusesSerial name fabric) (sym same) (chain is))

pub long_refused : (name : List ℕ) (fabric : PlainFabric) (bytes : ℕ) (fault : Fault) → fabric.mode ≡ modes.Frames → bytes ≡ serial_length fabric
    → (fault ≡ faults.Memory) ⊎ ((most_text_bytes < bytes) × (fault ≡ fault_at name 0 (problems.Limit quantities.TextBytes bytes most_text_bytes)))
    → (fault ≡ faults.Memory) ⊎ RefusesSerial name fabric fault
long_refused name fabric bytes fault frames count (inl memory) = inl memory
long_refused name fabric bytes fault frames count (inr above) =
    let limit = λ (n : ℕ). fault_at name 0 (problems.Limit quantities.TextBytes n most_text_bytes) in
    inr (subst (RefusesSerial name fabric) (sym (above.1 ∙ ap limit count)) (long frames (subst (λ (n : ℕ). most_text_bytes < n) count above.0)))

refused_cause : (told : Option Map) (name : List ℕ) (reads writes : Type 0) (fabric : PlainFabric) (fault : Fault)
    → ForSome told (λ files. SpellsFabric files name fabric) → RefusesSerial name fabric fault → HasSerialCause told name reads writes fault
refused_cause told name reads writes fabric _ spelled (chain is) =
    record { possible = refl; met = λ files told_is. behind_it (spelled files told_is) (_, refl, chain is) }
refused_cause told name reads writes fabric _ spelled (long frames above) =
    record { possible = refl; met = λ files told_is. behind_it (spelled files told_is) (_, refl, long frames above) }

-- a fabric is not taken for what it is, or memory was refused
pub port_cause : (told : Option Map) (name : List ℕ) (reads writes : Type 0) (fabric : PlainFabric) (fault : Fault)
    → ForSome told (λ files. SpellsFabric files name fabric) → (fault ≡ faults.Memory) ⊎ RefusesSerial name fabric fault
    → HasSerialCause told name reads writes fault
port_cause told name reads writes fabric fault spelled (inl memory) = subst (HasSerialCause told name reads writes) (sym memory) tt
port_cause told name reads writes fabric fault spelled (inr refused) = refused_cause told name reads writes fabric fault spelled refused

refused_leaves : (makes : Map → List PlainOutput → Type 0) (told after : Option Map) (name : List ℕ) (fabric : PlainFabric) (fault : Fault) → after ≡ told
    → RefusesSerial name fabric fault → Leaves makes told after fault
refused_leaves makes told after name fabric _ kept (chain is) = kept
refused_leaves makes told after name fabric _ kept (long frames above) = kept

-- and then the files are as they were
pub port_leaves : (makes : Map → List PlainOutput → Type 0) (told after : Option Map) (name : List ℕ) (fabric : PlainFabric) (fault : Fault) → after ≡ told
    → (fault ≡ faults.Memory) ⊎ RefusesSerial name fabric fault → Leaves makes told after fault
port_leaves makes told after name fabric fault kept (inl memory) = leaves_of_memory makes told after fault memory kept
port_leaves makes told after name fabric fault kept (inr refused) = refused_leaves makes told after name fabric fault kept refused
