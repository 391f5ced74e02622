-- What the command `generate` makes, and why the text of a fabric is not taken.
use Rattle.std.proofs.Common.{◌≡◌, ◌≤◌, ◌⊎◌, ℕ, List, [], ◌∷◌, All, length, Option, refl, sym, inl, inr, subst}
use Rattle.std.specs.Option.{ForSome}
use Rattle.fab_base.specs.declared.TheConstants.{MAX_FILE_BYTES}
use Rattle.fab_base.specs.Reading.{fault_at}
use Rattle.fab_base.specs.declared.fault.Fault.{Fault}
use Rattle.fab_base.specs.declared.fault.Fault.TheVariants as faults
use Rattle.fab_base.specs.declared.problem.Problem.TheVariants as problems
use Rattle.fab_base.specs.declared.words.Quantity.TheVariants as quantities
use Rattle.fab_desk.specs.Files.{Map}
use Rattle.fab_files.specs.Stages.{behind_it}
use Rattle.fab_syntax.specs.Spelling.{text_bytes}
use Rattle.fab_model.specs.Grid.{PlainFabric}
use Rattle.fab_gen_tile.specs.Words.{IsNamed}
use Rattle.fab_assemble.specs.fab_drives_laws_Drives.{ShowsDrives}
use Rattle.fab_assemble.specs.fab_text_loads_laws_Loads.{LoadsConfigurations}
use Rattle.fab_assemble.specs.fab_fabric_text_defs_Texts.{IsFabricText}
use Rattle.fab_read.specs.Fabrics.{SpellsFabric}
use Rattle.fab_spelled_fabrics_laws.proofs.Blocks.{names_kept}
use Rattle.fab_spelled_fabrics_laws.proofs.Readings.{spelled_keep}
use Rattle.fab_outputs.specs.Storing.{PlainOutput, output, Leaves}
use Rattle.fab_flow.specs.Generating.{generated_text, text_length, most_text_bytes, IsTooLong, MakesFabric, HasGenerateCause}
use Rattle.fab_outputs.proofs.Ending.{leaves_of_memory}

pub fabric_made : (files : Map) (name out text : List ℕ) (fabric : PlainFabric) (outputs : List PlainOutput) → SpellsFabric files name fabric → text ≡ text_bytes (generated_text fabric)
    → (All IsNamed fabric.types → IsFabricText fabric (generated_text fabric)) → ShowsDrives fabric (generated_text fabric) → (All IsNamed fabric.types → LoadsConfigurations fabric (generated_text fabric))
    → text_length fabric ≤ most_text_bytes → length text ≤ MAX_FILE_BYTES → outputs ≡ output out text ∷ [] → MakesFabric files name out outputs
fabric_made files name out text fabric outputs spelled printed is_text drives loads short readable are =
    let named = spelled_keep IsNamed IsNamed names_kept files name fabric spelled in
    record {
      text = text;
      made = record { fabric = fabric; spelled = spelled; printed = printed; is_text = is_text named; drives = drives; loads = loads named; short = short; readable = readable };
      outputs_are = are;
    }

long_cause : (told : Option Map) (name : List ℕ) (reads writes : Type 0) (fabric : PlainFabric) (fault : Fault) → ForSome told (λ files. SpellsFabric files name fabric) → IsTooLong name fabric fault
    → HasGenerateCause told name reads writes fault
long_cause told name reads writes fabric fault spelled long =
    let limit = fault_at name 0 (problems.Limit quantities.TextBytes (text_length fabric) most_text_bytes) in
    subst (HasGenerateCause told name reads writes) (sym long.is)
    (record { possible = refl; met = λ files is. behind_it (spelled files is) (limit, refl, record { long = long.long; is = refl }) })

-- a text that is not taken is too long, or memory was refused
pub text_cause : (told : Option Map) (name : List ℕ) (reads writes : Type 0) (fabric : PlainFabric) (fault : Fault) → ForSome told (λ files. SpellsFabric files name fabric)
    → (fault ≡ faults.Memory) ⊎ IsTooLong name fabric fault → HasGenerateCause told name reads writes fault
text_cause told name reads writes fabric fault spelled (inl memory) = subst (HasGenerateCause told name reads writes) (sym memory) tt
text_cause told name reads writes fabric fault spelled (inr long) = long_cause told name reads writes fabric fault spelled long

-- and then the files are as they were
pub text_leaves : (makes : Map → List PlainOutput → Type 0) (told after : Option Map) (name : List ℕ) (fabric : PlainFabric) (fault : Fault) → after ≡ told
    → (fault ≡ faults.Memory) ⊎ IsTooLong name fabric fault → Leaves makes told after fault
text_leaves makes told after name fabric fault kept (inl memory) = leaves_of_memory makes told after fault memory kept
text_leaves makes told after name fabric fault kept (inr long) = subst (Leaves makes told after) (sym long.is) kept
