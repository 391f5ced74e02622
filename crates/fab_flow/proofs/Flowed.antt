-- What the command `flow` makes, and why nothing is made of a design that was read.
use Rattle.std.proofs.Common.{◌≡◌, ◌≤◌, ◌⊎◌, ℕ, List, All, length, map, Option, refl, sym, ap, ◌∙◌, inl, inr, subst}
use Rattle.std.specs.Option.{ForSome}
use Rattle.fab_base.specs.declared.TheConstants.{MAX_FILE_BYTES}
use Rattle.fab_base.specs.Reading.{fault_at}
use Rattle.fab_base.specs.declared.fault.Fault.{Fault}
use Rattle.fab_base.specs.declared.fault.Fault.TheVariants as faults
use Rattle.fab_base.specs.declared.problem.Problem.TheVariants as problems
use Rattle.fab_base.specs.declared.words.Quantity.TheVariants as quantities
use Rattle.fab_desk.specs.Files.{Map}
use Rattle.fab_files.specs.Files.{HasReadCause}
use Rattle.fab_files.specs.Stages.{at_first, behind_it}
use Rattle.fab_syntax.specs.Spelling.{text_bytes}
use Rattle.fab_model.specs.Grid.{PlainFabric}
use Rattle.fab_netlist.specs.Plain.{PlainNetlist}
use Rattle.fab_netlist.specs.Packing.{packed}
use Rattle.fab_netlist.specs.Resets.{netlist_with}
use Rattle.fab_netlist.specs.WellMade.{IsWellMade}
use Rattle.fab_implementation.specs.Plain.{Pad, PlainImplementation}
use Rattle.fab_legal.specs.Legal.{IsLegal}
use Rattle.fab_legal.proofs.NotLegal.{broken_is_not_legal}
use Rattle.fab_legal.proofs.PackedMade.{packed_is_well_made}
use Rattle.fab_ways_laws.specs.Mapping.{IsMapping}
use Rattle.fab_gen_tile.specs.Words.{IsNamed}
use Rattle.fab_assemble.specs.fab_drives_laws_Drives.{ShowsDrives}
use Rattle.fab_assemble.specs.fab_text_loads_laws_Loads.{LoadsConfigurations}
use Rattle.fab_assemble.specs.fab_fabric_text_defs_Texts.{IsFabricText}
use Rattle.fab_assemble.specs.fab_features_Naming.{HasPrefixes}
use Rattle.fab_impl.specs.Spelled.{implementation_text}
use Rattle.fab_map.specs.Causes.{HasMapCause}
use Rattle.fab_spelled_fabrics_laws.proofs.Prefixes.{ArePrefixed, prefixes_kept}
use Rattle.fab_spelled_fabrics_laws.proofs.Blocks.{names_kept}
use Rattle.fab_spelled_fabrics_laws.proofs.Readings.{spelled_keep}
use Rattle.fab_designs.specs.Designs.{PlainDesign, MeetsDesign, SpellsDesign, read_of}
use Rattle.fab_designs.proofs.SplitNetlists.{design_runs}
use Rattle.fab_outputs.specs.declared.storing.Output.{Output}
use Rattle.fab_outputs.specs.Storing.{PlainOutput, Leaves, plain_output}
use Rattle.fab_flow.specs.Generating.{generated_text, text_length, most_text_bytes, IsTooLong}
use Rattle.fab_flow.specs.Assembling.{Fits, IsAssembly, RefusesImplementation, short as short_of_sites, illegal}
use Rattle.fab_flow.specs.Mapping.{EndsUnmapped, memory, refused, failed}
use Rattle.fab_flow.specs.Flowing.{FlowFiles, EndsFlow, FailsToFlow, HasFlowCause, IsFlow, IsReadyToFlow, MeetsFlow, RefusesFlow, flow_outputs, flow_refusals, used, long, no_input, short, no_memory, not_taken, not_mapped}
use Rattle.fab_flow.specs.Resetting.{HasReset, LacksReset}
use Rattle.fab_flow.proofs.ResetPorts.{lacks_illegal}
use Rattle.fab_flow.proofs.Assembled.{is_short}
use Rattle.fab_flow.proofs.ReadAs.{flow_read}
use Rattle.fab_outputs.proofs.Ending.{Reads, cause_of_read, searched}

-- ---- what is made

-- the outputs behind an implementation, with those that are assembled of it
abbrev pub AreAssembled : (fabric : PlainFabric) (netlist : PlainNetlist) (implementation : PlainImplementation) (base text : List ℕ) (outputs : List PlainOutput) → Type 0
AreAssembled fabric netlist implementation base text outputs =
    (assembled : List PlainOutput) × IsAssembly fabric netlist netlist implementation base assembled × (outputs ≡ flow_outputs base text (implementation_text fabric implementation) assembled)

module _ (fabric : PlainFabric) (netlist : PlainNetlist) (fixed : List Pad) (allowed : ℕ) (base text : List ℕ) (implementation : PlainImplementation) (outputs : List PlainOutput) where
  -- the text of a fabric, a mapping onto it, and what is assembled of this
  pub flow_is : text ≡ text_bytes (generated_text fabric) → IsFabricText fabric (generated_text fabric) → ShowsDrives fabric (generated_text fabric)
      → LoadsConfigurations fabric (generated_text fabric) → text_length fabric ≤ most_text_bytes → length text ≤ MAX_FILE_BYTES
      → IsMapping fabric (packed netlist) fixed allowed implementation → IsLegal fabric (packed netlist) fixed implementation
      → AreAssembled fabric netlist implementation base text outputs → IsFlow fabric netlist netlist fixed allowed base outputs
  flow_is printed is_text drives loads few readable mapping legal assembled = record {
    implementation = implementation;
    mapping = mapping;
    legal = legal;
    text = is_text;
    drives = drives;
    loads = loads;
    short = few;
    readable = subst (λ (bytes : List ℕ). length bytes ≤ MAX_FILE_BYTES) printed readable;
    assembled = assembled.0;
    assembly = assembled.1;
    runs = assembled.1.runs (generated_text fabric) is_text;
    settles = assembled.1.settles (generated_text fabric) is_text;
    outputs_are = assembled.2 ∙ ap (λ (bytes : List ℕ). flow_outputs base bytes (implementation_text fabric implementation) assembled.0) printed;
  }

-- On a fabric that files spell, names are as texts and features need them; and what is packed runs as the netlist in the BLIF file does.
pub flow_of : (files : Map) (names : FlowFiles) (design : PlainDesign) (spelled : SpellsDesign files names.design design) (allowed : ℕ) (made stored : List Output)
    → stored ≡ made → (All IsNamed design.fabric.types → All HasPrefixes design.fabric.types
    → IsFlow design.fabric (used names design) (used names design) design.fixed allowed names.base (map plain_output made))
    → IsFlow design.fabric (netlist_with names.reset (read_of spelled)) (used names design) design.fixed allowed names.base (map plain_output stored)
flow_of files names design spelled allowed made stored same is =
    let read = netlist_with names.reset (read_of spelled) in
    let fabric = design.fabric in
    let name = names.design.fabric in
    subst (λ (items : List Output). IsFlow fabric read (used names design) design.fixed allowed names.base (map plain_output items)) (sym same)
    (flow_read read (used names design) (design_runs spelled names.reset) fabric design.fixed allowed names.base (map plain_output made)
    (is (spelled_keep IsNamed IsNamed names_kept files name fabric spelled.fabric) (spelled_keep ArePrefixed ArePrefixed prefixes_kept files name fabric spelled.fabric)))

-- ---- why nothing is made

-- what is legal and has sites is not refused where it is assembled
pub legal_is_assembled : (fabric : PlainFabric) (netlist : PlainNetlist) (fixed : List Pad) (implementation : PlainImplementation) (fault : Fault) → IsWellMade netlist
    → Fits fabric netlist → IsLegal fabric (packed netlist) fixed implementation
    → (fault ≡ faults.Memory) ⊎ RefusesImplementation fabric netlist fixed implementation fault → fault ≡ faults.Memory
legal_is_assembled fabric netlist fixed implementation fault made fits legal (inl is) = is
legal_is_assembled fabric netlist fixed implementation fault made fits legal (inr (short_of_sites is)) = absurd (let differ = sym is ∙ fits in cc)
legal_is_assembled fabric netlist fixed implementation fault made fits legal (inr (illegal {rule = rule} {item = item} also broken)) =
    absurd (broken_is_not_legal fabric (packed netlist) fixed implementation rule item (packed_is_well_made netlist _ _ (packed netlist) made fits) broken legal)

module _ (name : List ℕ) (reset : Option (List ℕ)) (design : PlainDesign) (allowed : ℕ) where
  pub text_ends : (fault : Fault) → (fault ≡ faults.Memory) ⊎ IsTooLong name design.fabric fault → EndsFlow name reset design allowed fault
  text_ends fault (inl is) = subst (EndsFlow name reset design allowed) (sym is) no_memory
  text_ends fault (inr is) = not_taken (long is)

  pub reset_ends : (fault : Fault) → text_length design.fabric ≤ most_text_bytes → (fault ≡ faults.Memory) ⊎ LacksReset reset design.netlist fault
      → EndsFlow name reset design allowed fault
  reset_ends fault few (inl is) = subst (EndsFlow name reset design allowed) (sym is) no_memory
  reset_ends fault few (inr lacks) = not_taken (no_input few lacks)

  -- the design with its reset port is not mapped
  pub mapping_ends : (fault : Fault) → text_length design.fabric ≤ most_text_bytes → HasReset reset design.netlist
      → EndsUnmapped (record { fabric = design.fabric; netlist = netlist_with reset design.netlist; fixed = design.fixed }) allowed fault
      → EndsFlow name reset design allowed fault
  mapping_ends fault few has memory = no_memory
  mapping_ends fault few has (refused is) = not_taken (short few has is)
  mapping_ends fault few has (failed fits cause) = not_mapped few has fits cause

-- ---- the cause

among : Reads flow_refusals
among = record { missing = refl; long = refl; malformed = refl; unsupported = refl; limit = refl }

module _ (told : Option Map) (names : FlowFiles) (allowed : ℕ) (reads writes : Type 0) where
  -- a file of the design is refused
  pub design_cause : (fault : Fault) → HasReadCause told reads (λ files. MeetsDesign files names.design) fault → HasFlowCause told names allowed reads writes fault
  design_cause fault cause =
      searched told reads writes (λ files. MeetsFlow files names) (λ files. IsReadyToFlow files names) (λ files. FailsToFlow files names allowed) flow_refusals refl refl fault
      (cause_of_read told reads writes (λ files. MeetsFlow files names) (λ files. IsReadyToFlow files names) flow_refusals among
      (λ files. MeetsDesign files names.design) (λ files event is x. at_first x) fault cause)

  module _ (design : PlainDesign) (spelled : ForSome told (λ files. SpellsDesign files names.design design)) where
    refusal_cause : (fault : Fault) → RefusesFlow names.design.fabric names.reset design fault → HasFlowCause told names allowed reads writes fault
    refusal_cause fault (long is) =
        let limit = fault_at names.design.fabric 0 (problems.Limit quantities.TextBytes (text_length design.fabric) most_text_bytes) in
        subst (HasFlowCause told names allowed reads writes) (sym is.is)
        (record { possible = refl; met = λ files there. behind_it (spelled files there) (limit, refl, long (record { long = is.long; is = refl })) })
    refusal_cause fault (no_input few lacks) =
        let told_illegal = lacks_illegal names.reset design.netlist fault lacks in
        let given : Fault = faults.Illegal 12 told_illegal.0 in
        let own = subst (RefusesFlow names.design.fabric names.reset design) told_illegal.1 (no_input few lacks) in
        subst (HasFlowCause told names allowed reads writes) (sym told_illegal.1)
        (record { possible = refl; met = λ files there. behind_it (spelled files there) (given, refl, own) })
    refusal_cause fault (short few has is) =
        let told_short = is_short (netlist_with names.reset design.netlist) _ _ fault is in
        let given : Fault = faults.Short told_short.0 told_short.1 told_short.2 in
        let own = subst (RefusesFlow names.design.fabric names.reset design) told_short.3 (short few has is) in
        subst (HasFlowCause told names allowed reads writes) (sym told_short.3)
        (record { possible = refl; met = λ files there. behind_it (spelled files there) (given, refl, own) })

    failure_cause : (fault : Fault) → text_length design.fabric ≤ most_text_bytes → HasReset names.reset design.netlist → Fits design.fabric (used names design)
        → HasMapCause design.fabric (packed (used names design)) design.fixed allowed fault → HasFlowCause told names allowed reads writes fault
    failure_cause faults.Memory few has fits cause = tt
    failure_cause (faults.NoPath net wire text) few has fits cause =
        λ files there. record { design = design; spelled = spelled files there; short = few; resets = has; fits = fits; cause = cause }
    failure_cause (faults.Overused wire first second text) few has fits cause =
        λ files there. record { design = design; spelled = spelled files there; short = few; resets = has; fits = fits; cause = cause }
    failure_cause fault few has fits cause = absurd cause

    -- nothing is made of the design
    pub flow_cause : (fault : Fault) → EndsFlow names.design.fabric names.reset design allowed fault → HasFlowCause told names allowed reads writes fault
    flow_cause fault no_memory = tt
    flow_cause fault (not_taken is) = refusal_cause fault is
    flow_cause fault (not_mapped few has fits cause) = failure_cause fault few has fits cause

-- ---- what is left

module _ (makes : Map → List PlainOutput → Type 0) (told after : Option Map) (kept : after ≡ told) (name : List ℕ) (reset : Option (List ℕ)) (design : PlainDesign) (allowed : ℕ) where
  refusal_leaves : (fault : Fault) → RefusesFlow name reset design fault → Leaves makes told after fault
  refusal_leaves fault (long is) = subst (Leaves makes told after) (sym is.is) kept
  refusal_leaves fault (no_input few lacks) =
      let told_illegal = lacks_illegal reset design.netlist fault lacks in
      subst (Leaves makes told after) (sym told_illegal.1) kept
  refusal_leaves fault (short few has is) =
      let told_short = is_short (netlist_with reset design.netlist) _ _ fault is in
      subst (Leaves makes told after) (sym told_short.3) kept

  failure_leaves : (fault : Fault) → HasMapCause design.fabric (packed (netlist_with reset design.netlist)) design.fixed allowed fault → Leaves makes told after fault
  failure_leaves faults.Memory cause = inl kept
  failure_leaves (faults.NoPath net wire text) cause = kept
  failure_leaves (faults.Overused wire first second text) cause = kept
  failure_leaves fault cause = absurd cause

  -- the files are as they were
  pub flow_leaves : (fault : Fault) → EndsFlow name reset design allowed fault → Leaves makes told after fault
  flow_leaves fault no_memory = inl kept
  flow_leaves fault (not_taken is) = refusal_leaves fault is
  flow_leaves fault (not_mapped few has fits cause) = failure_leaves fault cause
