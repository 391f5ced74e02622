-- What the command `assemble` makes, and why an implementation that was read is not taken.
use Rattle.std.proofs.Common.{◌≡◌, ◌<◌, ◌⊎◌, ℕ, ◌+◌, Bool, List, [], ◌∷◌, All, bytes_eq, map, length, nat_eq, nat_lt, Option, Some, None, Result, Ok, Err, IfOk, refl, sym, ap, ◌∙◌, inl, inr, subst, arith}
use Rattle.std.specs.List.{enumerate_from, filter_map}
use Rattle.std.specs.Option.{ForSome}
use Rattle.std.proofs.lemmas.Bool.{cases_Bool}
use Rattle.std.proofs.lemmas.List.Elements.{All-cons, All-head, All-nil, All-tail, All-weaker}
use Rattle.fab_base.specs.Reading.{Gives}
use Rattle.fab_base.specs.declared.fault.SiteKind.{SiteKind}
use Rattle.fab_base.specs.declared.fault.SiteKind.TheVariants as kinds
use Rattle.fab_base.specs.declared.fault.Fault.{Fault}
use Rattle.fab_base.specs.declared.fault.Fault.TheVariants as faults
use Rattle.fab_desk.specs.Files.{Map}
use Rattle.fab_files.specs.Stages.{at_first, behind_it}
use Rattle.fab_files.specs.Files.{Event, HasReadCause, refuses}
use Rattle.fab_files.proofs.Causes.{cause_weaker}
use Rattle.fab_model.specs.Drive.{PlainBits}
use Rattle.fab_model.specs.Grid.{PlainFabric}
use Rattle.fab_fabric.specs.Fabric.{IsFabric}
use Rattle.fab_fabric.specs.declared.wire.Site.{Site}
use Rattle.fab_netlist.specs.Plain.{PlainNetlist}
use Rattle.fab_netlist.specs.Packed.{PlainCell, PlainPacked}
use Rattle.fab_netlist.specs.Packing.{packed, packing, works}
use Rattle.fab_netlist.specs.Resets.{netlist_with}
use Rattle.fab_netlist.specs.WellMade.{ports}
use Rattle.fab_implementation.specs.Plain.{Pad, PlainImplementation}
use Rattle.fab_implementation.specs.OnFabric.{IsOnFabric, IsSite}
use Rattle.fab_legal.specs.declared.broken.CheckFault.{CheckFault}
use Rattle.fab_legal.specs.declared.broken.CheckFault.TheVariants as checks
use Rattle.fab_legal.specs.Broken.{Explains, IsFirstBroken, fault_of}
use Rattle.fab_legal.specs.Sinks.{site_of}
use Rattle.fab_legal.proofs.SiteKeys.{few_bels}
use Rattle.fab_state.specs.Plain.{PlainState, Register}
use Rattle.fab_state.specs.Spelled.{HasLetters}
use Rattle.fab_syntax.specs.Plain.{PlainModule}
use Rattle.fab_fasm.specs.declared.feature.Feature.{Feature}
use Rattle.fab_frames.specs.Stream.{stream}
use Rattle.fab_assemble.specs.fab_fabric_text_defs_Texts.{IsFabricText}
use Rattle.fab_assemble.specs.fab_features_Design.{design_features}
use Rattle.fab_assemble.specs.fab_features_Features.{IsBitMapOf}
use Rattle.fab_assemble.specs.fab_features_Naming.{HasPrefixes}
use Rattle.fab_gen_tile.specs.Words.{IsNamed}
use Rattle.fab_spelled_fabrics_laws.proofs.Prefixes.{ArePrefixed, prefixes_kept}
use Rattle.fab_spelled_fabrics_laws.proofs.Blocks.{names_kept}
use Rattle.fab_spelled_fabrics_laws.proofs.Readings.{spelled_keep}
use Rattle.fab_outputs.specs.declared.storing.Output.{Output}
use Rattle.fab_assemble.specs.fab_use_defs_Configuring.{Configures}
use Rattle.fab_assemble.specs.fab_use_defs_Headline.{RunsDesign}
use Rattle.fab_assemble.specs.fab_use_defs_Registers.{bound_pad, design_state, register_of}
use Rattle.fab_assemble.specs.fab_settling_laws_Settling.{SettlesDesign}
use Rattle.fab_designs.specs.Designs.{PlainDesign, MeetsDesign, SpellsDesign, read_of}
use Rattle.fab_designs.proofs.SplitNetlists.{design_runs}
use Rattle.fab_designs.specs.Implementations.{MeetsImplementation, ReadsImplementation}
use Rattle.fab_flow.specs.Resetting.{HasReset, LacksReset}
use Rattle.fab_flow.specs.Assembling.{AssemblyFiles, Fits, HasAssembleCause, IsAssembly, IsReadyToAssemble, MeetsAssembly, RefusesAssembly, RefusesImplementation, assemble_refusals, assembly_outputs, illegal, no_input, packing_for, short, unfit}
use Rattle.fab_outputs.specs.Storing.{PlainOutput, Leaves, plain_output}
use Rattle.fab_outputs.proofs.Ending.{Reads, cause_of_read, leaves_of_memory}
use Rattle.fab_flow.proofs.ReadAs.{assembly_read}
use Rattle.fab_flow.proofs.ResetPorts.{lacks_illegal}

-- ---- letters

-- the BEL of a site has a letter
abbrev IsLow : Site → Type 0
IsLow site = site.bel < 26

site_low : {X : Type 0} (same : X → X → Bool) (lines : List (X × Site)) (thing : X) → All (λ line. IsLow line.1) lines → IsLow (site_of same lines thing)
site_low same [] thing low = omega arith
site_low {X} same (line ∷ lines) thing low = elim (cases_Bool (same line.0 thing)) [
  | inl t ↦ rw t (All-head (λ (l : X × Site). IsLow l.1) line lines low)
  | inr f ↦ rw f (site_low same lines thing (All-tail (λ (l : X × Site). IsLow l.1) line lines low))
]

pads_low : {Y : Type 0} (port_of : Y → List ℕ) (lines : List Pad) → All (λ line. IsLow line.1) lines → (ys : List Y) → All (λ (pad : Pad). IsLow pad.1) (map (λ y. bound_pad lines (port_of y)) ys)
pads_low port_of lines low [] = All-nil (λ (pad : Pad). IsLow pad.1)
pads_low port_of lines low (y ∷ ys) =
    All-cons (λ (pad : Pad). IsLow pad.1) (bound_pad lines (port_of y)) (map (λ z. bound_pad lines (port_of z)) ys) (site_low bytes_eq lines (port_of y) low) (pads_low port_of lines low ys)

-- the registers of cells, numbered from one on
abbrev registers_from : PlainImplementation → ℕ → List PlainCell → List Register
registers_from implementation start cells = filter_map (λ at. register_of implementation at.0 at.1) (enumerate_from start cells)

register_first : (implementation : PlainImplementation) → All (λ line. IsLow line.1) implementation.cells → (start : ℕ) (cell : PlainCell) (cells : List PlainCell)
    (latch : Option ℕ) → cell.latch ≡ latch → All (λ (r : Register). IsLow r.0) (registers_from implementation (start + 1) cells) → All (λ (r : Register). IsLow r.0) (registers_from implementation start (cell ∷ cells))
register_first implementation low start cell cells None is rest = rw is rest
register_first implementation low start cell cells (Some init) is rest =
    rw is (All-cons (λ (r : Register). IsLow r.0) (site_of nat_eq implementation.cells start, nat_eq init 1) (registers_from implementation (start + 1) cells)
    (site_low nat_eq implementation.cells start low) rest)

registers_low : (implementation : PlainImplementation) → All (λ line. IsLow line.1) implementation.cells → (start : ℕ) (cells : List PlainCell)
    → All (λ (r : Register). IsLow r.0) (registers_from implementation start cells)
registers_low implementation low start [] = All-nil (λ (r : Register). IsLow r.0)
registers_low implementation low start (cell ∷ cells) = register_first implementation low start cell cells cell.latch refl (registers_low implementation low (start + 1) cells)

lines_low : {X : Type 0} (fabric : PlainFabric) → IsFabric fabric → (lines : List (X × Site)) → All (λ line. IsSite fabric line.1) lines → All (λ line. IsLow line.1) lines
lines_low {X} fabric is lines has = All-weaker (λ (line : X × Site). IsSite fabric line.1) (λ (line : X × Site). IsLow line.1) (λ line site. few_bels fabric line.1 is site) lines has

-- the state of an implementation on a fabric can be printed
pub state_has_letters : (fabric : PlainFabric) (packed : PlainPacked) (implementation : PlainImplementation) → IsFabric fabric → IsOnFabric fabric implementation
    → HasLetters (design_state packed implementation)
state_has_letters fabric packed implementation is on = record {
  ins = pads_low (λ port. port) implementation.ins (lines_low fabric is implementation.ins on.ins) packed.inputs;
  outs = pads_low (λ output. output.0) implementation.outs (lines_low fabric is implementation.outs on.outs) packed.outputs;
  ffs = registers_low implementation (lines_low fabric is implementation.cells on.cells) 0 packed.cells;
}

-- ---- what is made

-- what is stored of all that an assembly gives
pub assembly_is : (fabric : PlainFabric) (netlist : PlainNetlist) (implementation : PlainImplementation) (base : List ℕ) (outputs : List PlainOutput)
    (features : List Feature) (bits : PlainBits) (words : List ℕ) (state : PlainState) → outputs ≡ assembly_outputs base features words state
    → features ≡ design_features fabric (packed netlist) implementation → Configures fabric (packed netlist) implementation bits → IsBitMapOf fabric features bits → words ≡ stream fabric bits
    → state ≡ design_state (packed netlist) implementation → ((text : List PlainModule) → IsFabricText fabric text → RunsDesign fabric text netlist netlist implementation words state)
    → ((text : List PlainModule) → IsFabricText fabric text → SettlesDesign fabric text netlist netlist implementation words)
    → IsAssembly fabric netlist netlist implementation base outputs
assembly_is fabric netlist implementation base outputs features bits words state are features_are configures bit_map words_are state_is runs settles =
    record {
      bits = bits;
      configures = configures;
      bit_map = subst (λ (f : List Feature). IsBitMapOf fabric f bits) features_are bit_map;
      outputs_are =
          are
          ∙ ap (λ (f : List Feature). assembly_outputs base f words state) features_are
          ∙ ap (λ (w : List ℕ). assembly_outputs base (design_features fabric (packed netlist) implementation) w state) words_are
          ∙ ap (λ (s : PlainState). assembly_outputs base (design_features fabric (packed netlist) implementation) (stream fabric bits) s) state_is;
      runs = λ text is.
          subst (λ (s : PlainState). RunsDesign fabric text netlist netlist implementation (stream fabric bits) s) state_is
          (subst (λ (w : List ℕ). RunsDesign fabric text netlist netlist implementation w state) words_are (runs text is));
      settles = λ text is. subst (λ (w : List ℕ). SettlesDesign fabric text netlist netlist implementation w) words_are (settles text is);
    }

-- the same of outputs, on a fabric that files spell; and of the netlist in the BLIF file, as which the packed one runs
pub made_of : (files : Map) (names : AssemblyFiles) (design : PlainDesign) (spelled : SpellsDesign files names.design design) (implementation : PlainImplementation)
    (made stored : List Output) → stored ≡ made → (All IsNamed design.fabric.types → All HasPrefixes design.fabric.types
    → IsAssembly design.fabric (netlist_with implementation.reset design.netlist) (netlist_with implementation.reset design.netlist) implementation names.base (map plain_output made))
    → IsAssembly design.fabric (netlist_with implementation.reset (read_of spelled)) (netlist_with implementation.reset design.netlist) implementation names.base
    (map plain_output stored)
made_of files names design spelled implementation made stored same is =
    let read = netlist_with implementation.reset (read_of spelled) in
    let netlist = netlist_with implementation.reset design.netlist in
    let fabric = design.fabric in
    let name = names.design.fabric in
    subst (λ (items : List Output). IsAssembly fabric read netlist implementation names.base (map plain_output items)) (sym same)
    (assembly_read read netlist (design_runs spelled implementation.reset) fabric implementation names.base (map plain_output made)
    (is (spelled_keep IsNamed IsNamed names_kept files name fabric spelled.fabric) (spelled_keep ArePrefixed ArePrefixed prefixes_kept files name fabric spelled.fabric)))

-- ---- refusals

-- what packing gives is the packed netlist
packed_is : (netlist : PlainNetlist) (luts pads : ℕ) (given : PlainPacked) → packing netlist luts pads ≡ Ok given → given ≡ packed netlist
packed_is netlist luts pads given is = elim (cases_Bool (nat_lt luts (length (works netlist)))) [
  | inl t ↦ absurd (let refused = rw t at is in cc)
  | inr f ↦ elim (cases_Bool (nat_lt pads (length (ports netlist)))) [
    | inl t ↦ absurd (let refused = rw (f, t) at is in cc)
    | inr g ↦ let taken = rw (f, g) at is in cc
  ]
]

pub packed_given : (netlist : PlainNetlist) (luts pads : ℕ) (result : Result PlainPacked Fault) → Gives (λ given. given) result (packing netlist luts pads)
    → IfOk result (λ given. given ≡ packed netlist)
packed_given netlist luts pads (Ok given) is = packed_is netlist luts pads given is
packed_given netlist luts pads (Err fault) is = tt

module _ (fabric : PlainFabric) (netlist : PlainNetlist) (fixed : List Pad) (implementation : PlainImplementation) where
  -- a fabric that is short of sites is a refusal
  pub short_refused : (fault : Fault) → (fault ≡ faults.Memory) ⊎ (packing_for fabric netlist ≡ Err fault)
      → (fault ≡ faults.Memory) ⊎ RefusesImplementation fabric netlist fixed implementation fault
  short_refused fault (inl memory) = inl memory
  short_refused fault (inr is) = inr (short is)

  -- and so is what a check explains
  pub check_refused : (given : PlainPacked) (fault : CheckFault) → given ≡ packed netlist → Fits fabric netlist → Explains fabric given fixed implementation fault
      → (fault_of fault ≡ faults.Memory) ⊎ RefusesImplementation fabric netlist fixed implementation (fault_of fault)
  check_refused given (checks.Broken broken) is fits explained =
      inr (illegal fits (subst (λ (p : PlainPacked). IsFirstBroken fabric p fixed implementation broken.rule broken.item) is explained))
  check_refused given checks.Memory is fits explained = inl refl

-- packing is refused for want of sites alone
pub is_short : (netlist : PlainNetlist) (luts pads : ℕ) (fault : Fault) → packing netlist luts pads ≡ Err fault → (kind : SiteKind) × (need : ℕ) × (have : ℕ) × (fault ≡ faults.Short kind need have)
is_short netlist luts pads fault is = elim (cases_Bool (nat_lt luts (length (works netlist)))) [
  | inl t ↦ (kinds.Lut, length (works netlist), luts, let refused = rw t at is in cc)
  | inr f ↦ elim (cases_Bool (nat_lt pads (length (ports netlist)))) [
    | inl t ↦ (kinds.Pad, length (ports netlist), pads, let refused = rw (f, t) at is in cc)
    | inr g ↦ absurd (let taken = rw (f, g) at is in cc)
  ]
]

module _ (told : Option Map) (names : AssemblyFiles) (design : PlainDesign) (implementation : PlainImplementation)
    (spelled : ForSome told (λ files. SpellsDesign files names.design design))
    (implemented : ForSome told (λ files. ReadsImplementation files names.implementation design.fabric implementation)) where
  meets : (files : Map) (fault : Fault) → told ≡ Some files → RefusesAssembly design implementation fault → MeetsAssembly files names (refuses fault)
  meets files fault is refused = behind_it (spelled files is) (behind_it (implemented files is) (fault, refl, refused))

  -- a fault of this form is such a refusal
  module _ (reads writes : Type 0) where
    illegal_cause : (rule : ℕ) (item : List ℕ) → RefusesAssembly design implementation (faults.Illegal rule item)
        → HasAssembleCause told names reads writes (faults.Illegal rule item)
    illegal_cause rule item is = record { possible = refl; met = λ files there. meets files (faults.Illegal rule item) there is }

    short_cause : (kind : SiteKind) (need have : ℕ) → RefusesAssembly design implementation (faults.Short kind need have)
        → HasAssembleCause told names reads writes (faults.Short kind need have)
    short_cause kind need have is = record { possible = refl; met = λ files there. meets files (faults.Short kind need have) there is }

    refusal_cause : (fault : Fault) → RefusesAssembly design implementation fault → HasAssembleCause told names reads writes fault
    refusal_cause fault (no_input lacks) =
        let told_illegal = lacks_illegal implementation.reset design.netlist fault lacks in
        subst (HasAssembleCause told names reads writes) (sym told_illegal.1)
        (illegal_cause 12 told_illegal.0 (subst (RefusesAssembly design implementation) told_illegal.1 (no_input lacks)))
    refusal_cause fault (unfit has (short is)) =
        let told_short = is_short (netlist_with implementation.reset design.netlist) _ _ fault is in
        subst (HasAssembleCause told names reads writes) (sym told_short.3)
        (short_cause told_short.0 told_short.1 told_short.2 (subst (RefusesAssembly design implementation) told_short.3 (unfit has (short is))))
    refusal_cause fault (unfit has (illegal {rule = rule} {item = item} fits broken)) = illegal_cause rule item (unfit has (illegal fits broken))

  -- an implementation is refused for its own sake, or memory was refused
  pub assembly_cause : (reads writes : Type 0) (fault : Fault) → (fault ≡ faults.Memory) ⊎ RefusesAssembly design implementation fault → HasAssembleCause told names reads writes fault
  assembly_cause reads writes fault (inl memory) = subst (HasAssembleCause told names reads writes) (sym memory) tt
  assembly_cause reads writes fault (inr is) = refusal_cause reads writes fault is

refusal_leaves : (makes : Map → List PlainOutput → Type 0) (told after : Option Map) (design : PlainDesign) (implementation : PlainImplementation) (fault : Fault) → after ≡ told
    → RefusesAssembly design implementation fault → Leaves makes told after fault
refusal_leaves makes told after design implementation fault kept (no_input lacks) =
    let told_illegal = lacks_illegal implementation.reset design.netlist fault lacks in
    subst (Leaves makes told after) (sym told_illegal.1) kept
refusal_leaves makes told after design implementation fault kept (unfit has (short is)) =
    let told_short = is_short (netlist_with implementation.reset design.netlist) _ _ fault is in
    subst (Leaves makes told after) (sym told_short.3) kept
refusal_leaves makes told after design implementation fault kept (unfit has (illegal fits broken)) = kept

-- and then the files are as they were
pub assembly_leaves : (makes : Map → List PlainOutput → Type 0) (told after : Option Map) (design : PlainDesign) (implementation : PlainImplementation) (fault : Fault) → after ≡ told
    → (fault ≡ faults.Memory) ⊎ RefusesAssembly design implementation fault → Leaves makes told after fault
assembly_leaves makes told after design implementation fault kept (inl memory) = leaves_of_memory makes told after fault memory kept
assembly_leaves makes told after design implementation fault kept (inr is) = refusal_leaves makes told after design implementation fault kept is

-- ---- a reset port

-- nothing is made for want of memory, or of the reset port
pub reset_refused : (design : PlainDesign) (implementation : PlainImplementation) (fault : Fault) → (fault ≡ faults.Memory) ⊎ LacksReset implementation.reset design.netlist fault
    → (fault ≡ faults.Memory) ⊎ RefusesAssembly design implementation fault
reset_refused design implementation fault (inl memory) = inl memory
reset_refused design implementation fault (inr lacks) = inr (no_input lacks)

-- what is refused of the netlist with its reset port
pub used_refused : (design : PlainDesign) (implementation : PlainImplementation) (fault : Fault) → HasReset implementation.reset design.netlist
    → (fault ≡ faults.Memory) ⊎ RefusesImplementation design.fabric (netlist_with implementation.reset design.netlist) design.fixed implementation fault
    → (fault ≡ faults.Memory) ⊎ RefusesAssembly design implementation fault
used_refused design implementation fault has (inl memory) = inl memory
used_refused design implementation fault has (inr is) = inr (unfit has is)

-- ---- files

-- what is read of an implementation, where reading the design left the files as they were
pub read_behind : (told now : Option Map) (file : List ℕ) (inside design : PlainDesign) (implementation : PlainImplementation) → now ≡ told → inside ≡ design
    → ForSome now (λ files. ReadsImplementation files file inside.fabric implementation) → ForSome told (λ files. ReadsImplementation files file design.fabric implementation)
read_behind told now file inside design implementation same is read = λ files there. subst (λ (d : PlainDesign). ReadsImplementation files file d.fabric implementation) is (read files (same ∙ there))

among : Reads assemble_refusals
among = record { missing = refl; long = refl; malformed = refl; unsupported = refl; limit = refl }

-- a file of the design is refused
pub design_cause : (told : Option Map) (names : AssemblyFiles) (reads writes : Type 0) (fault : Fault)
    → HasReadCause told reads (λ files. MeetsDesign files names.design) fault → HasAssembleCause told names reads writes fault
design_cause told names reads writes fault cause =
    cause_of_read told reads writes (λ files. MeetsAssembly files names) (λ files. IsReadyToAssemble files names) assemble_refusals among
    (λ files. MeetsDesign files names.design) (λ files event is x. at_first x) fault cause

-- the file of the implementation is
pub implementation_cause : (told now : Option Map) (names : AssemblyFiles) (inside design : PlainDesign) (first reads writes : Type 0) (fault : Fault) → now ≡ told → inside ≡ design → (first → reads)
    → ForSome told (λ files. SpellsDesign files names.design design) → HasReadCause now first (λ files. MeetsImplementation files names.implementation inside.fabric) fault
    → HasAssembleCause told names reads writes fault
implementation_cause told now names inside design first reads writes fault same is higher spelled cause =
    let meets_all : Map → Event → Type 0 = λ files. MeetsAssembly files names in
    let own : HasReadCause now first (λ files. MeetsImplementation files names.implementation design.fabric) fault =
    subst (λ (d : PlainDesign). HasReadCause now first (λ files. MeetsImplementation files names.implementation d.fabric) fault) is cause in
    cause_of_read told reads writes meets_all (λ files. IsReadyToAssemble files names) assemble_refusals among meets_all (λ files event there x. x) fault
    (cause_weaker now told first reads (λ files. MeetsImplementation files names.implementation design.fabric) meets_all fault same higher
    (λ files there event x. behind_it (spelled files there) (at_first x)) own)
