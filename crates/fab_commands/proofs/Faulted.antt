-- What kind of fault ends a command: the first refusal, a device's, want of memory, or that a search came to nothing.
use Rattle.std.proofs.Common.{◌≡◌, ℕ, true, List, [], ◌∷◌, Option, Some, None, refl, sym, ap, inl, inr, subst, nat_eq}
use Rattle.std.specs.List.{list_any}
use Rattle.fab_base.specs.declared.fault.Fault.{Fault}
use Rattle.fab_base.specs.declared.fault.Fault.TheVariants as faults
use Rattle.fab_base.specs.Report.{number_of, status}
use Rattle.fab_desk.specs.Files.{Map}
use Rattle.fab_files.specs.Files.{refuses}
use Rattle.fab_outputs.specs.Storing.{IsDone}
use Rattle.fab_outputs.specs.Ending.{IsRefused, HasCause, HasSearchCause}
use Rattle.fab_sampling.specs.fab_flow_Assembling.{assembly_files}
use Rattle.fab_sampling.specs.fab_flow_BitFeatures.{features_files}
use Rattle.fab_sampling.specs.fab_flow_Bits.{bits_files}
use Rattle.fab_sampling.specs.fab_flow_Flowing.{flow_files, FailsToFlow}
use Rattle.fab_sampling.specs.fab_flow_Partial.{partial_files}
use Rattle.fab_sampling.specs.fab_flow_Mapping.{mapping_files, FailsToMap}
use Rattle.fab_sampling.proofs.fab_flow_AssembledOnce as assembling
use Rattle.fab_sampling.proofs.fab_flow_BitFeaturesOnce as features
use Rattle.fab_sampling.proofs.fab_flow_BitsOnce as bits
use Rattle.fab_sampling.proofs.fab_flow_FlowedOnce.{one_flow_number, flow_not_both}
use Rattle.fab_sampling.proofs.fab_flow_MappedOnce as mapping
use Rattle.fab_sampling.proofs.fab_flow_Once as generating
use Rattle.fab_sampling.proofs.fab_flow_PartialOnce as exchanging
use Rattle.fab_sampling.proofs.fab_flow_SerialOnce as serial
use Rattle.fab_sampling.specs.fab_simulate_command_Simulating.{simulation_files}
use Rattle.fab_sampling.proofs.fab_simulate_command_Behind.{ready_of}
use Rattle.fab_sampling.proofs.fab_simulate_command_SimulatedOnce as simulating
use Rattle.fab_designs.specs.Designs.{design_files}
use Rattle.fab_list_files.proofs.Once.{one_refusal, not_both}
use Rattle.fab_words.specs.Arguments.{IsUsage}
use Rattle.fab_words.specs.declared.job.Job.{Job}
use Rattle.fab_words.specs.declared.job.Job.TheVariants.{Matrix, Generate, Assemble, Map as Mapping, Flow, Bits, Features, Simulate, Partial, Timing}
use Rattle.fab_words.specs.declared.job.Job.TheVariants.{Serial, Sample}
use Rattle.fab_commands.specs.Running.{Makes, Meets, IsReady, refusals, failures, HasJobCause, JobHasCause}

-- ---- each command has one first refusal, or is ready

pub refused_once : (job : Job) (files : Map) (a b : Fault) → Meets job files (refuses a) → Meets job files (refuses b) → number_of a ≡ number_of b
refused_once (Matrix list out) files a b x y = ap number_of (one_refusal files list a b x y)
refused_once (Generate fabric out) files a b x y = ap number_of (generating.one_refusal files fabric a b x y)
refused_once (Assemble fabric blif pcf implementation base) files a b x y =
    assembling.one_number files (assembly_files fabric blif pcf implementation base) a b x y
refused_once (Mapping fabric blif pcf seed rounds out) files a b x y = mapping.one_number files (mapping_files (design_files fabric blif pcf) out) a b x y
refused_once (Flow fabric blif pcf seed rounds reset base) files a b x y = one_flow_number files (flow_files fabric blif pcf reset base) a b x y
refused_once (Bits fabric fasm out) files a b x y = ap number_of (bits.one_refusal files (bits_files fabric fasm out) a b x y)
refused_once (Features fabric bit out) files a b x y = ap number_of (features.one_refusal files (features_files fabric bit out) a b x y)
refused_once (Simulate verilog bit state stimulus order trace) files a b x y =
    ap number_of (simulating.one_refusal files (simulation_files verilog bit state stimulus trace) a b x y)
refused_once (Partial fabric implementation fasm first last out) files a b x y =
    ap number_of (exchanging.one_refusal files (partial_files fabric implementation fasm first last out) a b x y)
refused_once (Timing fabric blif pcf implementation out) files a b x y =
    assembling.one_number files (assembly_files fabric blif pcf implementation out) a b x y
refused_once (Serial fabric out) files a b x y = ap number_of (serial.one_refusal files fabric a b x y)
refused_once (Sample size seed) files a b x y = absurd x

pub not_refused : (job : Job) (files : Map) (fault : Fault) → IsReady job files → Meets job files (refuses fault) → ⊥
not_refused (Matrix list out) files fault ready x = not_both files list ready.0 fault ready.1 x
not_refused (Generate fabric out) files fault ready x = generating.not_both files fabric fault ready x
not_refused (Assemble fabric blif pcf implementation base) files fault ready x =
    assembling.not_both files (assembly_files fabric blif pcf implementation base) fault ready x
not_refused (Mapping fabric blif pcf seed rounds out) files fault ready x =
    mapping.not_both files (mapping_files (design_files fabric blif pcf) out) fault ready x
not_refused (Flow fabric blif pcf seed rounds reset base) files fault ready x = flow_not_both files (flow_files fabric blif pcf reset base) fault ready x
not_refused (Bits fabric fasm out) files fault ready x = bits.not_both files (bits_files fabric fasm out) fault ready x
not_refused (Features fabric bit out) files fault ready x = features.not_both files (features_files fabric bit out) fault ready x
not_refused (Simulate verilog bit state stimulus order trace) files fault ready x =
    simulating.not_both files (simulation_files verilog bit state stimulus trace) fault ready x
not_refused (Partial fabric implementation fasm first last out) files fault ready x =
    exchanging.not_both files (partial_files fabric implementation fasm first last out) fault ready x
not_refused (Timing fabric blif pcf implementation out) files fault ready x =
    assembling.not_both files (assembly_files fabric blif pcf implementation out) fault ready x
not_refused (Serial fabric out) files fault ready x = serial.not_both files fabric fault ready x
not_refused (Sample size seed) files fault ready x = x

-- what is done was ready
pub done_ready : (job : Job) (files : Map) (told after : Option Map) → told ≡ Some files → IsDone (Makes job) told after → IsReady job files
done_ready (Matrix list out) files told after is done = let made = (done.made files is).made in (made.pairs, made.spelled)
done_ready (Generate fabric out) files told after is done =
    let made = (done.made files is).made in record { fabric = made.fabric; spelled = made.spelled; short = made.short }
done_ready (Assemble fabric blif pcf implementation base) files told after is done = (done.made files is).ready
done_ready (Mapping fabric blif pcf seed rounds out) files told after is done =
    let made = done.made files is in record { design = made.design; spelled = made.spelled; fits = made.fits }
done_ready (Flow fabric blif pcf seed rounds reset base) files told after is done =
    let made = done.made files is in record { design = made.design; spelled = made.spelled; short = made.made.short; resets = made.resets; fits = made.fits }
done_ready (Bits fabric fasm out) files told after is done =
    let made = done.made files is in record { fabric = made.fabric; features = made.features; spelled = made.spelled; read = made.read; right = made.right }
done_ready (Features fabric bit out) files told after is done =
    let made = done.made files is in record { fabric = made.fabric; bits = made.bits; spelled = made.spelled; read = made.read }
done_ready (Simulate verilog bit state stimulus order trace) files told after is done =
    ready_of files (simulation_files verilog bit state stimulus trace) order done.outputs (done.made files is)
done_ready (Partial fabric implementation fasm first last out) files told after is done = (done.made files is).ready
done_ready (Timing fabric blif pcf implementation out) files told after is done = (done.made files is).ready
done_ready (Serial fabric out) files told after is done =
    let made = (done.made files is).made in record { fabric = made.fabric; spelled = made.spelled; frames = made.frames; short = made.short }
done_ready (Sample size seed) files told after is done = tt

-- ---- the fault behind an end

-- a refusal, a device that failed, memory, or a search that came to nothing
pub data Kind (told : Option Map) (reads writes : Type 0) (job : Job) (fault : Fault) : Type 0 where
  memory : fault ≡ faults.Memory → Kind told reads writes job fault
  read : (number_of fault ≡ status 11) → reads → Kind told reads writes job fault
  write : (number_of fault ≡ status 12) → writes → ((files : Map) → told ≡ Some files → IsReady job files) → Kind told reads writes job fault
  refused : IsRefused told (Meets job) (refusals job) fault → Kind told reads writes job fault
  failed : list_any (nat_eq (number_of fault).0) (failures job) ≡ true → ((files : Map) → told ≡ Some files → IsReady job files)
      → Kind told reads writes job fault

kind_of : (told : Option Map) (reads writes : Type 0) (job : Job) (fault : Fault)
    → HasCause told reads writes (Meets job) (IsReady job) (refusals job) fault → Kind told reads writes job fault
kind_of told reads writes job faults.Memory cause = memory refl
kind_of told reads writes job (faults.ReadFault file) cause = read refl cause.0
kind_of told reads writes job (faults.WriteFault file) cause = write refl cause.0 cause.1
kind_of told reads writes job faults.Usage cause = refused cause
kind_of told reads writes job (faults.Missing file) cause = refused cause
kind_of told reads writes job (faults.TooLong file) cause = refused cause
kind_of told reads writes job (faults.Malformed place reason) cause = refused cause
kind_of told reads writes job (faults.Unsupported place construct) cause = refused cause
kind_of told reads writes job (faults.Limit place quantity value bound) cause = refused cause
kind_of told reads writes job (faults.Short kind need have) cause = refused cause
kind_of told reads writes job (faults.NoPath net wire placement) cause = refused cause
kind_of told reads writes job (faults.Overused wire first second placement) cause = refused cause
kind_of told reads writes job (faults.Illegal rule item) cause = refused cause

-- the same of a command that searches
search_kind : (told : Option Map) (reads writes : Type 0) (job : Job) (fails : Map → Fault → Type 0) → failures job ≡ 8 ∷ 9 ∷ []
    → ((files : Map) (fault : Fault) → fails files fault → IsReady job files)
    → (fault : Fault) → HasSearchCause told reads writes (Meets job) (IsReady job) fails (refusals job) fault → Kind told reads writes job fault
search_kind told reads writes job fails own ready (faults.NoPath net wire text) cause =
    failed (ap (list_any (nat_eq 8)) own) (λ files is. ready files (faults.NoPath net wire text) (cause files is))
search_kind told reads writes job fails own ready (faults.Overused wire first second text) cause =
    failed (ap (list_any (nat_eq 9)) own) (λ files is. ready files (faults.Overused wire first second text) (cause files is))
search_kind told reads writes job fails own ready faults.Memory cause = kind_of told reads writes job faults.Memory cause
search_kind told reads writes job fails own ready (faults.ReadFault file) cause = kind_of told reads writes job (faults.ReadFault file) cause
search_kind told reads writes job fails own ready (faults.WriteFault file) cause = kind_of told reads writes job (faults.WriteFault file) cause
search_kind told reads writes job fails own ready faults.Usage cause = kind_of told reads writes job faults.Usage cause
search_kind told reads writes job fails own ready (faults.Missing file) cause = kind_of told reads writes job (faults.Missing file) cause
search_kind told reads writes job fails own ready (faults.TooLong file) cause = kind_of told reads writes job (faults.TooLong file) cause
search_kind told reads writes job fails own ready (faults.Malformed place reason) cause = kind_of told reads writes job (faults.Malformed place reason) cause
search_kind told reads writes job fails own ready (faults.Unsupported place construct) cause =
    kind_of told reads writes job (faults.Unsupported place construct) cause
search_kind told reads writes job fails own ready (faults.Limit place quantity value bound) cause =
    kind_of told reads writes job (faults.Limit place quantity value bound) cause
search_kind told reads writes job fails own ready (faults.Short kind need have) cause = kind_of told reads writes job (faults.Short kind need have) cause
search_kind told reads writes job fails own ready (faults.Illegal rule item) cause = kind_of told reads writes job (faults.Illegal rule item) cause

map_ready : (files : Map) (fabric blif : List ℕ) (pcf : Option (List ℕ)) (rounds : ℕ) (out : List ℕ) (seed : ℕ) (fault : Fault)
    → FailsToMap files (mapping_files (design_files fabric blif pcf) out) rounds fault → IsReady (Mapping fabric blif pcf seed rounds out) files
map_ready files fabric blif pcf rounds out seed fault fails = record { design = fails.design; spelled = fails.spelled; fits = fails.fits }

flow_ready : (files : Map) (fabric blif : List ℕ) (pcf reset : Option (List ℕ)) (rounds : ℕ) (base : List ℕ) (seed : ℕ) (fault : Fault)
    → FailsToFlow files (flow_files fabric blif pcf reset base) rounds fault → IsReady (Flow fabric blif pcf seed rounds reset base) files
flow_ready files fabric blif pcf reset rounds base seed fault fails =
    record { design = fails.design; spelled = fails.spelled; short = fails.short; resets = fails.resets; fits = fails.fits }

sample_kind : (told : Option Map) (reads writes : Type 0) (size seed : ℕ) (fault : Fault) → HasJobCause (Sample size seed) told reads writes fault
    → Kind told reads writes (Sample size seed) fault
sample_kind told reads writes size seed fault (inl none) = memory none
sample_kind told reads writes size seed fault (inr cut) = write (ap number_of cut.1) cut.0 (λ files is. tt)

pub kind : (told : Option Map) (reads writes : Type 0) (job : Job) (fault : Fault) → HasJobCause job told reads writes fault → Kind told reads writes job fault
kind told reads writes (Matrix list out) fault cause = kind_of told reads writes (Matrix list out) fault cause
kind told reads writes (Generate fabric out) fault cause = kind_of told reads writes (Generate fabric out) fault cause
kind told reads writes (Assemble fabric blif pcf implementation base) fault cause =
    kind_of told reads writes (Assemble fabric blif pcf implementation base) fault cause
kind told reads writes (Mapping fabric blif pcf seed rounds out) fault cause =
    search_kind told reads writes (Mapping fabric blif pcf seed rounds out) (λ files. FailsToMap files (mapping_files
    (design_files fabric blif pcf) out) rounds) refl (λ files f fails. map_ready files fabric blif pcf rounds out seed f fails) fault cause
kind told reads writes (Flow fabric blif pcf seed rounds reset base) fault cause =
    search_kind told reads writes (Flow fabric blif pcf seed rounds reset base) (λ files. FailsToFlow files (flow_files fabric blif pcf reset base) rounds) refl
    (λ files f fails. flow_ready files fabric blif pcf reset rounds base seed f fails) fault cause
kind told reads writes (Bits fabric fasm out) fault cause = kind_of told reads writes (Bits fabric fasm out) fault cause
kind told reads writes (Features fabric bit out) fault cause = kind_of told reads writes (Features fabric bit out) fault cause
kind told reads writes (Simulate verilog bit state stimulus order trace) fault cause =
    kind_of told reads writes (Simulate verilog bit state stimulus order trace) fault cause
kind told reads writes (Partial fabric implementation fasm first last out) fault cause =
    kind_of told reads writes (Partial fabric implementation fasm first last out) fault cause
kind told reads writes (Timing fabric blif pcf implementation out) fault cause =
    kind_of told reads writes (Timing fabric blif pcf implementation out) fault cause
kind told reads writes (Serial fabric out) fault cause = kind_of told reads writes (Serial fabric out) fault cause
kind told reads writes (Sample size seed) fault cause = sample_kind told reads writes size seed fault cause

-- memory may be refused at any time, also while the words are read
memory_causes : (job : Option Job) (told : Option Map) (reads cut : Type 0) → JobHasCause job told reads cut faults.Memory
memory_causes None told reads cut = inr refl
memory_causes (Some (Matrix list out)) told reads cut = tt
memory_causes (Some (Generate fabric out)) told reads cut = tt
memory_causes (Some (Assemble fabric blif pcf implementation base)) told reads cut = tt
memory_causes (Some (Mapping fabric blif pcf seed rounds out)) told reads cut = tt
memory_causes (Some (Flow fabric blif pcf seed rounds reset base)) told reads cut = tt
memory_causes (Some (Bits fabric fasm out)) told reads cut = tt
memory_causes (Some (Features fabric bit out)) told reads cut = tt
memory_causes (Some (Simulate verilog bit state stimulus order trace)) told reads cut = tt
memory_causes (Some (Partial fabric implementation fasm first last out)) told reads cut = tt
memory_causes (Some (Timing fabric blif pcf implementation out)) told reads cut = tt
memory_causes (Some (Serial fabric out)) told reads cut = tt
memory_causes (Some (Sample size seed)) told reads cut = inl refl

pub words_cause : (job : Option Job) (told : Option Map) (reads cut : Type 0) (fault : Fault) → IsUsage (job ≡ None) fault
    → JobHasCause job told reads cut fault
words_cause job told reads cut fault (inl none) =
    subst (λ (f : Fault). JobHasCause job told reads cut f) (sym none) (memory_causes job told reads cut)
words_cause None told reads cut fault (inr usage) = inl usage.0
words_cause (Some job) told reads cut fault (inr usage) = absurd (let none = usage.1 in cc)
