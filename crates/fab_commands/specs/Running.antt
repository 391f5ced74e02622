-- What a call of the program does to the files, what it puts out, and why it ends otherwise.
use Rattle.std.specs.Prelude.{◌≡◌, ◌≢◌, ◌⊎◌, ◌<◌, ◌≤◌, ℕ, true, List, [], ◌∷◌, ◌++◌, codes, take, nat_eq, Option, Some, None, option_map}
use Rattle.std.specs.List.{list_any}
use Rattle.std.specs.Option.{ForSome}
use Rattle.fab_base.specs.declared.fault.Status.{Status}
use Rattle.fab_base.specs.declared.fault.Fault.{Fault}
use Rattle.fab_base.specs.declared.fault.Fault.TheVariants as faults
use Rattle.fab_base.specs.Report.{number_of, report, status}
use Rattle.fab_desk.specs.Files.{Map, PutsPart}
use Rattle.fab_files.specs.Files.{Event, refuses}
use Rattle.fab_designs.specs.Designs.{design_files}
use Rattle.fab_outputs.specs.Storing.{PlainOutput, IsDone, Leaves}
use Rattle.fab_sampling.specs.fab_flow_Assembling.{assembly_files, MakesAssembly, MeetsAssembly, IsReadyToAssemble, HasAssembleCause, assemble_refusals}
use Rattle.fab_sampling.specs.fab_flow_BitFeatures.{features_files, MakesFeatures, MeetsBitFeatures, IsReadyForFeatures, HasFeaturesCause, features_refusals}
use Rattle.fab_sampling.specs.fab_flow_Bits.{bits_files, MakesBits, MeetsBits, IsReadyForBits, HasBitsCause, bits_refusals}
use Rattle.fab_sampling.specs.fab_flow_Generating.{MakesFabric, MeetsGenerate, IsReadyToGenerate, HasGenerateCause, generate_refusals}
use Rattle.fab_sampling.specs.fab_flow_Flowing.{flow_files, MakesFlow, MeetsFlow, IsReadyToFlow, HasFlowCause, flow_refusals}
use Rattle.fab_sampling.specs.fab_flow_Mapping.{mapping_files, MakesMapping, MeetsMapping, IsReadyToMap, HasMappingCause, map_refusals}
use Rattle.fab_sampling.specs.fab_flow_Matrix.{MakesMatrix, IsReadyForMatrix, HasMatrixCause, matrix_refusals}
use Rattle.fab_sampling.specs.fab_flow_Partial.{partial_files, MakesPartial, MeetsPartial, IsReadyToExchange, HasPartialCause, partial_refusals}
use Rattle.fab_sampling.specs.fab_flow_Serial.{MakesSerial, MeetsSerial, IsReadyForSerial, HasSerialCause}
use Rattle.fab_sampling.specs.fab_flow_Timing.{MakesTiming}
use Rattle.fab_sampling.specs.fab_simulate_command_Simulating.{simulation_files, MakesTrace, MeetsSimulation, IsReadyToSimulate, HasSimulateCause, simulate_refusals}
use Rattle.fab_sampling.specs.Sampling.{IsSummary}
use Rattle.fab_list_files.specs.Sides.{MeetsPairs}
use Rattle.fab_words.specs.declared.job.Job.{Job}
use Rattle.fab_words.specs.declared.job.Job.TheVariants.{Matrix, Generate, Assemble, Map as Mapping, Flow, Bits, Features, Simulate, Partial, Timing}
use Rattle.fab_words.specs.declared.job.Job.TheVariants.{Serial, Sample}

-- ---- the commands

-- the outputs that a command makes of the files; a sample is made in memory, and none of it is stored
abbrev pub Makes : Job → (files : Map) → List PlainOutput → Type 0
Makes (Matrix list out) files outputs = MakesMatrix files list out outputs
Makes (Generate fabric out) files outputs = MakesFabric files fabric out outputs
Makes (Assemble fabric blif pcf implementation base) files outputs = MakesAssembly files (assembly_files fabric blif pcf implementation base) outputs
Makes (Mapping fabric blif pcf seed rounds out) files outputs = MakesMapping files (mapping_files (design_files fabric blif pcf) out) rounds outputs
Makes (Flow fabric blif pcf seed rounds reset base) files outputs = MakesFlow files (flow_files fabric blif pcf reset base) rounds outputs
Makes (Bits fabric fasm out) files outputs = MakesBits files (bits_files fabric fasm out) outputs
Makes (Features fabric bit out) files outputs = MakesFeatures files (features_files fabric bit out) outputs
Makes (Simulate verilog bit state stimulus order trace) files outputs = MakesTrace files (simulation_files verilog bit state stimulus trace) order outputs
Makes (Partial fabric implementation fasm first last out) files outputs = MakesPartial files (partial_files fabric implementation fasm first last out) outputs
Makes (Timing fabric blif pcf implementation out) files outputs = MakesTiming files (assembly_files fabric blif pcf implementation out) outputs
Makes (Serial fabric out) files outputs = MakesSerial files fabric out outputs
Makes (Sample size seed) files outputs = outputs ≡ []

-- what it comes upon before anything is refused: files that it asks for, and its first refusal; a sample asks for none
abbrev pub Meets : Job → (files : Map) → Event → Type 0
Meets (Matrix list out) files event = MeetsPairs files list event
Meets (Generate fabric out) files event = MeetsGenerate files fabric event
Meets (Assemble fabric blif pcf implementation base) files event = MeetsAssembly files (assembly_files fabric blif pcf implementation base) event
Meets (Mapping fabric blif pcf seed rounds out) files event = MeetsMapping files (mapping_files (design_files fabric blif pcf) out) event
Meets (Flow fabric blif pcf seed rounds reset base) files event = MeetsFlow files (flow_files fabric blif pcf reset base) event
Meets (Bits fabric fasm out) files event = MeetsBits files (bits_files fabric fasm out) event
Meets (Features fabric bit out) files event = MeetsBitFeatures files (features_files fabric bit out) event
Meets (Simulate verilog bit state stimulus order trace) files event = MeetsSimulation files (simulation_files verilog bit state stimulus trace) event
Meets (Partial fabric implementation fasm first last out) files event = MeetsPartial files (partial_files fabric implementation fasm first last out) event
Meets (Timing fabric blif pcf implementation out) files event = MeetsAssembly files (assembly_files fabric blif pcf implementation out) event
Meets (Serial fabric out) files event = MeetsSerial files fabric event
Meets (Sample size seed) files event = ⊥

-- nothing is refused; nothing of a sample ever is
abbrev pub IsReady : Job → (files : Map) → Type 0
IsReady (Matrix list out) files = IsReadyForMatrix files list
IsReady (Generate fabric out) files = IsReadyToGenerate files fabric
IsReady (Assemble fabric blif pcf implementation base) files = IsReadyToAssemble files (assembly_files fabric blif pcf implementation base)
IsReady (Mapping fabric blif pcf seed rounds out) files = IsReadyToMap files (mapping_files (design_files fabric blif pcf) out)
IsReady (Flow fabric blif pcf seed rounds reset base) files = IsReadyToFlow files (flow_files fabric blif pcf reset base)
IsReady (Bits fabric fasm out) files = IsReadyForBits files (bits_files fabric fasm out)
IsReady (Features fabric bit out) files = IsReadyForFeatures files (features_files fabric bit out)
IsReady (Simulate verilog bit state stimulus order trace) files = IsReadyToSimulate files (simulation_files verilog bit state stimulus trace)
IsReady (Partial fabric implementation fasm first last out) files = IsReadyToExchange files (partial_files fabric implementation fasm first last out)
IsReady (Timing fabric blif pcf implementation out) files = IsReadyToAssemble files (assembly_files fabric blif pcf implementation out)
IsReady (Serial fabric out) files = IsReadyForSerial files fabric
IsReady (Sample size seed) files = Unit {0}

-- the numbers of the faults for which it refuses
abbrev pub refusals : Job → List ℕ
refusals (Matrix list out) = matrix_refusals
refusals (Generate fabric out) = generate_refusals
refusals (Assemble fabric blif pcf implementation base) = assemble_refusals
refusals (Mapping fabric blif pcf seed rounds out) = map_refusals
refusals (Flow fabric blif pcf seed rounds reset base) = flow_refusals
refusals (Bits fabric fasm out) = bits_refusals
refusals (Features fabric bit out) = features_refusals
refusals (Simulate verilog bit state stimulus order trace) = simulate_refusals
refusals (Partial fabric implementation fasm first last out) = partial_refusals
refusals (Timing fabric blif pcf implementation out) = assemble_refusals
refusals (Serial fabric out) = generate_refusals
refusals (Sample size seed) = []

-- The numbers of the faults with which it may end though nothing is refused: a command that places and routes may find no path, or leave a wire shared.
abbrev pub failures : Job → List ℕ
failures (Matrix list out) = []
failures (Generate fabric out) = []
failures (Assemble fabric blif pcf implementation base) = []
failures (Mapping fabric blif pcf seed rounds out) = 8 ∷ 9 ∷ []
failures (Flow fabric blif pcf seed rounds reset base) = 8 ∷ 9 ∷ []
failures (Bits fabric fasm out) = []
failures (Features fabric bit out) = []
failures (Simulate verilog bit state stimulus order trace) = []
failures (Partial fabric implementation fasm first last out) = []
failures (Timing fabric blif pcf implementation out) = []
failures (Serial fabric out) = []
failures (Sample size seed) = []

-- Why it ends with a fault. Of a sample memory is refused, or its summary is not put whole, which is told as the fault of a file whose name is a dash.
abbrev pub HasJobCause : Job → (told : Option Map) → (reads_rose write_failed : Type 0) → Fault → Type 0
HasJobCause (Matrix list out) told reads_rose write_failed fault = HasMatrixCause told list reads_rose write_failed fault
HasJobCause (Generate fabric out) told reads_rose write_failed fault = HasGenerateCause told fabric reads_rose write_failed fault
HasJobCause (Assemble fabric blif pcf implementation base) told reads_rose write_failed fault =
    HasAssembleCause told (assembly_files fabric blif pcf implementation base) reads_rose write_failed fault
HasJobCause (Mapping fabric blif pcf seed rounds out) told reads_rose write_failed fault =
    HasMappingCause told (mapping_files (design_files fabric blif pcf) out) rounds reads_rose write_failed fault
HasJobCause (Flow fabric blif pcf seed rounds reset base) told reads_rose write_failed fault =
    HasFlowCause told (flow_files fabric blif pcf reset base) rounds reads_rose write_failed fault
HasJobCause (Bits fabric fasm out) told reads_rose write_failed fault = HasBitsCause told (bits_files fabric fasm out) reads_rose write_failed fault
HasJobCause (Features fabric bit out) told reads_rose write_failed fault = HasFeaturesCause told (features_files fabric bit out) reads_rose write_failed fault
HasJobCause (Simulate verilog bit state stimulus order trace) told reads_rose write_failed fault =
    HasSimulateCause told (simulation_files verilog bit state stimulus trace) reads_rose write_failed fault
HasJobCause (Partial fabric implementation fasm first last out) told reads_rose write_failed fault =
    HasPartialCause told (partial_files fabric implementation fasm first last out) reads_rose write_failed fault
HasJobCause (Timing fabric blif pcf implementation out) told reads_rose write_failed fault =
    HasAssembleCause told (assembly_files fabric blif pcf implementation out) reads_rose write_failed fault
HasJobCause (Serial fabric out) told reads_rose write_failed fault = HasSerialCause told fabric reads_rose write_failed fault
HasJobCause (Sample size seed) told reads_rose write_failed fault =
    (fault ≡ faults.Memory) ⊎ (write_failed × (fault ≡ faults.WriteFault (codes "-")))

-- ---- one call of the program

-- The job that the words spell, if they spell one; what the desk tells of its files, and how many of its reads and writes failed so far; what was put to the
-- sink, and how many of its calls failed so far: each when the call begins, and when it ends.
pub record Call : Type 0 where
  pub job : Option Job
  pub told : Option Map
  pub told_after : Option Map
  pub reads : ℕ
  pub reads_after : ℕ
  pub writes : ℕ
  pub writes_after : ℕ
  pub put : Option (List ℕ)
  pub put_after : Option (List ℕ)
  pub failed : ℕ
  pub failed_after : ℕ

-- ---- status 0

abbrev pub DoesJob : Option Job → (told after : Option Map) → Type 0
DoesJob None told after = ⊥
DoesJob (Some job) told after = IsDone (Makes job) told after

-- a summary of the sample was put
pub record PutsSummary (size seed : ℕ) (old new : Option (List ℕ)) : Type 0 where
  pub text : List ℕ
  pub summary : IsSummary size seed text
  pub put : new ≡ option_map (λ before. before ++ text) old

-- what is put: the summary of a sample, and nothing by any other job
abbrev pub Puts : Option Job → (old new : Option (List ℕ)) → Type 0
Puts (Some (Sample size seed)) old new = PutsSummary size seed old new
Puts job old new = new ≡ old

-- ---- any other status

-- the words come first, then what the command comes upon
abbrev pub RefusesJob : Option Job → (files : Map) → Fault → Type 0
RefusesJob None files fault = fault ≡ faults.Usage
RefusesJob (Some job) files fault = Meets job files (refuses fault)

abbrev pub IsJobReady : Option Job → (files : Map) → Type 0
IsJobReady None files = ⊥
IsJobReady (Some job) files = IsReady job files

-- which failed device 12 stands for: the sink, where the summary of a sample is put, and the desk for any other job
abbrev pub WriteFailed : Option Job → (writes_rose put_failed : Type 0) → Type 0
WriteFailed (Some (Sample size seed)) writes_rose put_failed = put_failed
WriteFailed job writes_rose put_failed = writes_rose

-- why a job ends with a fault
abbrev pub JobHasCause : Option Job → (told : Option Map) → (reads_rose write_failed : Type 0) → Fault → Type 0
JobHasCause None told reads_rose write_failed fault = (fault ≡ faults.Usage) ⊎ (fault ≡ faults.Memory)
JobHasCause (Some job) told reads_rose write_failed fault = HasJobCause job told reads_rose write_failed fault

-- and what it leaves
abbrev pub JobLeaves : Option Job → (told after : Option Map) → Fault → Type 0
JobLeaves None told after fault = after ≡ told
JobLeaves (Some (Sample size seed)) told after fault = after ≡ told
JobLeaves (Some job) told after fault = Leaves (Makes job) told after fault

-- a front of a summary of the sample was put
pub record PutsFront (size seed : ℕ) (old new : Option (List ℕ)) : Type 0 where
  pub text : List ℕ
  pub summary : IsSummary size seed text
  pub part : PutsPart old new text

-- what a sample has put when it ends with a fault: nothing, unless the sink failed at its summary
abbrev pub SampleStands : (size seed : ℕ) → Fault → (old before : Option (List ℕ)) → Type 0
SampleStands size seed (faults.WriteFault file) old before = PutsFront size seed old before
SampleStands size seed fault old before = before ≡ old

-- what stands before the report of a fault
abbrev pub StandsBefore : Option Job → Fault → (old before : Option (List ℕ)) → Type 0
StandsBefore (Some (Sample size seed)) fault old before = SampleStands size seed fault old before
StandsBefore job fault old before = before ≡ old

-- the text was appended, or a front of it where the sink failed
abbrev pub IsPut : (old : List ℕ) (new : Option (List ℕ)) (text : List ℕ) (put_failed : Type 0) → Type 0
IsPut old new text put_failed = (new ≡ Some (old ++ text)) ⊎ (put_failed × ((n : ℕ) × (new ≡ Some (old ++ take n text))))

-- A fault is reported by its number and its report; where there is no memory for the report, by 13 and nothing.
abbrev pub IsReported : Fault → Status → (old new : Option (List ℕ)) (put_failed : Type 0) → Type 0
IsReported fault status old new put_failed =
    ((status ≡ number_of fault) × ForSome old (λ bytes. IsPut bytes new (report fault) put_failed))
    ⊎ ((status ≡ number_of faults.Memory) × (new ≡ old))

-- the one fault behind a status other than 0
pub record IsExplained (call : Call) (answer : Status) : Type 0 where
  pub fault : Fault
  pub cause : JobHasCause call.job call.told (call.reads < call.reads_after)
      (WriteFailed call.job (call.writes < call.writes_after) (call.failed < call.failed_after)) fault
  pub leaves : JobLeaves call.job call.told call.told_after fault
  pub before : Option (List ℕ)
  pub stands : StandsBefore call.job fault call.put before
  pub reported : IsReported fault answer before call.put_after (call.failed < call.failed_after)

-- the status is the one that is due, unless memory was refused
abbrev pub IsOrMemory : Status → (due : Status) → Type 0
IsOrMemory status due = (status ≡ due) ⊎ (status ≡ number_of faults.Memory)

-- the status is that of a search that may come to nothing
abbrev pub MayFail : Option Job → Status → Type 0
MayFail None answer = ⊥
MayFail (Some job) answer = list_any (nat_eq answer.0) (failures job) ≡ true

-- the statuses with which a job may end
abbrev pub answers : Option Job → List ℕ
answers None = 1 ∷ 13 ∷ []
answers (Some job) = 0 ∷ 11 ∷ 12 ∷ 13 ∷ failures job ++ refusals job

-- ---- the whole

-- What holds of each call of the program and its status.
pub record IsAnswered (call : Call) (answer : Status) : Type 0 where
  -- with 0 exactly the outputs of the job are stored, and nothing is put out but the summary of a sample
  pub done : answer ≡ status 0 → DoesJob call.job call.told call.told_after
  pub puts : answer ≡ status 0 → Puts call.job call.put call.put_after
  -- with 1 to 11 the files are as before; with 12 the outputs before the one that failed stand, and with 13 the first ones, maybe none (`leaves` of
  -- `explained`)
  pub kept : (n : ℕ) → 1 ≤ n → n ≤ 11 → answer ≡ status n → call.told_after ≡ call.told
  -- with any other status than 0 there is one fault behind it, which has its cause and is reported
  pub explained : answer ≢ status 0 → IsExplained call answer
  -- 1 comes exactly where the words are no form
  pub only_usage : answer ≡ status 1 → call.job ≡ None
  pub usage : call.job ≡ None → IsOrMemory answer (status 1)
  -- Where no device fails, the first refusal is the answer. Where nothing is refused it is 0; or 8 or 9 of a command that places and routes, whose
  -- cause stands in `explained`.
  pub refuses : (files : Map) (fault : Fault) → call.told ≡ Some files → RefusesJob call.job files fault → call.reads_after ≡ call.reads
      → IsOrMemory answer (number_of fault)
  pub completes : (files : Map) → call.told ≡ Some files → IsJobReady call.job files → call.reads_after ≡ call.reads →
      ¬ WriteFailed call.job (call.writes < call.writes_after) (call.failed < call.failed_after) → IsOrMemory answer (status 0) ⊎ MayFail call.job answer
  -- 11 comes only where a read failed in this call, and 12 only where a write did, or the call of the sink that puts a summary
  pub read_fault : answer ≡ status 11 → call.reads < call.reads_after
  pub write_fault : answer ≡ status 12 → WriteFailed call.job (call.writes < call.writes_after) (call.failed < call.failed_after)
  -- on any desk, also one that does not tell its files, a job ends with one of its own statuses
  pub possible : list_any (nat_eq answer.0) (answers call.job) ≡ true
