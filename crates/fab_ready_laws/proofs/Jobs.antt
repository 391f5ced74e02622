-- Each job is ready, or it has a first refusal.
use Rattle.std.proofs.Common.{inl}
use Rattle.fab_desk.specs.Files.{Map}
use Rattle.fab_meaning.specs.Sound.{PointsOfSoundTextsHaveOneDriver}
use Rattle.fab_legal.specs.WellMade.{PackedIsWellMade}
use Rattle.fab_designs.specs.Designs.{design_files}
use Rattle.fab_spelled_fabrics_laws.specs.Laws.{SpelledFabricsAreFabrics, SpelledFabricsHaveTiles}
use Rattle.fab_spelled_designs_laws.specs.DesignLaws.{SpelledDesignsAreSound}
use Rattle.fab_flow.specs.Assembling.{assembly_files}
use Rattle.fab_flow.specs.BitFeatures.{features_files}
use Rattle.fab_flow.specs.Bits.{bits_files}
use Rattle.fab_flow.specs.Flowing.{flow_files}
use Rattle.fab_flow.specs.Mapping.{mapping_files}
use Rattle.fab_flow.specs.Partial.{partial_files}
use Rattle.fab_simulate_command.specs.Simulating.{simulation_files}
use Rattle.fab_words.specs.declared.job.Job.{Job}
use Rattle.fab_words.specs.declared.job.Job.TheVariants.{Matrix, Generate, Assemble, Map as Mapping, Flow, Bits, Features, Simulate, Partial, Timing, Serial, Sample}
use Rattle.fab_commands.specs.Running.{IsReady, Meets}
use Rattle.fab_judged_laws.specs.Judged.{HoldBytes, IsReadyOrRefused}
use Rattle.fab_judged_laws.proofs.ListFiles.{pairs_judged}
use Rattle.fab_ready_laws.specs.Implementations.{ImplementationsAreJudged}
use Rattle.fab_ready_laws.proofs.Blifs.{netlists_judged}
use Rattle.fab_ready_laws.proofs.Commands.{bit_features_judged, bits_judged, generate_judged, partial_judged, serial_judged}
use Rattle.fab_ready_laws.proofs.Designs.{assembly_judged, flow_judged, map_judged}
use Rattle.fab_ready_laws.proofs.Simulations.{simulate_judged}

module _ (fabrics : SpelledFabricsAreFabrics) (tiles : SpelledFabricsHaveTiles) (points : PointsOfSoundTextsHaveOneDriver) (sound : SpelledDesignsAreSound) (packs : PackedIsWellMade)
    (implementations : ImplementationsAreJudged) (files : Map) (hold : HoldBytes files) where
  pub job_judged : (job : Job) → IsReadyOrRefused (IsReady job files) (Meets job files)
  job_judged (Matrix list out) = pairs_judged files list
  job_judged (Generate fabric out) = generate_judged files fabric
  job_judged (Assemble fabric blif pcf implementation base) =
      assembly_judged files (netlists_judged files) sound packs implementations (assembly_files fabric blif pcf implementation base)
  job_judged (Mapping fabric blif pcf seed rounds out) = map_judged files (netlists_judged files) (mapping_files (design_files fabric blif pcf) out)
  job_judged (Flow fabric blif pcf seed rounds reset base) = flow_judged files (netlists_judged files) (flow_files fabric blif pcf reset base)
  job_judged (Bits fabric fasm out) = bits_judged files (bits_files fabric fasm out)
  job_judged (Features fabric bit out) = bit_features_judged files fabrics hold (features_files fabric bit out)
  job_judged (Simulate verilog bit state stimulus order trace) = simulate_judged points files hold (simulation_files verilog bit state stimulus trace)
  job_judged (Partial fabric implementation fasm first last out) = partial_judged files tiles (partial_files fabric implementation fasm first last out)
  job_judged (Timing fabric blif pcf implementation out) =
      assembly_judged files (netlists_judged files) sound packs implementations (assembly_files fabric blif pcf implementation out)
  job_judged (Serial fabric out) = serial_judged files fabric
  job_judged (Sample size seed) = inl tt
