-- A reader of several files that meets no refusal, and no read that fails, reads them or wants memory.
use Rattle.std.proofs.Common.{◌≡◌, Option, Some, Result, Ok, Err, IfErr, IsOkUnless, refl}
use Rattle.fab_base.specs.declared.fault.Fault.{Fault}
use Rattle.fab_base.specs.declared.fault.Fault.TheVariants as faults
use Rattle.fab_desk.specs.Files.{Map}
use Rattle.fab_files.specs.Files.{Event, refuses, HasReadCause}

module _ (told : Option Map) (rose : Type 0) (meets : Map → Event → Type 0) (files : Map) (is : told ≡ Some files) (still : rose → ⊥) (fine : (fault : Fault) → meets files (refuses fault) → ⊥) where
  memory_alone : (fault : Fault) → HasReadCause told rose meets fault → fault ≡ faults.Memory
  memory_alone faults.Memory cause = refl
  memory_alone (faults.ReadFault file) cause = absurd (still cause.0)
  memory_alone (faults.Missing file) cause = absurd (fine (faults.Missing file) (cause files is))
  memory_alone (faults.TooLong file) cause = absurd (fine (faults.TooLong file) (cause files is))
  memory_alone (faults.Malformed place reason) cause = absurd (fine (faults.Malformed place reason) (cause files is))
  memory_alone (faults.Unsupported place construct) cause = absurd (fine (faults.Unsupported place construct) (cause files is))
  memory_alone (faults.Limit place quantity value bound) cause = absurd (fine (faults.Limit place quantity value bound) (cause files is))
  memory_alone fault cause = absurd cause

  pub ok_unless_memory : {X : Type 0} (result : Result X Fault) → IfErr result (HasReadCause told rose meets) → IsOkUnless result faults.Memory
  ok_unless_memory (Ok x) cause = tt
  ok_unless_memory (Err fault) cause = memory_alone fault cause
