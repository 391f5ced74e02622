-- Faults of words and of bytes that are no stream.
use Rattle.std.specs.Prelude.{◌≡◌, ◌≢◌, ℕ, ◌+◌, ◌/◌, ◌%◌, List, length}
use Rattle.fab_base.specs.declared.words.Reason.{Reason}
use Rattle.fab_base.specs.declared.words.Reason.TheVariants as reasons
use Rattle.fab_base.specs.declared.problem.Problem.TheVariants as problems
use Rattle.fab_base.specs.declared.fault.Fault.{Fault}
use Rattle.fab_base.specs.Reading.{fault_at}
use Rattle.fab_model.specs.Grid.{PlainFabric}
use Rattle.fab_frames.specs.Stream.{IsFirstWrong}

-- the fault tells the first word that is refused, by its number from 1
pub record IsStreamRefusal (fabric : PlainFabric) (file words : List ℕ) (fault : Fault) : Type 0 where
  pub place : ℕ
  pub reason : Reason
  pub first : IsFirstWrong fabric words place reason
  pub told : fault ≡ fault_at file (place + 1) (problems.Malformed reason)

-- the bytes end within a word, and the fault tells this word by its number from 1
pub record IsCut (file bytes : List ℕ) (fault : Fault) : Type 0 where
  pub rest : length bytes % 4 ≢ 0
  pub told : fault ≡ fault_at file (length bytes / 4 + 1) (problems.Malformed reasons.Word)
