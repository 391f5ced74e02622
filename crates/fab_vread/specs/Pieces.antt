-- What is known of a reader that takes a text in pieces.
use Rattle.std.specs.Prelude.{◌≡◌, ℕ, List, length, Result, Ok, Err}
use Rattle.fab_base.specs.declared.fault.Fault.{Fault}
use Rattle.fab_vread.specs.declared.reader.Reader.{Reader}
use Rattle.fab_vread.specs.declared.reader.Standing.{Standing}
use Rattle.fab_vread.specs.declared.reader.Standing.TheVariants as standings
use Rattle.fab_vread.specs.inner.Machine.{Progress, first_progress, read_from}
use Rattle.fab_vread.specs.inner.Progress.{plain_progress}

-- how many bytes the reader was fed
abbrev pub fed_len : Reader → ℕ
fed_len reader = reader.fed

-- memory was refused
abbrev pub IsSpent : Reader → Type 0
IsSpent reader = reader.standing ≡ standings.Spent

-- how the reader stands where its bytes come to this
abbrev pub StandsAt : Standing → Progress → (come : Result Progress Fault) → Type 0
StandsAt standings.Going progress come = come ≡ Ok progress
StandsAt (standings.Refused fault) progress come = come ≡ Err fault
StandsAt standings.Spent progress come = ⊥

-- The reader is of this file, was fed these bytes, and no memory was refused to it. What follows from it is said by the contracts
-- of `Reader`.
pub record HasRead (file bytes : List ℕ) (reader : Reader) : Type 0 where
  pub of_file : reader.file ≡ file
  pub counted : fed_len reader ≡ length bytes
  pub stands : StandsAt reader.standing (plain_progress reader.progress) (read_from file first_progress bytes)
