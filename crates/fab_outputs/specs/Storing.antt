-- The outputs of a command, and which of them stand when it ends.
use Rattle.std.specs.Prelude.{◌≡◌, ◌⊎◌, ℕ, List, [], ◌∷◌, ◌++◌, Option, option_map}
use Rattle.std.specs.Option.{ForSome}
use Rattle.fab_base.specs.declared.fault.Fault.{Fault}
use Rattle.fab_base.specs.declared.fault.Fault.TheVariants as faults
use Rattle.fab_desk.specs.Files.{Map, with_file}
use Rattle.fab_outputs.specs.declared.storing.Output.{Output}

-- an output: the name of a file, and the bytes that it is to hold
pub record PlainOutput : Type 0 where
  pub name : List ℕ
  pub bytes : List ℕ

abbrev pub plain_output : Output → PlainOutput
plain_output output = record { name = output.name; bytes = output.bytes.items }

abbrev pub output : (name bytes : List ℕ) → PlainOutput
output name bytes = record { name = name; bytes = bytes }

-- the files with some outputs put in, one after the other
abbrev pub with_outputs : List PlainOutput → Map → Map
with_outputs [] files = files
with_outputs (output ∷ outputs) files = with_outputs outputs (with_file output.name output.bytes files)

-- Of outputs that the command makes of the files that the desk tells, these are stored and those are not.
pub record HasStored (makes : Map → List PlainOutput → Type 0) (told after : Option Map) (stored left : List PlainOutput) : Type 0 where
  pub made : ForSome told (λ files. makes files (stored ++ left))
  pub after_is : after ≡ option_map (with_outputs stored) told

-- all outputs are stored, and nothing else
pub record IsDone (makes : Map → List PlainOutput → Type 0) (told after : Option Map) : Type 0 where
  pub outputs : List PlainOutput
  pub made : ForSome told (λ files. makes files outputs)
  pub after_is : after ≡ option_map (with_outputs outputs) told

-- the outputs before this file are stored, and it is not
pub record StopsAt (makes : Map → List PlainOutput → Type 0) (told after : Option Map) (file : List ℕ) : Type 0 where
  pub stored : List PlainOutput
  pub bytes : List ℕ
  pub left : List PlainOutput
  pub has : HasStored makes told after stored (output file bytes ∷ left)

-- the outputs before some output are stored, maybe none, and it is not
pub record StopsAnywhere (makes : Map → List PlainOutput → Type 0) (told after : Option Map) : Type 0 where
  pub stored : List PlainOutput
  pub next : PlainOutput
  pub left : List PlainOutput
  pub has : HasStored makes told after stored (next ∷ left)

-- What a command leaves that ends with a fault: the files as they were, unless a store failed. Then exactly the outputs before it stand.
abbrev pub Leaves : (makes : Map → List PlainOutput → Type 0) → (told after : Option Map) → Fault → Type 0
Leaves makes told after (faults.WriteFault file) = StopsAt makes told after file
Leaves makes told after faults.Memory = (after ≡ told) ⊎ StopsAnywhere makes told after
Leaves makes told after fault = after ≡ told

-- ---- one store after the other

-- a store fails by a fault of the device alone
abbrev pub IsStoreFault : (file : List ℕ) → (writes_rose : Type 0) → Fault → Type 0
IsStoreFault file writes_rose faults.Memory = Unit {0}
IsStoreFault file writes_rose (faults.WriteFault other) = writes_rose × (other ≡ file)
IsStoreFault file writes_rose fault = ⊥

-- some outputs are stored, and the next one is not
pub record IsStopped (outputs : List PlainOutput) (told after : Option Map) (writes_rose : Type 0) (fault : Fault) : Type 0 where
  pub stored : List PlainOutput
  pub next : PlainOutput
  pub left : List PlainOutput
  pub are : outputs ≡ stored ++ next ∷ left
  pub after_is : after ≡ option_map (with_outputs stored) told
  pub fault_is : IsStoreFault next.name writes_rose fault
