-- What a reader answers, beside what its definition gives.
use Rattle.std.specs.Prelude.{◌≡◌, ◌⊎◌, ℕ, List, Result, Ok, Err}
use Rattle.fab_base.specs.declared.fault.Fault.{Fault}
use Rattle.fab_base.specs.declared.fault.Fault.TheVariants as faults
use Rattle.fab_base.specs.declared.problem.Problem.{Problem}
use Rattle.fab_base.specs.declared.problem.Problem.TheVariants as problems

-- the fault of a problem at a line of a file
abbrev pub fault_at : List ℕ → ℕ → Problem → Fault
fault_at file line (problems.Malformed reason) = faults.Malformed (record { file = file; line = line }) reason
fault_at file line (problems.Unsupported construct) = faults.Unsupported (record { file = file; line = line }) construct
fault_at file line (problems.Limit quantity value bound) = faults.Limit (record { file = file; line = line }) quantity value bound
fault_at file line problems.Memory = faults.Memory

-- a fault is this one, unless memory was refused
abbrev pub IsFaultOr : Fault → Fault → Type 0
IsFaultOr fault expected = (fault ≡ faults.Memory) ⊎ (fault ≡ expected)

-- a line is refused for what its definition gives, unless memory was refused
abbrev pub Refuses : {Y : Type 0} → Problem → Result Y Problem → Type 0
Refuses problems.Memory given = Unit {0}
Refuses problem given = given ≡ Err problem

-- what was answered for a line, seen by view, is what its definition gives, unless memory was refused
abbrev pub Answers : {X Y : Type 0} → (X → Y) → Result X Problem → Result Y Problem → Type 0
Answers view (Ok x) given = given ≡ Ok (view x)
Answers view (Err problem) given = Refuses problem given

-- a text is refused for what its definition gives, unless memory was refused
abbrev pub Fails : {Y : Type 0} → Fault → Result Y Fault → Type 0
Fails faults.Memory given = Unit {0}
Fails fault given = given ≡ Err fault

-- what was answered for a text, seen by view, is what its definition gives, unless memory was refused
abbrev pub Gives : {X Y : Type 0} → (X → Y) → Result X Fault → Result Y Fault → Type 0
Gives view (Ok x) given = given ≡ Ok (view x)
Gives view (Err fault) given = Fails fault given
