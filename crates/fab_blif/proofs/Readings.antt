-- What follows for the answer of a reader from what it says of a file that it reads, and of one that it refuses.
use Rattle.std.proofs.Common.{◌≡◌, ◌≢◌, List, ℕ, Result, Ok, Err, IfOk, IfErr, OnOk, IsErr, IsOkUnless, refl, subst, sym}
use Rattle.fab_base.specs.declared.fault.Fault.{Fault}
use Rattle.fab_base.specs.declared.fault.Fault.TheVariants as faults
use Rattle.fab_netlist.specs.Cycles.{HasNoCycle}
use Rattle.fab_netlist.specs.Wide.{IsWideMade, PlainWide, tabled}
use Rattle.fab_blif.specs.Blif.{IsBlif, RefusesBlif, wide_in}
use Rattle.fab_blif.proofs.Excluded.{not_refused, reads_unless}
use Rattle.fab_blif.proofs.Netlists.{wide_is_made}

pub read_unless : {X : Type 0} (most : ℕ) (file bytes : List ℕ) (answer : Result X Fault) → IfErr answer (λ fault. fault ≢ faults.Memory → RefusesBlif most file bytes fault)
    → IsBlif most bytes → IsOkUnless answer faults.Memory
read_unless most file bytes (Ok netlist) refused is = tt
read_unless most file bytes (Err fault) refused is = reads_unless most file bytes fault refused is

pub never_read : {X : Type 0} (most : ℕ) (file bytes : List ℕ) (answer : Result X Fault) → OnOk answer (IsBlif most bytes) → (fault : Fault) → RefusesBlif most file bytes fault → IsErr answer
never_read most file bytes (Ok netlist) is fault refused = absurd (not_refused most file bytes fault is refused)
never_read most file bytes (Err other) is fault refused = refl

pub made : (bytes : List ℕ) (answer : Result PlainWide Fault) → OnOk answer (IsBlif 16 bytes) → IfOk answer (λ netlist. netlist ≡ wide_in bytes) → IfOk answer IsWideMade
made bytes (Ok netlist) is same = subst IsWideMade (sym same) (wide_is_made bytes is)
made bytes (Err fault) is same = tt

pub acyclic : (most : ℕ) (bytes : List ℕ) (answer : Result PlainWide Fault) → OnOk answer (IsBlif most bytes) → IfOk answer (λ netlist. netlist ≡ wide_in bytes)
    → IfOk answer (λ netlist. HasNoCycle (tabled netlist))
acyclic most bytes (Ok netlist) is same = subst (λ (n : PlainWide). HasNoCycle (tabled n)) (sym same) is.acyclic
acyclic most bytes (Err fault) is same = tt
