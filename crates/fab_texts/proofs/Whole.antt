-- A whole text is read, unless memory is refused.
use Rattle.std.proofs.Common.{◌≡◌, ℕ, List, [], Result, Ok, Err, IsOkUnless, ◌⊎◌, inl, inr, refl, ap}
use Rattle.fab_base.specs.declared.fault.Fault.{Fault}
use Rattle.fab_base.specs.declared.fault.Fault.TheVariants as faults
use Rattle.fab_base.specs.declared.problem.Problem.{Problem}
use Rattle.fab_base.specs.Reading.{Gives}
use Rattle.fab_lines.specs.Order.{Format, IsWhole, read_all, placed, ended}
use Rattle.fab_lines.proofs.Wholes.{FollowsFormat, refusal_read, whole_not_refused}
use Rattle.fab_lines.proofs.Judging.{fails_where_ok}

ok_or_err : {X : Type 0} (answer : Result X (ℕ × Problem)) → ((value : X) × (answer ≡ Ok value)) ⊎ ((at : ℕ × Problem) × (answer ≡ Err at))
ok_or_err (Ok value) = inl (value, refl)
ok_or_err (Err at) = inr (at, refl)

pub whole_gives : {S X L Y : Type 0} {format : Format L} {step : S → L → Result S Problem} {summary : List L → S} {finish : S → Result X Problem} {value : List L → X} (follows : FollowsFormat format step summary finish value) (text : List L) (last : ℕ)
    (view : Y → X) (file : List ℕ) (result : Result Y Fault) → Gives view result (placed file (ended finish last (read_all step format.number (summary []) text))) → IsWhole format text → IsOkUnless result faults.Memory
whole_gives follows text last view file (Ok y) gives whole = tt
whole_gives {S} {X} {L} {Y} {format} {step} {summary} {finish} {value} follows text last view file (Err fault) gives whole =
    let answer = ended finish last (read_all step format.number (summary []) text) in
    elim (ok_or_err answer) [
      | inl read ↦ fails_where_ok fault (placed file answer) read.0 gives (ap (placed file) read.1)
      | inr refused ↦ absurd (whole_not_refused whole (refusal_read follows text last refused.0 refused.1))
    ]
