-- Ternary solutions of a text, where inputs of the top and what flip-flops and latches hold may be unknown.
use Rattle.std.specs.Prelude.{◌≡◌, ℕ, true, List, if◌then◌else◌}
use Rattle.fab_syntax.specs.Plain.{PlainModule}
use Rattle.fab_load_runs_laws.specs.fab_meaning_Points.{Point, Driver, outside, copy, bit_of, flop, hold, Drives}
use Rattle.fab_load_runs_laws.specs.fab_meaning_Reads.{is_declared}
use Rattle.fab_load_runs_laws.specs.fab_meaning_Runs.{clock_of, is_clock}
use Rattle.fab_systems_laws.specs.Ternary.{Tern, IsBelow}
use Rattle.fab_ternary_laws.specs.Operators.{tern_at}
use Rattle.fab_ternary_laws.specs.Values.{tern_value}
use Rattle.fab_ternary_laws.specs.Shown.{Terns, tern_names, through}

-- What a driver gives its point. It is `tern_shown`, but that inputs and held values may be unknown.
abbrev pub tern_given : List PlainModule → (inputs held t : Terns) → Point → Driver → Tern
tern_given text inputs held t p outside = inputs p
tern_given text inputs held t p (copy other) = t other
tern_given text inputs held t p (bit_of path e bit) = tern_at (tern_value (tern_names text t path) e) bit
tern_given text inputs held t p (flop path clock next bit) = held p
tern_given text inputs held t p (hold path gate e bit) =
    through (tern_at (tern_value (tern_names text t path) gate) 0) (tern_at (tern_value (tern_names text t path) e) bit) (held p)

-- each declared point has what its driver gives it
abbrev pub Solves : List PlainModule → (inputs held t : Terns) → Type 0
Solves text inputs held t = (p : Point) (d : Driver) → is_declared text p ≡ true → Drives text p d → t p ≡ tern_given text inputs held t p d

-- a solution whose known values stand in every solution
pub record IsLeastSolution (text : List PlainModule) (inputs held t : Terns) : Type 0 where
  pub solves : Solves text inputs held t
  pub least : (u : Terns) → Solves text inputs held u → (p : Point) → is_declared text p ≡ true → IsBelow (t p) (u p)

-- What a driver keeps at a tick of a clock of the top: a flip-flop of this clock takes its next value, also an unknown one, and a latch what its
-- point has. It is `kept` of `fab_meaning` case by case.
abbrev pub tern_kept : List PlainModule → (clock : List ℕ) → (held t : Terns) → Point → Driver → Tern
tern_kept text clock held t p (flop path own next bit) =
    if is_clock clock (clock_of text path own) then tern_at (tern_value (tern_names text t path) next) bit else held p
tern_kept text clock held t p (hold path gate e bit) = t p
tern_kept text clock held t p outside = held p
tern_kept text clock held t p (copy other) = held p
tern_kept text clock held t p (bit_of path e bit) = held p
