-- What a driver gives its point, where points have ternary values. It is `shown` of `fab_meaning` case by case.
use Rattle.std.specs.Prelude.{ℕ, zero, suc, List, [], ◌∷◌}
use Rattle.fab_matrix.specs.fab_syntax.specs.Plain.{PlainModule}
use Rattle.fab_matrix.specs.fab_syntax.specs.Declarations.{width_in}
use Rattle.fab_matrix.specs.fab_meaning.specs.Points.{Path, Point, point, Driver, outside, copy, bit_of, flop, hold, module_at}
use Rattle.fab_matrix.specs.fab_meaning.specs.Settled.{Assignment}
use Rattle.fab_systems_laws.specs.Ternary.{Tern, no, yes, unknown, known}
use Rattle.fab_ternary_laws.specs.Operators.{tern_at, agreed}
use Rattle.fab_ternary_laws.specs.Values.{tern_value}

-- a ternary value for each point
abbrev pub Terns : Type 0
Terns = Point → Tern

abbrev pub first_terns : (n : ℕ) → (ℕ → Tern) → List Tern
first_terns zero f = []
first_terns (suc n) f = f 0 ∷ first_terns n (λ place. f (suc place))

-- the bits of the names of an instance
abbrev pub tern_names : List PlainModule → Terns → Path → List ℕ → List Tern
tern_names text t path name = first_terns (width_in (module_at text path) name) (λ bit. t (point path name bit))

-- what a latch shows: its data or what it holds; where its gate is unknown, what these agree on
abbrev pub through : (gate given kept : Tern) → Tern
through yes given kept = given
through no given kept = kept
through unknown given kept = agreed given kept

-- The top's inputs, and what flip-flops and latches hold, are known.
abbrev pub tern_shown : List PlainModule → (inputs held : Assignment) → Terns → Point → Driver → Tern
tern_shown text inputs held t p outside = known (inputs p)
tern_shown text inputs held t p (copy other) = t other
tern_shown text inputs held t p (bit_of path e bit) = tern_at (tern_value (tern_names text t path) e) bit
tern_shown text inputs held t p (flop path clock next bit) = known (held p)
tern_shown text inputs held t p (hold path gate e bit) =
    through (tern_at (tern_value (tern_names text t path) gate) 0) (tern_at (tern_value (tern_names text t path) e) bit) (known (held p))
