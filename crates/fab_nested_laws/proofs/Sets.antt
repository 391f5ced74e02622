-- The law for sets of points, as runs ask it.
use Rattle.std.proofs.Common.{ℕ, List}
use Rattle.fab_syntax.specs.Plain.{PlainModule}
use Rattle.fab_meaning.specs.Points.{Point}
use Rattle.fab_meaning.specs.Settled.{Assignment, IsSettledOn}
use Rattle.fab_meaning.specs.Runs.{Ticks}
use Rattle.fab_nested_laws.specs.Nested.{inside, within, IsSameClock, IsNested}

module _ (inner outer : List PlainModule) (i : List ℕ) (nested : IsNested inner outer i) (Has HasOuter : Point → Type 0) (has : (p : Point) → Has p → HasOuter (inside i p)) where
  pub settled_on : (inputs held now : Assignment) → IsSettledOn HasOuter outer inputs held now → IsSettledOn Has inner (within i now) (within i held) (within i now)
  settled_on inputs held now settled p d there drives = nested.settles inputs held now p (λ e by. settled (inside i p) e (has p there) by) d drives

  pub ticks_on : (clock : List ℕ) (held now next : Assignment) → IsSameClock inner outer i clock → Ticks HasOuter outer clock held now next →
      Ticks Has inner clock (within i held) (within i now) (within i next)
  ticks_on clock held now next same ticks p d there drives = nested.ticks clock held now next same p (λ e by. ticks (inside i p) e (has p there) by) d drives
