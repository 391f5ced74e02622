-- What is kept of the nodes of expressions stays right as points come to be known.
use Rattle.std.proofs.Common.{ℕ, ◌+◌, ◌-◌, ◌<◌, List, length, Option, None, Some, All, IfSome, ◌∙◌, arith, slice_index}
use Rattle.std.proofs.lemmas.List.Elements.{All-weaker}
use Rattle.fab_systems_laws.specs.Ternary.{IsBelow}
use Rattle.fab_ternary.specs.declared.Tern.{Tern}
use Rattle.fab_compiled.specs.declared.tree.Tree.{Tree}
use Rattle.fab_compiled.specs.Leading.{PointTerns}
use Rattle.fab_compiled.specs.Terns.{seen}
use Rattle.fab_nodes.proofs.NodesGrow.{kept_grows}
use Rattle.fab_settling.specs.declared.run_values.RunValues.{RunValues}
use Rattle.fab_settling.specs.declared.within.Within.{Within}
use Rattle.fab_network.specs.Passes.{AreRising}
use Rattle.fab_settling.specs.Visits.{IsFurther, Scene}
use Rattle.fab_settling.specs.Scenes.{IsReady}
use Rattle.fab_settling.specs.Spreading.{IsKeptOfRun, IsKeptWithin}

module _ (trees : List Tree) (count : ℕ) (t u : PointTerns) (grow : (point : ℕ) → point < count → IsBelow (t point) (u point)) where
  -- what is kept within an expression stays right where more is known
  within_grows : (within : Within) → IsKeptWithin trees count t within → IsKeptWithin trees count u within
  within_grows within is = record {
    tree = is.tree;
    is = is.is;
    made = is.made;
    begins = is.begins;
    inside = is.inside;
    kept = kept_grows (count - within.first) (λ place. t (within.first + place)) (λ place. u (within.first + place))
        (λ k l. grow (within.first + k) (omega (arith, is.begins))) is.tree within.values is.made is.inside is.kept;
  }

  -- the same where nothing may be kept
  part_grows : (part : Option Within) → IfSome part (IsKeptWithin trees count t) → IfSome part (IsKeptWithin trees count u)
  part_grows None is = is
  part_grows (Some within) is = within_grows within is

  run_grows : (values : RunValues) → IsKeptOfRun trees count t values → IsKeptOfRun trees count u values
  run_grows values is = record { gate = part_grows values.gate is.gate; bits = part_grows values.bits is.bits }

  pub runs_grow : (runs : List RunValues) → All (IsKeptOfRun trees count t) runs → All (IsKeptOfRun trees count u) runs
  runs_grow runs are = All-weaker (IsKeptOfRun trees count t) (IsKeptOfRun trees count u) run_grows runs are

-- the same where points come to be known
pub runs_rise : (trees : List Tree) (leads : List ℕ) (old new : List Tern) → AreRising old new → (runs : List RunValues) →
    All (IsKeptOfRun trees (length leads) (seen old leads)) runs → All (IsKeptOfRun trees (length leads) (seen new leads)) runs
runs_rise trees leads old new rising runs are =
    runs_grow trees (length leads) (seen old leads) (seen new leads) (λ point l. rising (slice_index leads point)) runs are

-- points may be looked at again
pub ready_after : (scene : Scene) (old new : List Tern) → IsReady scene old → IsFurther scene old new → IsReady scene new
ready_after scene old new ready further = record {
  fit = ready.fit;
  points = ready.points;
  long = further.long ∙ ready.long;
  latches = ready.latches;
  view = λ point l. omega (arith, further.long, ready.view point l);
  small = ready.small;
  own = ready.own;
  backed = further.backed;
}
