use Rattle.std.proofs.Common.{◌≡◌, ◌+◌, ℕ, List, drop, map}
use Rattle.std.specs.List.{list_all}
use Rattle.fab_syntax.specs.Plain.{plain_join}
use Rattle.fab_syntax.specs.Declarations.{times_joined}
use Rattle.fab_sound.specs.inner.Checks.{count_at, known_module}
use Rattle.fab_sound.specs.inner.Rules.{join_passes}
use Rattle.fab_sound.proofs.instances.instance_fits.Given as goal

abbrev pub invariant-loop-join : goal.invariant-loop-join
invariant-loop-join l = record {
  fit : list_all (join_passes (known_module l.known) (known_module l.below)) (map plain_join (drop l.join-index l.joins))
      ≡ list_all (join_passes (known_module l.known) (known_module l.below)) (map plain_join l.joins);
  counted : (other : List ℕ) → times_joined (map plain_join (drop l.join-index l.joins)) other + count_at l.counts other ≡ times_joined (map plain_join l.joins) other;
}
