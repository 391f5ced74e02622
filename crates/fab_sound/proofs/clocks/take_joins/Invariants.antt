use Rattle.std.proofs.Common.{◌≡◌, ◌||◌, ℕ, List, drop, map}
use Rattle.std.specs.List.{list_all, list_any}
use Rattle.fab_syntax.specs.Plain.{plain_join}
use Rattle.fab_sound.specs.inner.Checks.{found, is_scalar_entry}
use Rattle.fab_sound.specs.inner.Rules.{is_counted, join_serves, join_clocks}
use Rattle.fab_sound.proofs.clocks.take_joins.Given as goal

abbrev pub invariant-loop-join : goal.invariant-loop-join
invariant-loop-join l = record {
  fit : list_all (join_clocks (λ name. is_scalar_entry (found l.names name)) (is_counted l.below)) (map plain_join (drop l.join-index l.joins))
      ≡ list_all (join_clocks (λ name. is_scalar_entry (found l.names name)) (is_counted l.below)) (map plain_join l.joins);
  serve : (name : List ℕ) →
      (list_any (join_serves (is_counted l.below) name) (map plain_join (drop l.join-index l.joins)) || is_counted l.clocks name)
      ≡ (list_any (join_serves (is_counted l.below) name) (map plain_join l.joins) || is_counted l.initial.clocks name);
}
