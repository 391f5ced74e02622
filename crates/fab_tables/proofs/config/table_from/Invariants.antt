use Rattle.std.proofs.Common.{◌≡◌, true}
use Rattle.std.specs.Prelude.{is_some}
use Rattle.fab_tables.specs.Config.{all_below, place_of}
use Rattle.fab_tables.specs.inner.FollowingConfig.{table_of}
use Rattle.fab_tables.proofs.config.table_from.Given as goal

abbrev pub invariant-loop-bit : goal.invariant-loop-bit
invariant-loop-bit l = record {
  so_far : l.places.items ≡ table_of l.bit l.entries;
  all : all_below l.bit (λ bit. is_some (place_of l.entries bit)) ≡ true;
}
