use Rattle.std.proofs.Common.{◌≡◌, [], map, take, nat_eq}
use Rattle.indexmap.specs.IndexSet.{insert_all}
use Rattle.fab_legal.specs.Turns.{FirstAreRight}
use Rattle.fab_legal.specs.Nets.{IsRightEntry}
use Rattle.fab_legal.specs.inner.Tables.{entered_number}
use Rattle.fab_legal.proofs.reach.first_wrong.Given as goal

abbrev pub invariant-loop-place : goal.invariant-loop-place
invariant-loop-place l = record {
  seen : l.seen.keys ≡ insert_all nat_eq [] (map entered_number (take l.place l.edges));
  right : FirstAreRight (IsRightEntry l.edges) l.edges l.place;
}
