use Rattle.std.proofs.Common.{◌≡◌, map, take}
use Rattle.fab_legal.specs.Turns.{FirstAreRight}
use Rattle.fab_legal.specs.Lines.{IsNew}
use Rattle.fab_legal.specs.inner.Kept.{site_key}
use Rattle.fab_legal.proofs.placed.first_again.Given as goal

abbrev pub invariant-loop-place : goal.invariant-loop-place
invariant-loop-place l = record {
  seen : l.seen.keys ≡ map site_key (take l.place l.sites);
  right : FirstAreRight IsNew l.sites l.place;
}
