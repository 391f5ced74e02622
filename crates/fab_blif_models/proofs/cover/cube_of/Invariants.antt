use Rattle.std.proofs.Common.{◌≡◌, ◌-◌, ◌≤◌, ◌<◌, ◌^◌, drop, length, map}
use Rattle.fab_bits.specs.Bits.{number}
use Rattle.fab_blif_models.specs.Covers.{is_asked, is_one}
use Rattle.fab_blif_models.proofs.cover.cube_of.Given as goal

abbrev pub invariant-loop-place : goal.invariant-loop-place
invariant-loop-place l = record {
  within : l.place ≤ length l.pattern;
  care : l.care ≡ number (map is_asked (drop l.place l.pattern));
  value : l.value ≡ number (map is_one (drop l.place l.pattern));
  care_small : l.care < 2 ^ (16 - l.place);
  value_small : l.value < 2 ^ (16 - l.place);
}

abbrev pub decreases-loop-place : goal.decreases-loop-place
decreases-loop-place l = l.place
