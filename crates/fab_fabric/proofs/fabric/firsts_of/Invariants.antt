use Rattle.std.proofs.Common.{◌≡◌, ℕ, ◌<◌, length, get_or}
use Rattle.fab_fabric.specs.Sums.{sum_to}
use Rattle.fab_fabric.specs.Fabric.{fabric_of}
use Rattle.fab_fabric.specs.inner.Index.{place_wires}
use Rattle.fab_fabric.proofs.fabric.firsts_of.Given as goal

-- the wires of the places so far
abbrev pub invariant-loop-place : goal.invariant-loop-place
invariant-loop-place l = record {
  first : l.first ≡ sum_to l.place (place_wires (fabric_of l.types l.columns l.grid));
  as_many : length l.firsts.items ≡ l.place;
  each : (place : ℕ) → place < l.place → get_or l.firsts.items place 0 ≡ sum_to place (place_wires (fabric_of l.types l.columns l.grid));
}
