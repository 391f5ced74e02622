use Rattle.std.proofs.Common.{◌≡◌, ℕ, length}
use Rattle.fab_compiled.specs.Terns.{seen}
use Rattle.fab_network.specs.Passes.{kept_tern, AreBacked, AreRising, IsListed, StaysBelow}
use Rattle.fab_settling.specs.Visits.{open_count}
use Rattle.fab_settling.proofs.passes.settle_by.Given as goal

abbrev pub invariant-passes : goal.invariant-passes
invariant-passes l = record {
  long : length l.terns ≡ length l.leads;
  rising : AreRising l.initial.terns l.terns;
  below : StaysBelow l.network.trees.items l.network.drives.items l.held l.order l.leads l.initial.terns l.terns;
  backed : AreBacked l.network.trees.items l.network.drives.items l.held l.order (seen l.terns l.leads);
  others : (point : ℕ) → (IsListed l.order point → ⊥) → kept_tern l.terns point ≡ kept_tern l.initial.terns point;
}

abbrev pub decreases-passes : goal.decreases-passes
decreases-passes l = open_count l.terns
