use Rattle.std.proofs.Common.{◌≡◌, ℕ}
use Rattle.fab_network.specs.Passes.{kept_tern}
use Rattle.fab_network.proofs.Forming.{FormsSoFar}
use Rattle.fab_network.proofs.forms.forms_of.Given as goal

-- the forms so far
abbrev pub invariant-loop-point : goal.invariant-loop-point
invariant-loop-point l = record {
  same : (q : ℕ) → kept_tern l.terns q ≡ kept_tern l.initial.terns q;
  so_far : FormsSoFar l.network.trees.items l.network.drives.items l.leads l.marks l.initial.terns l.order l.point-index l.forms.items;
}
