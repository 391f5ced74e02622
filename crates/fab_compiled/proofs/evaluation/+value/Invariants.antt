use Rattle.std.proofs.Common.{◌≡◌, ◌<◌, ◌≤◌, ℕ, true, false, drop, get_or, length}
use Rattle.fab_solutions_laws.specs.fab_ternary_laws_Operators.{tern_at, same_terns}
use Rattle.fab_values.proofs.Evaluated.{borrow_at}
use Rattle.fab_ternary.specs.declared.Tern.TheVariants.{No}
use Rattle.fab_ternary.specs.Terns.{plain_tern, is_known}
use Rattle.fab_compiled.specs.Trees.{tree_width}
use Rattle.fab_compiled.specs.Evaluation.{known_bits, value_seen}
use Rattle.fab_compiled.proofs.evaluation.+value.Given as goal

abbrev pub invariant-difference_bit-loop-place : goal.invariant-difference_bit-loop-place
invariant-difference_bit-loop-place l =
    l.borrow ≡ borrow_at false (known_bits (value_seen l.view.terns.now l.view.leads.now l.first l.left)) (known_bits (value_seen l.view.terns.now l.view.leads.now l.first l.right)) l.place

-- the bits so far
abbrev pub invariant-index_bits-loop-place : goal.invariant-index_bits-loop-place
invariant-index_bits-loop-place l = record {
  long : length l.bits ≡ 32;
  so_far : (k : ℕ) → k < l.place → plain_tern (get_or l.bits k No) ≡ tern_at (value_seen l.view.terns.now l.view.leads.now l.first l.index) k;
}

-- all bits so far are known
abbrev pub invariant-knows-loop-place : goal.invariant-knows-loop-place
invariant-knows-loop-place l = (k : ℕ) → k < l.place → is_known (tern_at (value_seen l.view.terns.now l.view.leads.now l.first l.tree) k) ≡ true

-- the bits from the place on
abbrev pub invariant-same-loop-place : goal.invariant-same-loop-place
invariant-same-loop-place l = record {
  low : l.place ≤ tree_width l.left;
  so_far : plain_tern l.all ≡ same_terns (drop l.place (value_seen l.view.terns.now l.view.leads.now l.first l.left)) (drop l.place (value_seen l.view.terns.now l.view.leads.now l.first l.right));
}

abbrev pub decreases-same-loop-place : goal.decreases-same-loop-place
decreases-same-loop-place l = l.place
