use Rattle.std.proofs.Common.{◌≡◌, ◌<◌, ℕ, get_or, length, Some, None}
use Rattle.fab_annealing.specs.Boards.{site_count}
use Rattle.fab_annealing.proofs.placement.items_of.Given as goal

abbrev pub invariant-loop-item : goal.invariant-loop-item
invariant-loop-item l = record {
  count : length l.items.items ≡ site_count l.board;
  here : (item : ℕ) → item < l.item → get_or l.items.items (get_or l.sites item 0) None ≡ Some item;
  there : (site item : ℕ) → get_or l.items.items site None ≡ Some item → (item < l.item) × (get_or l.sites item 0 ≡ site);
}
