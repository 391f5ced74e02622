use Rattle.std.proofs.Common.{ℕ, [], ◌∙◌}
use Rattle.fab_place.specs.Standing.{site_at}
use Rattle.fab_place.proofs.Listed.{none_behind, counted_behind}
use Rattle.fab_place.proofs.implementation.cells_on.Goals as goal

pub loop-cell-init : goal.loop-cell-init
loop-cell-init c = c.new-lines.ensures.items ∙ none_behind [] (λ (number : ℕ). (number, site_at c.args.sites.now c.args.numbers.now number))

pub loop-cell-preserved : goal.loop-cell-preserved
loop-cell-preserved c =
    counted_behind [] c.loop-cell.lines.items c.push.new.self.items (λ (number : ℕ). (number, site_at c.args.sites.now c.args.numbers.now number)) c.loop-cell.cell c.loop-cell.invariant c.in_ok-push.ensures.items
