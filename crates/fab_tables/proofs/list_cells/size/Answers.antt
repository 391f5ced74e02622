use Rattle.std.proofs.Common.{◌≡◌, ◌∙◌, false, sym}
use Rattle.std.specs.List.{list_any}
use Rattle.fab_tables.specs.inner.Expanding.{is_sign}
use Rattle.fab_tables.proofs.OneNames.{one_of_size}
use Rattle.fab_tables.proofs.list_cells.size.Goals as goal

pub returns-then-not-has_signs : goal.returns-then-not-has_signs
returns-then-not-has_signs c =
    let none : list_any is_sign c.args.cell.now ≡ false = sym c.has_signs.ensures ∙ c.if-not-has_signs.true in
    sym (one_of_size c.args.cell.now none)
