use Rattle.std.proofs.Common.{◌≡◌, length, ◌∙◌, ap, arith}
use Rattle.fab_implementation.specs.fab_netlist.specs.Packed.{PlainPacked}
use Rattle.fab_implementation.specs.Plain.{PlainImplementation}
use Rattle.fab_legal.specs.Broken.{cell_text, IsCellItem}
use Rattle.fab_legal.proofs.Cells.{breaks_by, cells_bound, cell_wrong, cell_unnamed}
use Rattle.fab_legal.proofs.placed.place_cells.Goals as goal

pub returns-in-Sites-clause-placed : goal.returns-in-Sites-clause-placed
returns-in-Sites-clause-placed c =
    let view = ap (λ (p : PlainPacked). length p.cells) c.packed.view_is in
    let count_is : c.len-count.result ≡ length c.args.packed.now.cells = omega (arith, c.len-count.ensures, c.packed.inside.cells.ok.0, view) in
    (cells_bound c.args.fabric.now c.args.packed.now c.args.implementation.now c.len-count.result c.deref.result.now c.in_ok-sites.field-0 count_is
    (c.deref.ensures.value ∙ ap (λ (i : PlainImplementation). i.cells) c.implementation.view_is) c.in_ok-sites.ensures c.in-Sites.sites c.in-Sites.is).0

pub returns-in_ok-cell_text-in-WrongLine-clause-err : goal.returns-in_ok-cell_text-in-WrongLine-clause-err
returns-in_ok-cell_text-in-WrongLine-clause-err c =
    let view = ap (λ (p : PlainPacked). length p.cells) c.packed.view_is in
    let count_is : c.len-count.result ≡ length c.args.packed.now.cells = omega (arith, c.len-count.ensures, c.packed.inside.cells.ok.0, view) in
    breaks_by 1 (IsCellItem c.args.fabric.now c.args.packed.now c.args.implementation.now) c.broken_by.result (c.in_ok-cell_text-in-WrongLine).field-0 (cell_text c.index.result.now.0) c.broken_by.ensures
    (c.in_ok-cell_text-in-WrongLine).ensures
    (cell_wrong c.args.fabric.now c.args.packed.now c.args.implementation.now c.len-count.result c.implementation.inside.cells.items c.in_ok-sites.field-0 count_is
    (ap (λ (i : PlainImplementation). i.cells) c.implementation.view_is) (rw c.deref.ensures.value at c.in_ok-sites.ensures) c.in-WrongLine.place c.index.result.now c.in-WrongLine.is c.index.ensures)

pub returns-in_ok-cell_text-in-Unnamed-clause-err : goal.returns-in_ok-cell_text-in-Unnamed-clause-err
returns-in_ok-cell_text-in-Unnamed-clause-err c =
    let view = ap (λ (p : PlainPacked). length p.cells) c.packed.view_is in
    let count_is : c.len-count.result ≡ length c.args.packed.now.cells = omega (arith, c.len-count.ensures, c.packed.inside.cells.ok.0, view) in
    breaks_by 1 (IsCellItem c.args.fabric.now c.args.packed.now c.args.implementation.now) (c.broken_by-in-Unnamed).result (c.in_ok-cell_text-in-Unnamed).field-0 (cell_text c.in-Unnamed.number)
    (c.broken_by-in-Unnamed).ensures (c.in_ok-cell_text-in-Unnamed).ensures
    (cell_unnamed c.args.fabric.now c.args.packed.now c.args.implementation.now c.len-count.result c.deref.result.now c.in_ok-sites.field-0 count_is
    (c.deref.ensures.value ∙ ap (λ (i : PlainImplementation). i.cells) c.implementation.view_is) c.in_ok-sites.ensures c.in-Unnamed.number c.in-Unnamed.is)
