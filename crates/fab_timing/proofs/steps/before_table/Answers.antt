use Rattle.std.proofs.Common.{rules, ◌≡◌, All, sym, subst}
use Rattle.fab_implementation.specs.Plain.{PlainTree}
use Rattle.fab_implementation.specs.OnFabric.{HasWires}
use Rattle.fab_timing.specs.inner.Passes.{IsCellLine}
use Rattle.fab_timing.proofs.Timed.{before_made, cells_known}
use Rattle.fab_timing.proofs.steps.before_table.Goals as goal

pub put_trees-requires-clause-wires : goal.put_trees-requires-clause-wires
put_trees-requires-clause-wires c =
    let trees : c.deref.result.now ≡ c.args.legal.now.trees = search rules in
    subst (All (λ (tree : PlainTree). All (HasWires c.args.fabric.now) tree.edges)) (sym trees) c.requires.on_fabric.wires

pub put_cells-requires-clause-lines : goal.put_cells-requires-clause-lines
put_cells-requires-clause-lines c =
    let cells : c.deref-2.result.now ≡ c.args.legal.now.cells = search rules in
    subst (All (IsCellLine c.args.fabric.now c.args.packed.now)) (sym cells) (cells_known c.args.fabric.now c.args.packed.now c.requires.legal.0 c.args.legal.now c.requires.legal.1)

pub returns-clause-edges : goal.returns-clause-edges
returns-clause-edges c =
    let trees : c.deref.result.now ≡ c.args.legal.now.trees = search rules in
    let cells : c.deref-2.result.now ≡ c.args.legal.now.cells = search rules in
    before_made c.args.fabric.now c.args.packed.now c.args.legal.now.trees c.deref.result.now c.args.legal.now.cells c.deref-2.result.now c.in_ok-before.before.items c.put_trees.new.before.items
    c.put_cells.new.before.items trees cells c.in_ok-before.ensures.none c.in_ok-put_trees.ensures.added c.in_ok-put_cells.ensures.added
