use Rattle.std.proofs.Common.{refl, arith}
use Rattle.fab_astar.specs.declared.tables.Node.{Node}
use Rattle.fab_astar.proofs.Reading.{read}
use Rattle.fab_astar.proofs.Noting.{tables_written, charged}
use Rattle.fab_astar.proofs.tables.Tables.charge.Goals as goal

pub returns-clause-tables : goal.returns-clause-tables
returns-clause-tables c = tables_written c.args.self.now _ c.args.node c.index_mut-note.result.now (record c.index_mut-note.result.now { users = c.args.users; price = c.args.price }) c.index_mut-note.ensures.value refl c.requires.tables c.requires.node refl refl refl refl (omega (arith, read (λ (n : Node). n.tree) c.args.self.now.nodes.items c.args.node c.index_mut-note.result.now c.requires.node c.index_mut-note.ensures.value, c.requires.tables.held_latest c.args.node))

pub returns-clause-charged : goal.returns-clause-charged
returns-clause-charged c = charged c.args.self.now _ c.args.node c.index_mut-note.result.now (record c.index_mut-note.result.now { users = c.args.users; price = c.args.price }) c.index_mut-note.ensures.value refl c.requires.node refl refl
