use Rattle.std.proofs.Common.{refl, arith}
use Rattle.fab_astar.proofs.Noting.{tables_written, held_too}
use Rattle.fab_astar.proofs.tables.Tables.hold.Goals as goal

pub returns-clause-tables : goal.returns-clause-tables
returns-clause-tables c = tables_written c.args.self.now _ c.args.node c.index_mut-note.result.now (record c.index_mut-note.result.now { tree = c.args.self.now.tree_mark }) c.index_mut-note.ensures.value refl c.requires.tables c.requires.node refl refl refl refl (omega arith)

pub returns-clause-held : goal.returns-clause-held
returns-clause-held c = held_too c.args.self.now _ c.args.node c.index_mut-note.result.now (record c.index_mut-note.result.now { tree = c.args.self.now.tree_mark }) c.index_mut-note.ensures.value refl c.requires.node refl refl refl refl
