use Rattle.std.proofs.Common.{◌+◌, refl}
use Rattle.std.specs.Vec.{with_item}
use Rattle.fab_astar.proofs.Noting.{settled_state, written_kept}
use Rattle.fab_astar.proofs.tables.Tables.settle.Goals as goal

pub returns-clause-settled : goal.returns-clause-settled
returns-clause-settled c = settled_state c.args.self.now (record c.args.self.now { nodes = with_item c.args.self.now.nodes c.args.node (record c.index_mut-note.result.now { stamp = c.args.self.now.mark + 1 }) }) c.args.node c.index_mut-note.result.now (record c.index_mut-note.result.now { stamp = c.args.self.now.mark + 1 }) c.index_mut-note.ensures.value refl refl refl refl refl

pub returns-clause-kept : goal.returns-clause-kept
returns-clause-kept c = written_kept c.args.self.now _ c.args.node c.index_mut-note.result.now (record c.index_mut-note.result.now { stamp = c.args.self.now.mark + 1 }) c.index_mut-note.ensures.value refl refl refl refl refl
