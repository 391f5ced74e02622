use Rattle.std.proofs.Common.{refl}
use Rattle.std.specs.Vec.{with_item}
use Rattle.fab_astar.proofs.Noting.{written_kept, taken_state}
use Rattle.fab_astar.proofs.tables.Tables.take.Goals as goal

pub returns-clause-taken : goal.returns-clause-taken
returns-clause-taken c = taken_state c.args.self.now (record c.args.self.now { nodes = with_item c.args.self.now.nodes c.args.node (record c.index_mut-note.result.now { stamp = c.args.self.now.mark; cost = c.args.cost; before = c.args.before; arrival = c.args.arrival }); queue = c.push.new.self }) c.args.node c.index_mut-note.result.now (record c.index_mut-note.result.now { stamp = c.args.self.now.mark; cost = c.args.cost; before = c.args.before; arrival = c.args.arrival }) c.index_mut-note.ensures.value refl refl refl

pub returns-clause-kept : goal.returns-clause-kept
returns-clause-kept c = written_kept c.args.self.now _ c.args.node c.index_mut-note.result.now (record c.index_mut-note.result.now { stamp = c.args.self.now.mark; cost = c.args.cost; before = c.args.before; arrival = c.args.arrival }) c.index_mut-note.ensures.value refl refl refl refl refl
