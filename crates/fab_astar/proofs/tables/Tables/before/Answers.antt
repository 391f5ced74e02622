use Rattle.std.proofs.Common.{sym}
use Rattle.fab_astar.specs.declared.tables.Node.{Node}
use Rattle.fab_astar.proofs.Reading.{read}
use Rattle.fab_astar.proofs.tables.Tables.before.Goals as goal

pub returns : goal.returns
returns c = sym (read (λ (n : Node). n.before) c.args.self.now.nodes.items c.args.node c.index.result.now c.requires c.index.ensures)
