use Rattle.std.proofs.Common.{sym}
use Rattle.fab_compiled.specs.Terns.{seen}
use Rattle.fab_network.specs.Passes.{AreBacked, AreSolved, StaysBelow}
use Rattle.fab_stepping.proofs.Reading.{moved_three}
use Rattle.fab_stepping.proofs.Solved.{backed, least}
use Rattle.fab_stepping.proofs.board.Board.solve.Goals as goal

pub settle-requires-clause-backed : goal.settle-requires-clause-backed
settle-requires-clause-backed c =
    let network = c.args.network.now in
    let board = c.args.self.now in
    moved_three (λ order held leads. AreBacked network.trees.items network.drives.items held order (seen c.begin.new.solution leads))
    board.leads.items c.deref.result.now board.held.items c.deref-2.result.now board.leads.items c.deref-3.result.now
    (sym c.deref.ensures.value) (sym c.deref-2.ensures.value) (sym c.deref-3.ensures.value) (backed network board c.requires.board c.begin.new.solution c.begin.ensures)

pub returns : goal.returns
returns c =
    let network = c.args.network.now in
    let board = c.args.self.now in
    let new = c.settle.new.terns in
    least network board c.requires.board c.begin.new.solution c.begin.ensures c.requires.known new c.settle.ensures.rising
    (moved_three (λ order held leads. StaysBelow network.trees.items network.drives.items held order leads c.begin.new.solution new)
    c.deref.result.now board.leads.items c.deref-2.result.now board.held.items c.deref-3.result.now board.leads.items
    c.deref.ensures.value c.deref-2.ensures.value c.deref-3.ensures.value c.settle.ensures.below)
    (moved_three (λ order held leads. AreSolved network.trees.items network.drives.items held order (seen new leads))
    c.deref.result.now board.leads.items c.deref-2.result.now board.held.items c.deref-3.result.now board.leads.items
    c.deref.ensures.value c.deref-2.ensures.value c.deref-3.ensures.value c.settle.ensures.solved)
