use Rattle.std.proofs.Common.{◌∙◌, sym, arith}
use Rattle.fab_demand.specs.Search.{asked_of}
use Rattle.fab_demand.proofs.Asking.{asks_both}
use Rattle.fab_demand.proofs.Beside.{tells_later}
use Rattle.fab_demand.proofs.search.Search.close_part.Goals as goal

pub close_row-requires-clause-points : goal.close_row-requires-clause-points
close_row-requires-clause-points c = c.requires.points ∙ sym c.close_waiting.ensures.more.long

pub close_row-requires-clause-tells : goal.close_row-requires-clause-tells
close_row-requires-clause-tells c =
    tells_later c.args.network.now.trees.items c.args.together.now (asked_of c.args.self.now) (asked_of c.close_waiting.new.self)
    c.close_waiting.ensures.more c.close_waiting.ensures.above c.requires.tells

pub close_row-requires-clause-searching : goal.close_row-requires-clause-searching
close_row-requires-clause-searching c =
    let is = c.requires.searching in
    (is.0, is.1, c.close_waiting.ensures.searching is.0 is.1 is.2)

pub returns-clause-searching : goal.returns-clause-searching
returns-clause-searching c clock given searching = c.close_row.ensures.searching clock given (c.close_waiting.ensures.searching clock given searching)

pub returns-clause-more : goal.returns-clause-more
returns-clause-more c =
    asks_both (asked_of c.args.self.now) (asked_of c.close_waiting.new.self) (asked_of c.close_row.new.self) c.close_waiting.ensures.more c.close_row.ensures.more

pub returns-clause-left : goal.returns-clause-left
returns-clause-left c = omega (arith, c.close_waiting.ensures.left, c.close_row.ensures.left)
