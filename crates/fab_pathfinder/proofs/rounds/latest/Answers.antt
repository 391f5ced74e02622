use Rattle.std.proofs.Common.{◌-◌, sym, ◌∙◌, ap, length, arith}
use Rattle.fab_pathfinder.specs.Plain.{trees_of}
use Rattle.fab_pathfinder.proofs.Running.{last_trees-at}
use Rattle.fab_pathfinder.proofs.rounds.latest.Goals as goal

pub returns : goal.returns
returns c =
    let e = last_trees-at (trees_of c.args.bare.now) c.args.rounds.now (length c.args.rounds.now - 1) c.index-rounds-rounds.result (omega (arith, c.if-rounds-eq0.false)) in
    let d = ap trees_of c.deref.ensures.value in
    d ∙ sym e
