use Rattle.std.proofs.Common.{sym, ◌∙◌}
use Rattle.fab_legal.proofs.StandSteps.{stands_found}
use Rattle.fab_legal.proofs.standing.stands.Goals as goal

pub returns-in-Some : goal.returns-in-Some
returns-in-Some c =
    stands_found c.args.placed.now c.args.numbers.now.keys c.args.sets.now c.args.net c.args.wire c.net_number.result c.in-Some.place c.index-sets-place.result c.contains.result
    (c.exists.ensures.0 c.if-not-exists.false) c.net_number.ensures (sym c.in-Some.is ∙ c.get_index_of.ensures.index) c.requires.as_many c.index-sets-place.is c.contains.ensures
