use Rattle.fab_wiring.proofs.Left.{given_by_number, next_by_number}
use Rattle.fab_wiring.proofs.laws.numbered_given.Goals as goal

pub returns-clause-first : goal.returns-clause-first
returns-clause-first c text trees drives wired inputs held fed kept fed_is kept_is = given_by_number text trees drives wired inputs held fed kept fed_is kept_is

pub returns-clause-next : goal.returns-clause-next
returns-clause-next c text sound trees drives wired inputs held t later next given s fed are_given same tick name named leaves fed_is =
    next_by_number text sound trees drives wired inputs held t later next given s fed are_given same tick name named leaves fed_is
