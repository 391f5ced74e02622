use Rattle.fab_refusals_laws.proofs.Rules.{broken_once}
use Rattle.fab_refusals_laws.proofs.one_rule_is_broken_first.Goals as goal

pub returns : goal.returns
returns c = broken_once
