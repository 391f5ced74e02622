use Rattle.fab_network.proofs.tables.Inputs.may_have.Goals as goal

pub returns-then-not-agree : goal.returns-then-not-agree
returns-then-not-agree c is t kept = c.agree.ensures c.if-not-agree.true t kept.first kept.second

pub returns-then-not-agree-2 : goal.returns-then-not-agree-2
returns-then-not-agree-2 c is t kept = c.agree-2.ensures c.if-not-agree-2.true t kept.second kept.third

pub returns : goal.returns
returns c is t kept = c.agree-3.ensures is t kept.third kept.fourth
