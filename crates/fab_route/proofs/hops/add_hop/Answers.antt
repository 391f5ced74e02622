use Rattle.std.proofs.Common.{arith}
use Rattle.fab_route.specs.inner.Guided.{hop_between}
use Rattle.fab_route.proofs.Hopping.{pushed}
use Rattle.fab_route.proofs.hops.add_hop.Goals as goal

pub returns-clause-kept : goal.returns-clause-kept
returns-clause-kept c =
    (pushed c.args.hops.now.items c.args.to.class c.index_mut.result.now c.push.new.self (hop_between c.args.from c.args.to) (omega (arith, c.requires.to.class, c.requires.many)) c.index_mut.ensures.value
    c.in_ok-push.ensures.items).0

pub returns-clause-added : goal.returns-clause-added
returns-clause-added c =
    (pushed c.args.hops.now.items c.args.to.class c.index_mut.result.now c.push.new.self (hop_between c.args.from c.args.to) (omega (arith, c.requires.to.class, c.requires.many)) c.index_mut.ensures.value
    c.in_ok-push.ensures.items).1
