use Rattle.std.proofs.Common.{List, subst}
use Rattle.std.specs.List.{All}
use Rattle.std.proofs.lemmas.List.{take_all}
use Rattle.std.proofs.lemmas.List.Elements.{All-more}
use Rattle.fab_route.specs.declared.hops.Hop.{Hop}
use Rattle.fab_route.specs.inner.Guided.{IsHopTested}
use Rattle.fab_route.proofs.tested.are_tested.Goals as goal

pub loop-hop-preserved : goal.loop-hop-preserved
loop-hop-preserved c =
    All-more (IsHopTested c.args.entries.now c.args.window c.args.start c.args.to) c.args.hops.now c.loop-hop.hop-index (record { from = 0; across = 0; down = 0 }) c.loop-hop-test.true c.loop-hop.invariant
    c.if-not-is_hop_tested.ensures

pub returns : goal.returns
returns c =
    subst (λ (hops : List Hop). All (IsHopTested c.args.entries.now c.args.window c.args.start c.args.to) hops) (take_all c.loop-hop.hop-index c.args.hops.now c.loop-hop-test.false) c.loop-hop.invariant
