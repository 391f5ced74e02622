use Rattle.std.proofs.Common.{get_or}
use Rattle.fab_fabric.specs.Bits.{plain_bits}
use Rattle.fab_implementation.specs.Plain.{Edge}
use Rattle.fab_legal.proofs.Lists.{at_default}
use Rattle.fab_features.specs.inner.Adding.{IsEdgeOne}
use Rattle.fab_features.proofs.Added.{more_of}
use Rattle.fab_features.proofs.design.set_edges.Goals as goal

pub loop-edge-preserved : goal.loop-edge-preserved
loop-edge-preserved c =
    let l = c.loop-edge in
    let none : Edge = (record { 0 = 0 }, record { 0 = 0 }) in
    record {
      are = c.set_edge.ensures.are;
      adds =
          more_of (IsEdgeOne c.args.fabric.now) c.args.edges.now l.edge-index (get_or c.args.edges.now l.edge-index none) (plain_bits c.args.bits.now) (plain_bits l.bits) (plain_bits c.set_edge.new.bits)
          (at_default c.args.edges.now l.edge-index none c.loop-edge-test.true) l.invariant.adds c.set_edge.ensures.adds;
    }
