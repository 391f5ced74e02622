use Rattle.std.proofs.Common.{ℕ, List, ap, true}
use Rattle.fab_select.specs.declared.pair.Pair.{Pair}
use Rattle.fab_ways_laws.specs.Edges.{outputs_of, turned_pairs, wire_at, origins}
use Rattle.fab_graph.proofs.Edges.{origins_are}
use Rattle.fab_graph.proofs.Scanned.{scan_ok, scan_err, end_within}
use Rattle.fab_graph.proofs.scans.predecessors.Goals as goal

pub wire_at-requires : goal.wire_at-requires
wire_at-requires c =
    end_within c.args.fabric.now true c.spot-x.result.0 c.spot-x.result.1 c.spot-x.result.2 c.args.index c.in-Ok.input c.pairs_at.result.now c.is_well_made.ensures.are_tiles c.spot-x.ensures.number c.pairs_at.ensures c.in-Ok.ensures

pub returns-in-Ok : goal.returns-in-Ok
returns-in-Ok c =
    let outs : List ℕ = outputs_of (turned_pairs true c.pairs_at.result.now) c.spot-x.result.2 in
    scan_ok (wire_at c.args.fabric.now c.spot-x.result.0 c.spot-x.result.1) outs c.join_from-join.result (origins c.args.fabric.now c.args.wire.0) c.args.index c.in-Ok.input c.wire_at.result
    (origins_are c.args.fabric.now c.args.wire.0 c.spot-x.result.0 c.spot-x.result.1 c.spot-x.result.2 outs c.join_from-join.result c.spot-x.ensures.number c.spot-x.ensures.index
    (λ tile tile_is. ap (λ (ps : List Pair). outputs_of (turned_pairs true ps) c.spot-x.result.2) (c.pairs_at.ensures tile tile_is)) c.join_from-join.ensures.join)
    c.in-Ok.ensures c.wire_at.ensures.index

pub returns-in-Err : goal.returns-in-Err
returns-in-Err c =
    let outs : List ℕ = outputs_of (turned_pairs true c.pairs_at.result.now) c.spot-x.result.2 in
    scan_err (wire_at c.args.fabric.now c.spot-x.result.0 c.spot-x.result.1) outs c.join_from-join.result (origins c.args.fabric.now c.args.wire.0) c.args.index c.in-Err.count c.only_at.result
    (origins_are c.args.fabric.now c.args.wire.0 c.spot-x.result.0 c.spot-x.result.1 c.spot-x.result.2 outs c.join_from-join.result c.spot-x.ensures.number c.spot-x.ensures.index
    (λ tile tile_is. ap (λ (ps : List Pair). outputs_of (turned_pairs true ps) c.spot-x.result.2) (c.pairs_at.ensures tile tile_is)) c.join_from-join.ensures.join)
    c.in-Err.ensures.0 c.in-Err.ensures.1 c.only_at.ensures.same c.only_at.ensures.other
