use Rattle.std.proofs.Common.{◌∙◌, refl, sym, arith}
use Rattle.std.proofs.lemmas.Bool.{false≢true}
use Rattle.std.proofs.lemmas.List.Elements.{All-nil}
use Rattle.fab_implementation.specs.Plain.{Edge}
use Rattle.fab_partial.specs.Columns.{lies_within}
use Rattle.fab_partial.specs.Use.{IsUsedEdge}
use Rattle.fab_partial.proofs.Firsts.{all_done, all_more, first_at}
use Rattle.fab_partial.proofs.uses.used_wire.Goals as goal

abbrev no_edge : Edge
no_edge = (record { 0 = 0 }, record { 0 = 0 })

pub loop-edge-init : goal.loop-edge-init
loop-edge-init c = All-nil (λ (edge : Edge). IsUsedEdge c.args.fabric.now (lies_within c.args.first c.args.last) edge → ⊥)

pub returns-then-is_used : goal.returns-then-is_used
returns-then-is_used c =
    record {
      edge = _;
      wire_is = refl;
      first =
          first_at (IsUsedEdge c.args.fabric.now (lies_within c.args.first c.args.last)) c.args.edges.now c.loop-edge.edge-index no_edge c.loop-edge-test.true c.loop-edge.invariant
          (c.is_used.ensures.0 c.if-is_used.true);
    }

pub loop-edge-preserved : goal.loop-edge-preserved
loop-edge-preserved c =
    all_more (λ (edge : Edge). IsUsedEdge c.args.fabric.now (lies_within c.args.first c.args.last) edge → ⊥) c.args.edges.now c.loop-edge.edge-index no_edge c.loop-edge-test.true c.loop-edge.invariant
    (λ used. false≢true (sym c.if-is_used.false ∙ c.is_used.ensures.1 used))

pub returns : goal.returns
returns c =
    all_done (λ (edge : Edge). IsUsedEdge c.args.fabric.now (lies_within c.args.first c.args.last) edge → ⊥) c.args.edges.now c.loop-edge.edge-index (omega (arith, c.loop-edge-test.false)) c.loop-edge.invariant
