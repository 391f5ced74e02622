use Rattle.std.proofs.Common.{◌≡◌, ℕ, sym, ap, ◌∙◌, subst, arith}
use Rattle.fab_fabric.specs.declared.wire.Wire.{Wire}
use Rattle.std.proofs.lemmas.Bool.{false≢true}
use Rattle.fab_fabric.specs.Wires.{numbered_wire}
use Rattle.fab_legal.specs.Steps.{IsConstant, bit_drive}
use Rattle.fab_route.specs.Plain.{numbering_of}
use Rattle.fab_route.proofs.Joining.{node_low}
use Rattle.fab_route.proofs.Stepped.{HaveFirst, found_more, found_less}
use Rattle.fab_route.proofs.constants.constants.Goals as goal
use Rattle.fab_route.proofs.constants.constants.Goals.{then-is_constant+in_ok-push, else-is_constant}

pub is_constant-requires : goal.is_constant-requires
is_constant-requires c = node_low c.args.fabric.now c.args.nodes.now c.requires c.loop-node.node (omega (arith, c.loop-node-test.true, c.count-node-end.ensures)) c.wire.result c.wire.ensures

pub loop-node-preserved : goal.loop-node-preserved
loop-node-preserved c =
    let P : ℕ → Type 0 = λ node. IsConstant c.args.fabric.now (bit_drive c.args.value) (numbered_wire ((numbering_of c.args.nodes.now).wire node)) in
    let own : c.wire.result ≡ numbered_wire ((numbering_of c.args.nodes.now).wire c.loop-node.node) = ap numbered_wire c.wire.ensures in
    elim c.if-is_constant.branch [
      | then-is_constant+in_ok-push w ↦ found_more P c.loop-node.node c.loop-node.found.items c.if-is_constant.found.items c.loop-node.invariant (ap (λ v. v.items) w.found-is ∙ w.in_ok-push.ensures.items)
          (subst (λ (x : Wire). IsConstant c.args.fabric.now (bit_drive c.args.value) x) own (c.is_constant.ensures.0 w.if-is_constant.true))
      | else-is_constant w ↦ found_less P c.loop-node.node c.loop-node.found.items c.if-is_constant.found.items c.loop-node.invariant (ap (λ v. v.items) w.found-is)
          (λ is. false≢true (sym w.if-is_constant.false ∙ c.is_constant.ensures.1 (subst (λ (x : Wire). IsConstant c.args.fabric.now (bit_drive c.args.value) x) (sym own) is)))
    ]

pub returns : goal.returns
returns c =
    let P : ℕ → Type 0 = λ node. IsConstant c.args.fabric.now (bit_drive c.args.value) (numbered_wire ((numbering_of c.args.nodes.now).wire node)) in
    subst (λ (n : ℕ). HaveFirst P n c.loop-node.found.items) (omega (arith, c.loop-node-test.false, c.loop-node.auto.node-end, c.count-node-end.ensures)) c.loop-node.invariant
