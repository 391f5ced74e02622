use Rattle.std.proofs.Common.{◌+◌, ℕ, List, map, sym, subst}
use Rattle.fab_systems_laws.specs.Ternary.{Tern as PlainTern}
use Rattle.fab_ternary.specs.declared.Tern.{Tern}
use Rattle.fab_ternary.specs.Terns.{plain_tern}
use Rattle.fab_compiled.specs.Terns.{seen}
use Rattle.fab_nodes.specs.Nodes.{AreNodes}
use Rattle.fab_nodes.proofs.values.NodeValues.bit.Goals as goal

pub operand_bit-requires-clause-nodes : goal.operand_bit-requires-clause-nodes
operand_bit-requires-clause-nodes c =
    let at : ℕ → PlainTern = λ place. seen c.args.view.now.terns.now c.args.view.now.leads.now (c.args.first + place) in
    subst (λ (bits : List Tern). AreNodes at c.args.tree.now (map plain_tern bits)) (sym c.deref.ensures.value) c.requires.kept.nodes
