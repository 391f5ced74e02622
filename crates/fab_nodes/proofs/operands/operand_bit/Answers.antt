use Rattle.std.proofs.Common.{◌≡◌, ◌+◌, ◌<◌, ℕ, false, length, map, sym, ap, ◌∙◌, subst, take, arith}
use Rattle.fab_systems_laws.specs.Ternary.{IsBelow}
use Rattle.fab_systems_laws.specs.Ternary.{Tern as PlainTern}
use Rattle.fab_solutions_laws.specs.fab_ternary_laws_Operators.{tern_at}
use Rattle.fab_solutions_laws.proofs.Orders.{under_at}
use Rattle.fab_ternary.specs.Terns.{plain_tern}
use Rattle.fab_compiled.specs.Terns.{seen}
use Rattle.fab_compiled.specs.Trees.{tree_value, tree_width}
use Rattle.fab_nodes.specs.inner.Operands.{is_plain}
use Rattle.fab_nodes.proofs.Kept.{kept_at}
use Rattle.fab_nodes.proofs.Parts.{nodes_own, room_width}
use Rattle.fab_nodes.proofs.operands.operand_bit.Goals as goal

pub returns-in-Some : goal.returns-in-Some
returns-in-Some c =
    let at : ℕ → PlainTern = λ place. seen c.args.view.now.terns.now c.args.view.now.leads.now (c.args.first + place) in
    let tree = c.args.tree.now in
    let bits = c.args.bits.now in
    let kept : is_plain tree ≡ false = sym c.is_leaf.ensures ∙ c.if-is_leaf.false in
    let within : c.args.bit < length bits = omega (arith, room_width tree kept, c.requires.long, c.requires.within) in
    subst (λ (t : PlainTern). IsBelow t (tern_at (tree_value at tree) c.args.bit))
    (kept_at bits (tree_width tree) c.args.bit _ c.requires.within within ∙ sym (ap plain_tern c.in-Some.ensures.lookup.1))
    (under_at (take (tree_width tree) (map plain_tern bits)) (tree_value at tree) (nodes_own at tree (map plain_tern bits) kept c.requires.nodes) c.args.bit)
