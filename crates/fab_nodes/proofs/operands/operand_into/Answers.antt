use Rattle.std.proofs.Common.{◌≡◌, ◌+◌, ◌++◌, ℕ, false, List, map, sym, ap, ◌∙◌, subst, take}
use Rattle.std.proofs.lemmas.List.{take-map}
use Rattle.fab_systems_laws.specs.Ternary.{Tern as PlainTern}
use Rattle.fab_solutions_laws.specs.Laws.{AreUnder}
use Rattle.fab_ternary.specs.declared.Tern.{Tern}
use Rattle.fab_ternary.specs.Terns.{plain_tern}
use Rattle.fab_compiled.specs.Terns.{seen}
use Rattle.fab_compiled.specs.Trees.{tree_value}
use Rattle.fab_compiled.proofs.Adding.{on_ok}
use Rattle.fab_nodes.specs.inner.Operands.{is_plain}
use Rattle.fab_nodes.proofs.Kept.{under_equal}
use Rattle.fab_nodes.proofs.Parts.{nodes_own}
use Rattle.fab_nodes.proofs.operands.operand_into.Goals as goal

pub returns-then-is_leaf : goal.returns-then-is_leaf
returns-then-is_leaf c = on_ok c.whole_into.result (under_equal _ _) c.whole_into.ensures

pub returns : goal.returns
returns c =
    let at : ℕ → PlainTern = λ place. seen c.args.view.now.terns.now c.args.view.now.leads.now (c.args.first + place) in
    let tree = c.args.tree.now in
    let bits = c.args.bits.now in
    let kept : is_plain tree ≡ false = sym c.is_leaf.ensures ∙ c.if-is_leaf.false in
    let written = c.in_ok-extend_from_slice.ensures.items ∙ ap (λ (xs : List Tern). xs ++ take c.args.width bits) c.clear.ensures.items in
    subst (λ (ts : List PlainTern). AreUnder ts (tree_value at tree))
    (ap (λ (n : ℕ). take n (map plain_tern bits)) (sym c.requires.width) ∙ take-map plain_tern c.args.width bits ∙ ap (map plain_tern) (sym written))
    (nodes_own at tree (map plain_tern bits) kept c.requires.nodes)
