use Rattle.std.proofs.Common.{◌≡◌, ◌+◌, ◌++◌, ℕ, false, List, length, map, sym, ap, ◌∙◌, subst, arith}
use Rattle.fab_systems_laws.specs.Ternary.{Tern as PlainTern}
use Rattle.fab_solutions_laws.specs.Laws.{AreUnder}
use Rattle.fab_ternary.specs.Terns.{plain_tern}
use Rattle.fab_compiled.specs.Terns.{seen}
use Rattle.fab_compiled.specs.Trees.{tree_value, tree_width}
use Rattle.fab_compiled.proofs.Adding.{on_ok}
use Rattle.fab_nodes.specs.Nodes.{room, AreNodes, AreOperands, IsLaidOut, IsNodeOf}
use Rattle.fab_nodes.specs.inner.Operands.{handed, is_plain, one, parts, three, two}
use Rattle.fab_nodes.proofs.Behind.{behind_plain, front_plain, three_behind, two_behind}
use Rattle.fab_nodes.proofs.Parts.{has_one, has_three, has_two, laid_as, nodes_from, IsLaid}
use Rattle.fab_nodes.proofs.filling.+filling.Goals as goal

pub fill_operands-returns-in-One-layout : goal.fill_operands-returns-in-One-layout
fill_operands-returns-in-One-layout t c =
    let at : ℕ → PlainTern = λ place. seen c.args.view.now.terns.now c.args.view.now.leads.now (c.args.first + place) in
    let tree = c.args.tree.now in
    let a = c.in-One.operand.now in
    let is : parts tree ≡ one c.in-One.field-0 a = c.operands_of.ensures ∙ ap handed c.in-One.is in
    on_ok c.fill.result ((has_one tree c.in-One.field-0 a is).operands at (map plain_tern c.fill.new.bits)) c.fill.ensures

pub fill_operands-returns-in_ok-fill-in-Two : goal.fill_operands-returns-in_ok-fill-in-Two
fill_operands-returns-in_ok-fill-in-Two t c =
    let at : ℕ → PlainTern = λ place. seen c.args.view.now.terns.now c.args.view.now.leads.now (c.args.first + place) in
    let tree = c.args.tree.now in
    let a = c.in-Two.left.now in
    let b = c.in-Two.right.now in
    let operator = c.in-Two.field-0 in
    let xs = c.fill-in-Two.new.bits in
    let ys = c.fill-in-Two-2.new.bits in
    let is : parts tree ≡ two operator a b = c.operands_of.ensures ∙ ap handed c.in-Two.is in
    let laid : IsNodeOf tree c.in-Two-layout.field-0 × IsLaidOut a c.in-Two-layout.of_left.value × IsLaidOut b c.in-Two-layout.of_right.value =
    subst (IsLaid tree (two operator a b)) c.in-Two-layout.is (laid_as tree (two operator a b) c.args.layout.now is c.requires.layout) in
    let node = c.node.ensures a (subst (IsLaidOut a) (sym c.deref-in-Two.ensures) laid.1) in
    let long : length xs ≡ room a = omega (arith, c.fill-in-Two.auto.bits, c.split_at_mut-left_bits.ensures.front_len, node.room) in
    on_ok c.fill-in-Two-2.result
    (λ (h : AreNodes at b (map plain_tern ys)). (has_two tree operator a b is).operands at _ (two_behind at a b xs ys long c.in_ok-fill-in-Two.ensures h))
    c.fill-in-Two-2.ensures

pub fill_operands-returns-in_ok-fill-in-Three-2 : goal.fill_operands-returns-in_ok-fill-in-Three-2
fill_operands-returns-in_ok-fill-in-Three-2 t c =
    let at : ℕ → PlainTern = λ place. seen c.args.view.now.terns.now c.args.view.now.leads.now (c.args.first + place) in
    let tree = c.args.tree.now in
    let test = c.in-Three.test.now in
    let a = c.in-Three.yes.now in
    let b = c.in-Three.no.now in
    let xs = c.fill-in-Three.new.bits in
    let ys = c.fill-in-Three-2.new.bits in
    let zs = c.fill-in-Three-3.new.bits in
    let is : parts tree ≡ three test a b = c.operands_of.ensures ∙ ap handed c.in-Three.is in
    let laid : IsNodeOf tree c.in-Three-layout.field-0 × IsLaidOut test c.in-Three-layout.of_test.value × IsLaidOut a c.in-Three-layout.of_yes.value
    × IsLaidOut b c.in-Three-layout.of_no.value =
    subst (IsLaid tree (three test a b)) c.in-Three-layout.is (laid_as tree (three test a b) c.args.layout.now is c.requires.layout) in
    let of_test = c.node-in-Three.ensures test (subst (IsLaidOut test) (sym c.deref-in-Three.ensures) laid.1) in
    let of_yes = c.node-in-Three-2.ensures a (subst (IsLaidOut a) (sym c.deref-in-Three-2.ensures) laid.2) in
    let long : length xs ≡ room test = omega (arith, c.fill-in-Three.auto.bits, c.split_at_mut-test_bits.ensures.front_len, of_test.room) in
    let other : length ys ≡ room a = omega (arith, c.fill-in-Three-2.auto.bits, c.split_at_mut-yes_bits.ensures.front_len, of_yes.room) in
    on_ok c.fill-in-Three-3.result
    (λ (h : AreNodes at b (map plain_tern zs)).
    (has_three tree test a b is).operands at _ (three_behind at test a b xs ys zs long other c.in_ok-fill-in-Three.ensures c.in_ok-fill-in-Three-2.ensures h))
    c.fill-in-Three-3.ensures

pub fill-returns : goal.fill-returns
fill-returns t c =
    let at : ℕ → PlainTern = λ place. seen c.args.view.now.terns.now c.args.view.now.leads.now (c.args.first + place) in
    let tree = c.args.tree.now in
    let own = c.fill_own.new.own in
    let rest = c.fill_operands.new.bits in
    let kept : is_plain tree ≡ false = sym c.is_leaf.ensures ∙ c.if-is_leaf.false in
    let node = c.node.ensures tree c.requires.layout in
    let long : length own ≡ tree_width tree = omega (arith, c.fill_own.auto.own, c.split_at_mut-own.ensures.front_len, node.width) in
    on_ok c.fill_own.result
    (λ (h : AreUnder (map plain_tern own) (tree_value at tree)). nodes_from at tree (map plain_tern (own ++ rest)) kept
    (subst (λ (ts : List PlainTern). AreUnder ts (tree_value at tree)) (front_plain (tree_width tree) own rest long) h)
    (subst (AreOperands at tree) (behind_plain (tree_width tree) own rest long) c.in_ok-fill_operands.ensures))
    c.fill_own.ensures.found
