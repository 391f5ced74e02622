use Rattle.std.proofs.Common.{◌≡◌, ◌+◌, ℕ, List, length, map, sym, ap, ◌∙◌, subst}
use Rattle.fab_systems_laws.specs.Ternary.{Tern as PlainTern}
use Rattle.fab_ternary.specs.declared.Tern.{Tern}
use Rattle.fab_ternary.specs.Terns.{plain_tern}
use Rattle.fab_compiled.specs.Terns.{seen}
use Rattle.fab_compiled.specs.Trees.{tree_width}
use Rattle.fab_nodes.specs.Nodes.{AreNodes, IsLaidOut}
use Rattle.fab_nodes.specs.inner.Operands.{handed, joined, joined_width, made_of, made_width, one, parts, two, AreWide, IsWide}
use Rattle.fab_nodes.proofs.Behind.{two_split}
use Rattle.fab_nodes.proofs.Joined.{one_under, two_under}
use Rattle.fab_nodes.proofs.Kept.{under_wide}
use Rattle.fab_nodes.proofs.Parts.{has_one, has_two, laid_form}
use Rattle.fab_nodes.proofs.filling.fill_own.Goals as goal

pub operand_into-requires-clause-nodes : goal.operand_into-requires-clause-nodes
operand_into-requires-clause-nodes c =
    let at : ℕ → PlainTern = λ place. seen c.args.view.now.terns.now c.args.view.now.leads.now (c.args.first + place) in
    let tree = c.args.tree.now in
    let operator = c.in-One.operator in
    let a = c.in-One.operand.now in
    let is : parts tree ≡ one operator a = c.operands_of.ensures ∙ ap handed c.in-One.is in
    (has_one tree operator a is).operand at (map plain_tern c.args.operands.now) c.requires.operands

pub make-requires-clause-wide : goal.make-requires-clause-wide
make-requires-clause-wide c =
    let at : ℕ → PlainTern = λ place. seen c.args.view.now.terns.now c.args.view.now.leads.now (c.args.first + place) in
    let tree = c.args.tree.now in
    let operator = c.in-One.operator in
    let a = c.in-One.operand.now in
    let is : parts tree ≡ one operator a = c.operands_of.ensures ∙ ap handed c.in-One.is in
    let facts = has_one tree operator a is in
    let wide = under_wide at a c.operand_into.new.list.items (facts.made c.requires.made) c.in_ok-operand_into-in-One.ensures in
    subst (IsWide operator) (sym (ap length c.deref-in-One.ensures.value ∙ wide)) (facts.wide c.requires.made)

pub make-requires-clause-width : goal.make-requires-clause-width
make-requires-clause-width c =
    let at : ℕ → PlainTern = λ place. seen c.args.view.now.terns.now c.args.view.now.leads.now (c.args.first + place) in
    let tree = c.args.tree.now in
    let operator = c.in-One.operator in
    let a = c.in-One.operand.now in
    let is : parts tree ≡ one operator a = c.operands_of.ensures ∙ ap handed c.in-One.is in
    let facts = has_one tree operator a is in
    let wide = under_wide at a c.operand_into.new.list.items (facts.made c.requires.made) c.in_ok-operand_into-in-One.ensures in
    c.requires.width ∙ facts.width ∙ ap (made_width operator) (sym (ap length c.deref-in-One.ensures.value ∙ wide))

pub operand_into-requires-in-Two-clause-nodes : goal.operand_into-requires-in-Two-clause-nodes
operand_into-requires-in-Two-clause-nodes c =
    let at : ℕ → PlainTern = λ place. seen c.args.view.now.terns.now c.args.view.now.leads.now (c.args.first + place) in
    let tree = c.args.tree.now in
    let operator = c.in-Two.operator in
    let a = c.in-Two.left.now in
    let b = c.in-Two.right.now in
    let is : parts tree ≡ two operator a b = c.operands_of.ensures ∙ ap handed c.in-Two.is in
    let laid = laid_form tree (two operator a b) c.args.layout.now _ is c.in-Two-layout.is c.requires.layout in
    let of_left = c.node-of_left.ensures a (subst (IsLaidOut a) (sym c.deref-in-Two.ensures) laid.1) in
    let nodes =
    two_split at a b c.args.operands.now c.node-of_left.result.room of_left.room
    ((has_two tree operator a b is).operand at (map plain_tern c.args.operands.now) c.requires.operands) in
    subst (λ (xs : List Tern). AreNodes at a (map plain_tern xs)) (sym c.split_at.ensures.front) nodes.0

pub operand_into-requires-in-Two-2-clause-nodes : goal.operand_into-requires-in-Two-2-clause-nodes
operand_into-requires-in-Two-2-clause-nodes c =
    let at : ℕ → PlainTern = λ place. seen c.args.view.now.terns.now c.args.view.now.leads.now (c.args.first + place) in
    let tree = c.args.tree.now in
    let operator = c.in-Two.operator in
    let a = c.in-Two.left.now in
    let b = c.in-Two.right.now in
    let is : parts tree ≡ two operator a b = c.operands_of.ensures ∙ ap handed c.in-Two.is in
    let laid = laid_form tree (two operator a b) c.args.layout.now _ is c.in-Two-layout.is c.requires.layout in
    let of_left = c.node-of_left.ensures a (subst (IsLaidOut a) (sym c.deref-in-Two.ensures) laid.1) in
    let nodes =
    two_split at a b c.args.operands.now c.node-of_left.result.room of_left.room
    ((has_two tree operator a b is).operand at (map plain_tern c.args.operands.now) c.requires.operands) in
    subst (λ (xs : List Tern). AreNodes at b (map plain_tern xs)) (sym c.split_at.ensures.back) nodes.1

pub join-requires-clause-wide : goal.join-requires-clause-wide
join-requires-clause-wide c =
    let at : ℕ → PlainTern = λ place. seen c.args.view.now.terns.now c.args.view.now.leads.now (c.args.first + place) in
    let tree = c.args.tree.now in
    let operator = c.in-Two.operator in
    let a = c.in-Two.left.now in
    let b = c.in-Two.right.now in
    let is : parts tree ≡ two operator a b = c.operands_of.ensures ∙ ap handed c.in-Two.is in
    let facts = has_two tree operator a b is in
    let left = c.operand_into-in-Two.new.list.items in
    let right = c.operand_into-in-Two-2.new.list.items in
    let wide : length c.deref-in-Two-3.result.now ≡ tree_width a =
    ap length c.deref-in-Two-3.ensures.value ∙ under_wide at a left (facts.made c.requires.made).0 c.in_ok-operand_into-in-Two.ensures in
    let other : length c.deref-in-Two-4.result.now ≡ tree_width b =
    ap length c.deref-in-Two-4.ensures.value ∙ under_wide at b right (facts.made c.requires.made).1 c.in_ok-operand_into-in-Two-2.ensures in
    subst (λ (n : ℕ). AreWide operator n (length c.deref-in-Two-4.result.now)) (sym wide)
    (subst (AreWide operator (tree_width a)) (sym other) (facts.wide c.requires.made))

pub join-requires-clause-width : goal.join-requires-clause-width
join-requires-clause-width c =
    let at : ℕ → PlainTern = λ place. seen c.args.view.now.terns.now c.args.view.now.leads.now (c.args.first + place) in
    let tree = c.args.tree.now in
    let operator = c.in-Two.operator in
    let a = c.in-Two.left.now in
    let b = c.in-Two.right.now in
    let is : parts tree ≡ two operator a b = c.operands_of.ensures ∙ ap handed c.in-Two.is in
    let facts = has_two tree operator a b is in
    let left = c.operand_into-in-Two.new.list.items in
    let right = c.operand_into-in-Two-2.new.list.items in
    let wide : length c.deref-in-Two-3.result.now ≡ tree_width a =
    ap length c.deref-in-Two-3.ensures.value ∙ under_wide at a left (facts.made c.requires.made).0 c.in_ok-operand_into-in-Two.ensures in
    let other : length c.deref-in-Two-4.result.now ≡ tree_width b =
    ap length c.deref-in-Two-4.ensures.value ∙ under_wide at b right (facts.made c.requires.made).1 c.in_ok-operand_into-in-Two-2.ensures in
    c.requires.width ∙ facts.width c.requires.made ∙ (λ j. joined_width operator (sym wide j) (sym other j))

pub returns-in_ok-operand_into-in-One-clause-found : goal.returns-in_ok-operand_into-in-One-clause-found
returns-in_ok-operand_into-in-One-clause-found c =
    let at : ℕ → PlainTern = λ place. seen c.args.view.now.terns.now c.args.view.now.leads.now (c.args.first + place) in
    let tree = c.args.tree.now in
    let operator = c.in-One.operator in
    let a = c.in-One.operand.now in
    let is : parts tree ≡ one operator a = c.operands_of.ensures ∙ ap handed c.in-One.is in
    one_under at tree (map plain_tern c.make.new.own) operator a (map plain_tern c.operand_into.new.list.items) is c.in_ok-operand_into-in-One.ensures
    (c.make.ensures ∙ ap (λ (xs : List Tern). made_of at operator (map plain_tern xs)) c.deref-in-One.ensures.value)

pub returns-in_ok-operand_into-in-Two-2-clause-found : goal.returns-in_ok-operand_into-in-Two-2-clause-found
returns-in_ok-operand_into-in-Two-2-clause-found c =
    let at : ℕ → PlainTern = λ place. seen c.args.view.now.terns.now c.args.view.now.leads.now (c.args.first + place) in
    let tree = c.args.tree.now in
    let operator = c.in-Two.operator in
    let a = c.in-Two.left.now in
    let b = c.in-Two.right.now in
    let is : parts tree ≡ two operator a b = c.operands_of.ensures ∙ ap handed c.in-Two.is in
    let left = c.operand_into-in-Two.new.list.items in
    let right = c.operand_into-in-Two-2.new.list.items in
    two_under at tree (map plain_tern c.join.new.own) operator a b (map plain_tern left) (map plain_tern right) is
    c.in_ok-operand_into-in-Two.ensures c.in_ok-operand_into-in-Two-2.ensures
    (c.join.ensures ∙ (λ j. joined operator (map plain_tern (c.deref-in-Two-3.ensures.value j)) (map plain_tern (c.deref-in-Two-4.ensures.value j))))
