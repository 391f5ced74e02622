use Rattle.std.proofs.Common.{◌≡◌, ◌+◌, ℕ, List, length, map, take, drop, sym, ap, ◌∙◌, subst, arith}
use Rattle.std.proofs.lemmas.List.{length-map}
use Rattle.fab_systems_laws.specs.Ternary.{Tern as PlainTern}
use Rattle.fab_solutions_laws.specs.fab_ternary_laws_Operators.{agreed, each_tern}
use Rattle.fab_ternary.specs.declared.Tern.{Tern}
use Rattle.fab_ternary.specs.Terns.{plain_tern}
use Rattle.fab_compiled.specs.Terns.{seen}
use Rattle.fab_nodes.specs.Nodes.{AreNodes, IsLaidOut}
use Rattle.fab_nodes.specs.inner.Operands.{handed, parts, three}
use Rattle.fab_nodes.proofs.Behind.{three_split}
use Rattle.fab_nodes.proofs.Joined.{three_under}
use Rattle.fab_nodes.proofs.Kept.{under_wide}
use Rattle.fab_nodes.proofs.Parts.{has_three, laid_form}
use Rattle.fab_nodes.proofs.filling.fill_branches.Goals as goal

pub operand_bit-requires-clause-nodes : goal.operand_bit-requires-clause-nodes
operand_bit-requires-clause-nodes c =
    let at : ℕ → PlainTern = λ place. seen c.args.view.now.terns.now c.args.view.now.leads.now (c.args.first + place) in
    let tree = c.args.tree.now in
    let test = c.in-Three.test.now in
    let a = c.in-Three.yes.now in
    let b = c.in-Three.no.now in
    let is : parts tree ≡ three test a b = c.operands_of.ensures ∙ ap handed c.in-Three.is in
    let laid = laid_form tree (three test a b) c.args.layout.now _ is c.in-Three-layout.is c.requires.layout in
    let of_test = c.node.ensures test (subst (IsLaidOut test) (sym c.deref-3.ensures) laid.1) in
    let of_yes = c.node-of_yes.ensures a (subst (IsLaidOut a) (sym c.deref.ensures) laid.2) in
    let nodes =
    three_split at test a b c.args.operands.now c.node.result.room c.node-of_yes.result.room of_test.room of_yes.room
    ((has_three tree test a b is).operand at (map plain_tern c.args.operands.now) c.requires.operands) in
    subst (λ (xs : List Tern). AreNodes at test (map plain_tern xs)) (sym c.split_at.ensures.front) nodes.0

pub operand_into-requires-clause-nodes : goal.operand_into-requires-clause-nodes
operand_into-requires-clause-nodes c =
    let at : ℕ → PlainTern = λ place. seen c.args.view.now.terns.now c.args.view.now.leads.now (c.args.first + place) in
    let tree = c.args.tree.now in
    let test = c.in-Three.test.now in
    let a = c.in-Three.yes.now in
    let b = c.in-Three.no.now in
    let is : parts tree ≡ three test a b = c.operands_of.ensures ∙ ap handed c.in-Three.is in
    let laid = laid_form tree (three test a b) c.args.layout.now _ is c.in-Three-layout.is c.requires.layout in
    let of_test = c.node.ensures test (subst (IsLaidOut test) (sym c.deref-3.ensures) laid.1) in
    let of_yes = c.node-of_yes.ensures a (subst (IsLaidOut a) (sym c.deref.ensures) laid.2) in
    let nodes =
    three_split at test a b c.args.operands.now c.node.result.room c.node-of_yes.result.room of_test.room of_yes.room
    ((has_three tree test a b is).operand at (map plain_tern c.args.operands.now) c.requires.operands) in
    subst (λ (xs : List Tern). AreNodes at a (map plain_tern xs)) (sym (c.split_at-2.ensures.front ∙ ap (take c.node-of_yes.result.room) c.split_at.ensures.back)) nodes.1

pub operand_into-requires-in-No-clause-nodes : goal.operand_into-requires-in-No-clause-nodes
operand_into-requires-in-No-clause-nodes c =
    let at : ℕ → PlainTern = λ place. seen c.args.view.now.terns.now c.args.view.now.leads.now (c.args.first + place) in
    let tree = c.args.tree.now in
    let test = c.in-Three.test.now in
    let a = c.in-Three.yes.now in
    let b = c.in-Three.no.now in
    let is : parts tree ≡ three test a b = c.operands_of.ensures ∙ ap handed c.in-Three.is in
    let laid = laid_form tree (three test a b) c.args.layout.now _ is c.in-Three-layout.is c.requires.layout in
    let of_test = c.node.ensures test (subst (IsLaidOut test) (sym c.deref-3.ensures) laid.1) in
    let of_yes = c.node-of_yes.ensures a (subst (IsLaidOut a) (sym c.deref.ensures) laid.2) in
    let nodes =
    three_split at test a b c.args.operands.now c.node.result.room c.node-of_yes.result.room of_test.room of_yes.room
    ((has_three tree test a b is).operand at (map plain_tern c.args.operands.now) c.requires.operands) in
    subst (λ (xs : List Tern). AreNodes at b (map plain_tern xs)) (sym (c.split_at-2.ensures.back ∙ ap (drop c.node-of_yes.result.room) c.split_at.ensures.back)) nodes.2

pub operand_into-requires-in-Open-clause-nodes : goal.operand_into-requires-in-Open-clause-nodes
operand_into-requires-in-Open-clause-nodes c =
    let at : ℕ → PlainTern = λ place. seen c.args.view.now.terns.now c.args.view.now.leads.now (c.args.first + place) in
    let tree = c.args.tree.now in
    let test = c.in-Three.test.now in
    let a = c.in-Three.yes.now in
    let b = c.in-Three.no.now in
    let is : parts tree ≡ three test a b = c.operands_of.ensures ∙ ap handed c.in-Three.is in
    let laid = laid_form tree (three test a b) c.args.layout.now _ is c.in-Three-layout.is c.requires.layout in
    let of_test = c.node.ensures test (subst (IsLaidOut test) (sym c.deref-3.ensures) laid.1) in
    let of_yes = c.node-of_yes.ensures a (subst (IsLaidOut a) (sym c.deref.ensures) laid.2) in
    let nodes =
    three_split at test a b c.args.operands.now c.node.result.room c.node-of_yes.result.room of_test.room of_yes.room
    ((has_three tree test a b is).operand at (map plain_tern c.args.operands.now) c.requires.operands) in
    subst (λ (xs : List Tern). AreNodes at a (map plain_tern xs)) (sym (c.split_at-2.ensures.front ∙ ap (take c.node-of_yes.result.room) c.split_at.ensures.back)) nodes.1

pub operand_into-requires-in-Open-2-clause-nodes : goal.operand_into-requires-in-Open-2-clause-nodes
operand_into-requires-in-Open-2-clause-nodes c =
    let at : ℕ → PlainTern = λ place. seen c.args.view.now.terns.now c.args.view.now.leads.now (c.args.first + place) in
    let tree = c.args.tree.now in
    let test = c.in-Three.test.now in
    let a = c.in-Three.yes.now in
    let b = c.in-Three.no.now in
    let is : parts tree ≡ three test a b = c.operands_of.ensures ∙ ap handed c.in-Three.is in
    let laid = laid_form tree (three test a b) c.args.layout.now _ is c.in-Three-layout.is c.requires.layout in
    let of_test = c.node.ensures test (subst (IsLaidOut test) (sym c.deref-3.ensures) laid.1) in
    let of_yes = c.node-of_yes.ensures a (subst (IsLaidOut a) (sym c.deref.ensures) laid.2) in
    let nodes =
    three_split at test a b c.args.operands.now c.node.result.room c.node-of_yes.result.room of_test.room of_yes.room
    ((has_three tree test a b is).operand at (map plain_tern c.args.operands.now) c.requires.operands) in
    subst (λ (xs : List Tern). AreNodes at b (map plain_tern xs)) (sym (c.split_at-2.ensures.back ∙ ap (drop c.node-of_yes.result.room) c.split_at.ensures.back)) nodes.2

pub copy_from_slice-requires : goal.copy_from_slice-requires
copy_from_slice-requires c =
    let at : ℕ → PlainTern = λ place. seen c.args.view.now.terns.now c.args.view.now.leads.now (c.args.first + place) in
    let tree = c.args.tree.now in
    let test = c.in-Three.test.now in
    let a = c.in-Three.yes.now in
    let b = c.in-Three.no.now in
    let is : parts tree ≡ three test a b = c.operands_of.ensures ∙ ap handed c.in-Three.is in
    let facts = has_three tree test a b is in
    let wide = under_wide at a c.operand_into.new.list.items (facts.made c.requires.made).1 c.in_ok-operand_into-in-Yes.ensures in
    omega (arith, c.requires.width, facts.width, wide, ap length c.deref-in-Yes.ensures.value)

pub copy_from_slice-requires-in-No : goal.copy_from_slice-requires-in-No
copy_from_slice-requires-in-No c =
    let at : ℕ → PlainTern = λ place. seen c.args.view.now.terns.now c.args.view.now.leads.now (c.args.first + place) in
    let tree = c.args.tree.now in
    let test = c.in-Three.test.now in
    let a = c.in-Three.yes.now in
    let b = c.in-Three.no.now in
    let is : parts tree ≡ three test a b = c.operands_of.ensures ∙ ap handed c.in-Three.is in
    let facts = has_three tree test a b is in
    let wide = under_wide at b c.operand_into-in-No.new.list.items (facts.made c.requires.made).2 c.in_ok-operand_into-in-No.ensures in
    omega (arith, c.requires.width, facts.width, (facts.wide c.requires.made).1, wide, ap length c.deref-in-No.ensures.value)

pub copy_from_slice-requires-in-Open : goal.copy_from_slice-requires-in-Open
copy_from_slice-requires-in-Open c =
    let at : ℕ → PlainTern = λ place. seen c.args.view.now.terns.now c.args.view.now.leads.now (c.args.first + place) in
    let tree = c.args.tree.now in
    let test = c.in-Three.test.now in
    let a = c.in-Three.yes.now in
    let b = c.in-Three.no.now in
    let is : parts tree ≡ three test a b = c.operands_of.ensures ∙ ap handed c.in-Three.is in
    let facts = has_three tree test a b is in
    let wide = under_wide at a c.operand_into-in-Open.new.list.items (facts.made c.requires.made).1 c.in_ok-operand_into-in-Open.ensures in
    omega (arith, c.requires.width, facts.width, wide, ap length c.deref-in-Open.ensures.value)

pub pair_up-requires : goal.pair_up-requires
pair_up-requires c =
    let at : ℕ → PlainTern = λ place. seen c.args.view.now.terns.now c.args.view.now.leads.now (c.args.first + place) in
    let tree = c.args.tree.now in
    let test = c.in-Three.test.now in
    let a = c.in-Three.yes.now in
    let b = c.in-Three.no.now in
    let is : parts tree ≡ three test a b = c.operands_of.ensures ∙ ap handed c.in-Three.is in
    let facts = has_three tree test a b is in
    let wide = under_wide at a c.operand_into-in-Open.new.list.items (facts.made c.requires.made).1 c.in_ok-operand_into-in-Open.ensures in
    let other = under_wide at b c.operand_into-in-Open-2.new.list.items (facts.made c.requires.made).2 c.in_ok-operand_into-in-Open-2.ensures in
    let same : length c.operand_into-in-Open.new.list.items ≡ length c.operand_into-in-Open-2.new.list.items = wide ∙ (facts.wide c.requires.made).1 ∙ sym other in
    ap length (c.copy_from_slice-in-Open.ensures.after ∙ c.deref-in-Open.ensures.value) ∙ same ∙ sym (ap length c.deref-in-Open-2.ensures.value)

pub returns-in_ok-operand_into-in-Open-2-clause-found : goal.returns-in_ok-operand_into-in-Open-2-clause-found
returns-in_ok-operand_into-in-Open-2-clause-found c =
    let at : ℕ → PlainTern = λ place. seen c.args.view.now.terns.now c.args.view.now.leads.now (c.args.first + place) in
    let tree = c.args.tree.now in
    let test = c.in-Three.test.now in
    let a = c.in-Three.yes.now in
    let b = c.in-Three.no.now in
    let is : parts tree ≡ three test a b = c.operands_of.ensures ∙ ap handed c.in-Three.is in
    let facts = has_three tree test a b is in
    let wide = under_wide at a c.operand_into-in-Open.new.list.items (facts.made c.requires.made).1 c.in_ok-operand_into-in-Open.ensures in
    let other = under_wide at b c.operand_into-in-Open-2.new.list.items (facts.made c.requires.made).2 c.in_ok-operand_into-in-Open-2.ensures in
    let same : length c.operand_into-in-Open.new.list.items ≡ length c.operand_into-in-Open-2.new.list.items = wide ∙ (facts.wide c.requires.made).1 ∙ sym other in
    let ts = map plain_tern c.operand_into-in-Open.new.list.items in
    let us = map plain_tern c.operand_into-in-Open-2.new.list.items in
    three_under at tree (map plain_tern c.pair_up.new.left) test a b ts us is (length-map _ plain_tern ∙ same ∙ sym (length-map _ plain_tern))
    c.in_ok-operand_into-in-Open.ensures c.in_ok-operand_into-in-Open-2.ensures
    (c.pair_up.ensures ∙ (λ j. each_tern agreed (map plain_tern ((c.copy_from_slice-in-Open.ensures.after ∙ c.deref-in-Open.ensures.value) j)) (map plain_tern (c.deref-in-Open-2.ensures.value j))))
