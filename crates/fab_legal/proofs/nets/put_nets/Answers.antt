use Rattle.std.proofs.Common.{◌≡◌, List, get_or, refl, sym, ap, ◌∙◌, subst}
use Rattle.std.proofs.lemmas.Bool.{false≢true}
use Rattle.fab_implementation.specs.fab_netlist.specs.Plain.{IsAt}
use Rattle.fab_implementation.specs.Plain.{Edge, PlainTree, PlainImplementation}
use Rattle.fab_legal.specs.Nets.{net_of}
use Rattle.fab_legal.specs.Broken.{IsNetItem, net_text}
use Rattle.fab_legal.specs.inner.Roots.{IsNewNet, packed_id}
use Rattle.fab_legal.proofs.Lists.{at_read}
use Rattle.fab_legal.proofs.Cells.{breaks_by}
use Rattle.fab_legal.proofs.SinkLists.{have_kinds}
use Rattle.fab_legal.proofs.NetSteps.{name_item, start_item, nets_more, numbers_more}
use Rattle.fab_legal.proofs.nets.put_nets.Goals as goal

pub wrong_tree-requires-clause-luts : goal.wrong_tree-requires-clause-luts
wrong_tree-requires-clause-luts c =
    (have_kinds c.args.fabric.now c.args._packed.now c.args.implementation.now c.args.placed.now c.requires.kept c.requires.sites.cells c.requires.sites.ports).luts

pub wrong_tree-requires-clause-pads : goal.wrong_tree-requires-clause-pads
wrong_tree-requires-clause-pads c =
    (have_kinds c.args.fabric.now c.args._packed.now c.args.implementation.now c.args.placed.now c.requires.kept c.requires.sites.cells c.requires.sites.ports).in_pads

pub returns-then-not-is_new-clause-err : goal.returns-then-not-is_new-clause-err
returns-then-not-is_new-clause-err c =
    let f = c.args.fabric.now in
    let p = c.args._packed.now in
    let i = c.args.implementation.now in
    let placed = c.args.placed.now in
    let n = c.loop-tree.tree-index in
    let tree : PlainTree = c.tree-item.result in
    let trees_are : c.deref-tree-items.result.now ≡ i.trees = c.deref-tree-items.ensures.value ∙ ap (λ (m : PlainImplementation). m.trees) c.implementation.view_is in
    let at = subst (λ (ts : List PlainTree). IsAt ts n tree) trees_are (at_read c.deref-tree-items.result.now n tree c.loop-tree-test.true c.tree-item.is) in
    let id_is : c.packed_id-net.result ≡ packed_id placed.ins.lines.items tree.net = c.packed_id-net.ensures ∙ ap (λ (t : PlainTree). packed_id placed.ins.lines.items t.net) c.tree.view_is in
    breaks_by 7 (IsNetItem f p i) c.broken_by.result c.in_ok-net_text.field-0 (net_text (net_of i tree.net)) c.broken_by.ensures
    (c.in_ok-net_text.ensures ∙ ap (λ (t : PlainTree). net_text (net_of i t.net)) c.tree.view_is)
    (name_item f p i placed c.requires.made c.requires.kept c.requires.sites c.requires.lines n tree at c.loop-tree.numbers.keys c.loop-tree.invariant.numbers c.loop-tree.invariant.right
    (λ new. false≢true (sym c.if-not-is_new.true ∙ c.is_new.ensures.1 (subst (λ d. IsNewNet placed c.loop-tree.numbers.keys d) (sym id_is) new))))

pub returns-in-Some-clause-err : goal.returns-in-Some-clause-err
returns-in-Some-clause-err c =
    let f = c.args.fabric.now in
    let p = c.args._packed.now in
    let i = c.args.implementation.now in
    let placed = c.args.placed.now in
    let n = c.loop-tree.tree-index in
    let tree : PlainTree = c.tree-item.result in
    let trees_are : c.deref-tree-items.result.now ≡ i.trees = c.deref-tree-items.ensures.value ∙ ap (λ (m : PlainImplementation). m.trees) c.implementation.view_is in
    let at = subst (λ (ts : List PlainTree). IsAt ts n tree) trees_are (at_read c.deref-tree-items.result.now n tree c.loop-tree-test.true c.tree-item.is) in
    let id_is : c.packed_id-net.result ≡ packed_id placed.ins.lines.items tree.net = c.packed_id-net.ensures ∙ ap (λ (t : PlainTree). packed_id placed.ins.lines.items t.net) c.tree.view_is in
    let edges_are : c.deref.result.now ≡ tree.edges = c.deref.ensures.value ∙ ap (λ (t : PlainTree). t.edges) c.tree.view_is in
    let edge : Edge = c.index.result.now in
    let read : edge ≡ get_or tree.edges c.in-Some.place edge = c.index.ensures ∙ ap (λ (t : PlainTree). get_or t.edges c.in-Some.place edge) c.tree.view_is in
    breaks_by 7 (IsNetItem f p i) c.broken_by-in-Some.result c.in_ok-wire_text.field-0 c.in_ok-wire_text.field-0 c.broken_by-in-Some.ensures refl
    (start_item f p i placed c.requires.made c.requires.kept c.requires.sites c.requires.lines n tree at c.loop-tree.numbers.keys c.loop-tree.invariant.numbers c.loop-tree.invariant.right
    c.packed_id-net.result c.deref.result.now c.in_ok-place.field-0 id_is edges_are c.in_ok-place.ensures (c.is_new.ensures.0 c.if-not-is_new.false)
    c.in-Some.place edge c.in_ok-wire_text.field-0 c.in-Some.is read c.in_ok-wire_text.ensures)

pub loop-tree-preserved : goal.loop-tree-preserved
loop-tree-preserved c =
    let f = c.args.fabric.now in
    let p = c.args._packed.now in
    let i = c.args.implementation.now in
    let placed = c.args.placed.now in
    let n = c.loop-tree.tree-index in
    let tree : PlainTree = c.tree-item.result in
    let trees_are : c.deref-tree-items.result.now ≡ i.trees = c.deref-tree-items.ensures.value ∙ ap (λ (m : PlainImplementation). m.trees) c.implementation.view_is in
    let at = subst (λ (ts : List PlainTree). IsAt ts n tree) trees_are (at_read c.deref-tree-items.result.now n tree c.loop-tree-test.true c.tree-item.is) in
    let id_is : c.packed_id-net.result ≡ packed_id placed.ins.lines.items tree.net = c.packed_id-net.ensures ∙ ap (λ (t : PlainTree). packed_id placed.ins.lines.items t.net) c.tree.view_is in
    let edges_are : c.deref.result.now ≡ tree.edges = c.deref.ensures.value ∙ ap (λ (t : PlainTree). t.edges) c.tree.view_is in
    record {
      numbers = numbers_more f p i placed c.requires.made c.requires.kept c.requires.sites c.requires.lines n tree at c.loop-tree.numbers.keys c.loop-tree.invariant.numbers c.loop-tree.invariant.right
          c.packed_id-net.result c.deref.result.now c.in_ok-place.field-0 id_is edges_are c.in_ok-place.ensures (c.is_new.ensures.0 c.if-not-is_new.false)
          c.net_number.result c.add.new.numbers.keys c.net_number.ensures c.in_ok-add.ensures;
      right = nets_more f p i placed c.requires.made c.requires.kept c.requires.sites c.requires.lines n tree at c.loop-tree.numbers.keys c.loop-tree.invariant.numbers c.loop-tree.invariant.right
          c.packed_id-net.result c.deref.result.now c.in_ok-place.field-0 id_is edges_are c.in_ok-place.ensures (c.is_new.ensures.0 c.if-not-is_new.false) c.in_default.not-Some;
    }
