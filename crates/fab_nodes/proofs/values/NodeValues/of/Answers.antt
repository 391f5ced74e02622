use Rattle.std.proofs.Common.{◌≡◌, ◌+◌, ℕ, List, length, map, sym, ap, ◌∙◌, subst, arith}
use Rattle.std.proofs.lemmas.List.{with_items_is}
use Rattle.fab_systems_laws.specs.Ternary.{Tern as PlainTern}
use Rattle.fab_ternary.specs.declared.Tern.{Tern}
use Rattle.fab_ternary.specs.Terns.{plain_tern}
use Rattle.fab_compiled.specs.Terns.{seen}
use Rattle.fab_nodes.specs.Nodes.{AreNodes, IsLaidOut}
use Rattle.fab_nodes.proofs.values.NodeValues.of.Goals as goal

pub returns : goal.returns
returns c =
    let at : ℕ → PlainTern = λ place. seen c.args.view.now.terns.now c.args.view.now.leads.now (c.args.first + place) in
    let tree = c.args.tree.now in
    let bits = c.fill.new.bits in
    let node = c.node-node.ensures tree (subst (IsLaidOut tree) (sym c.deref.ensures) c.in_ok-layout.ensures) in
    let as_long : length bits ≡ c.in_ok-bits.bits.len = omega (arith, c.fill.auto.bits, c.deref_mut.ensures.len) in
    let same = with_items_is c.in_ok-bits.bits bits as_long in
    record {
      layout = c.in_ok-layout.ensures;
      long = ap length same ∙ as_long ∙ c.in_ok-bits.ensures.len ∙ node.room;
      nodes = subst (λ (xs : List Tern). AreNodes at tree (map plain_tern xs)) (sym same) c.in_ok-fill.ensures;
    }
