use Rattle.std.proofs.Common.{◌≡◌, ◌+◌, ℕ, List, length, map, sym, ap, ◌∙◌, subst, arith}
use Rattle.std.proofs.lemmas.List.{with_items_is}
use Rattle.fab_systems_laws.specs.Ternary.{Tern as PlainTern}
use Rattle.fab_ternary.specs.declared.Tern.{Tern}
use Rattle.fab_ternary.specs.Terns.{plain_tern}
use Rattle.fab_compiled.specs.Terns.{seen}
use Rattle.fab_nodes.specs.Nodes.{room, AreNodes}
use Rattle.fab_nodes.proofs.values.NodeValues.renew.Goals as goal

pub renew-requires-clause-nodes : goal.renew-requires-clause-nodes
renew-requires-clause-nodes c =
    let at : ℕ → PlainTern = λ place. seen c.args.view.now.terns.now c.args.view.now.leads.now (c.args.first + place) in
    subst (λ (bits : List Tern). AreNodes at c.args.tree.now (map plain_tern bits)) (sym c.deref_mut.ensures.value) c.requires.kept.nodes

pub returns-in-Some : goal.returns-in-Some
returns-in-Some c =
    let at : ℕ → PlainTern = λ place. seen c.args.view.now.terns.now c.args.view.now.leads.now (c.args.first + place) in
    let bits = c.renew.new.bits in
    let as_long : length bits ≡ c.args.self.now.bits.len = omega (arith, c.renew.auto.bits, c.deref_mut.ensures.len) in
    let same = with_items_is c.args.self.now.bits bits as_long in
    let long : length bits ≡ room c.args.tree.now = omega (arith, c.renew.auto.bits, ap length c.deref_mut.ensures.value, c.requires.kept.long) in
    record {
      kept = record {
        layout = c.requires.kept.layout;
        long = ap length same ∙ long;
        nodes = subst (λ (xs : List Tern). AreNodes at c.args.tree.now (map plain_tern xs)) (sym same) c.renew.ensures;
      };
    }
