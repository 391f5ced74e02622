use Rattle.std.proofs.Common.{◌≡◌, ◌++◌, ◌∙◌, sym, ap, subst, Option, IfOk, List, ℕ}
use Rattle.fab_blif.specs.declared.net.Net.{Net}
use Rattle.fab_blif.specs.Flat.{PlainCopy, PlainNet, net_in}
use Rattle.fab_blif.specs.inner.Walk.{plain_net}
use Rattle.fab_blif.proofs.Joins.{looked_up, net_or}
use Rattle.fab_blif.proofs.model_copy.ModelCopy.net_in.Goals as goal

abbrev inner_of : PlainCopy → List ℕ → PlainNet
inner_of copy name = record { depth = copy.depth; name = copy.prefix ++ name }

pub returns-in-Some : goal.returns-in-Some
returns-in-Some c =
    let inside = c.self.inside in
    let name = c.args.name.now in
    let inner : PlainNet = record { depth = inside.depth; name = inside.prefix.now ++ name } in
    let same : net_in c.args.self.now name ≡ plain_net c.in-Some.net.now =
    ap (λ (copy : PlainCopy). net_in copy name) (sym c.self.view_is)
    ∙ looked_up inside.joins.now.entries name inner
    ∙ ap (λ (found : Option Net). net_or found inner) (sym c.in-Some.ensures.value) in
    subst (λ (n : PlainNet). IfOk c.copy_of.result (λ net. plain_net net ≡ n)) (sym same) c.copy_of.ensures

pub returns-in-None : goal.returns-in-None
returns-in-None c =
    let inside = c.self.inside in
    let name = c.args.name.now in
    let inner : PlainNet = record { depth = inside.depth; name = inside.prefix.now ++ name } in
    let same : net_in c.args.self.now name ≡ inner =
    ap (λ (copy : PlainCopy). net_in copy name) (sym c.self.view_is)
    ∙ looked_up inside.joins.now.entries name inner
    ∙ ap (λ (found : Option Net). net_or found inner) (sym c.in-None.ensures.value) in
    let named : inner_of c.args.self.now name ≡ inner = ap (λ (copy : PlainCopy). inner_of copy name) (sym c.self.view_is) in
    subst (λ (n : PlainNet). IfOk c.inner_net.result (λ net. plain_net net ≡ n)) (named ∙ sym same) c.inner_net.ensures
