use Rattle.std.proofs.Common.{◌≡◌, ◌∙◌, ap, subst, IfOk, List, ℕ}
use Rattle.fab_blif.specs.Flat.{PlainNet, net_in}
use Rattle.fab_blif.specs.Design.{number_in}
use Rattle.fab_blif.specs.inner.Walk.{plain_nets}
use Rattle.fab_blif.proofs.design.number_name.Goals as goal

pub returns-clause-number : goal.returns-clause-number
returns-clause-number c =
    subst (λ (net : PlainNet). IfOk c.number_of.result (λ number. number ≡ number_in (plain_nets c.args.nets.now.keys) net))
    (c.in_ok-net.ensures ∙ ap (λ (name : List ℕ). net_in c.args.copy.now name) c.bytes.ensures)
    c.number_of.ensures.number
