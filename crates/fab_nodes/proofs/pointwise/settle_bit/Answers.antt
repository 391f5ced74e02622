use Rattle.std.proofs.Common.{ℕ, ◌+◌, arith}
use Rattle.fab_systems_laws.specs.Ternary.{Tern as PlainTern}
use Rattle.fab_compiled.specs.Terns.{seen}
use Rattle.fab_compiled.specs.Evaluation.{value_seen}
use Rattle.fab_nodes.proofs.Kept.{under_wide}
use Rattle.fab_nodes.proofs.Walking.{under_set}
use Rattle.fab_nodes.proofs.pointwise.settle_bit.Goals as goal

pub own_bit-found-requires-clause-within : goal.own_bit-found-requires-clause-within
own_bit-found-requires-clause-within c =
    let terns = c.args.point.now.view.terns.now in
    let leads = c.args.point.now.view.leads.now in
    let first = c.args.point.now.first in
    let at : ℕ → PlainTern = λ place. seen terns leads (first + place) in
    let wide = under_wide at c.args.tree.now c.args.own.now c.requires.read.made c.requires.own in
    omega (arith, wide)

pub returns : goal.returns
returns c =
    let value = value_seen c.args.point.now.view.terns.now c.args.point.now.view.leads.now c.args.point.now.first c.args.tree.now in
    under_set c.args.own.now c.args.number c.own_bit-found.result value c.requires.own c.own_bit-found.ensures
