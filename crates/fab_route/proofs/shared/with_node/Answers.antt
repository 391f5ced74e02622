use Rattle.std.proofs.Common.{◌≡◌, ℕ, Option, sym, ap₂, ◌∙◌, arith}
use Rattle.std.proofs.lemmas.List.{get_or_default}
use Rattle.fab_route.specs.declared.shared.Shared.{Shared}
use Rattle.fab_route.specs.inner.Owners.{no_owners, owners_at}
use Rattle.fab_route.proofs.Sharing.{not_twice, no_first, no_second, with_twice}
use Rattle.fab_route.proofs.shared.with_node.Goals as goal

pub returns-in_default : goal.returns-in_default
returns-in_default c =
    let here = c.index-here.result.now in
    not_twice c.args.fabric.now c.args.nodes.now c.args.owners.now.items c.args.node c.args.least
    (no_first c.args.fabric.now c.args.nodes.now c.args.owners.now.items c.args.node here (c.index-here.ensures ∙ get_or_default c.args.owners.now.items c.args.node c.index-here.result.now no_owners (omega (arith, c.requires.node, c.requires.long))) c.in_default.is) c.requires.least

pub returns-in_default-second : goal.returns-in_default-second
returns-in_default-second c =
    let here = c.index-here.result.now in
    not_twice c.args.fabric.now c.args.nodes.now c.args.owners.now.items c.args.node c.args.least
    (no_second c.args.fabric.now c.args.nodes.now c.args.owners.now.items c.args.node here (c.index-here.ensures ∙ get_or_default c.args.owners.now.items c.args.node c.index-here.result.now no_owners (omega (arith, c.requires.node, c.requires.long))) c.in_default-second.is) c.requires.least

pub returns : goal.returns
returns c =
    let here = c.index-here.result.now in
    let read : here ≡ owners_at c.args.owners.now.items c.args.node = c.index-here.ensures ∙ get_or_default c.args.owners.now.items c.args.node c.index-here.result.now no_owners (omega (arith, c.requires.node, c.requires.long)) in
    let found : Shared = record { wire = c.least_wire-wire.result; first = c.in-Some.first; second = c.in-Some-second.second } in
    with_twice c.args.fabric.now c.args.nodes.now c.args.owners.now.items c.args.node c.args.least found c.lesser.result
    (sym read ∙ ap₂ (λ (f s : Option ℕ). record { first = f; second = s }) c.in-Some.is c.in-Some-second.is)
    c.least_wire-wire.ensures.is c.least_wire-wire.ensures.least c.lesser.ensures.one c.lesser.ensures.low c.lesser.ensures.below c.requires.least
