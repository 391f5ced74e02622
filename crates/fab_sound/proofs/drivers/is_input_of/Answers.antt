use Rattle.std.proofs.Common.{◌∙◌, sym, ap, Some, None}
use Rattle.fab_syntax.specs.Declarations.{is_input_of}
use Rattle.fab_sound.specs.inner.Checks.{known_module}
use Rattle.fab_sound.proofs.Places.{among_all, input_net}
use Rattle.fab_sound.proofs.drivers.is_input_of.Goals as goal

pub returns-in-Some : goal.returns-in-Some
returns-in-Some c =
    let below = among_all c.args.library.now c.requires c.args.of.now c.len.result c.len.result (Some (known_module c.in-Some.below.now)) c.len.ensures c.in-Some.ensures.0 in
    c.is_input.ensures ∙ input_net c.in-Some.below.now.names (known_module c.in-Some.below.now) c.args.port.now c.in-Some.ensures.1
    ∙ ap (λ o. is_input_of o c.args.port.now) (sym below)

pub returns-in-None : goal.returns-in-None
returns-in-None c =
    let below = among_all c.args.library.now c.requires c.args.of.now c.len.result c.len.result None c.len.ensures c.in-None.ensures in
    ap (λ o. is_input_of o c.args.port.now) (sym below)
