use Rattle.std.proofs.Common.{◌∙◌, sym, ap, ℕ, Option, option_map, option_and_then, position}
use Rattle.fab_blif.specs.declared.design.ClockName.{ClockName}
use Rattle.fab_blif.specs.Design.{PlainClock}
use Rattle.fab_blif.specs.Flat.{net_eq}
use Rattle.fab_blif.specs.inner.Walk.{plain_nets, plain_clock}
use Rattle.fab_blif.proofs.Numbers.{at_net, first_clock}
use Rattle.fab_blif.proofs.flattening.clock_number.Goals as goal

pub returns-in-Some : goal.returns-in-Some
returns-in-Some c =
    let keys = c.args.nets.now.keys in
    let place : PlainClock → Option ℕ = λ name. position (net_eq name.net) (plain_nets keys) in
    c.get_index_of.ensures.index
    ∙ at_net c.in-Some.first.now.net keys
    ∙ ap (λ (first : Option ClockName). option_and_then place (option_map plain_clock first)) c.in-Some.ensures.value
    ∙ ap (option_and_then place) (sym (first_clock c.args.clocks.now))

pub returns-in-None : goal.returns-in-None
returns-in-None c =
    let keys = c.args.nets.now.keys in
    let place : PlainClock → Option ℕ = λ name. position (net_eq name.net) (plain_nets keys) in
    ap (λ (first : Option ClockName). option_and_then place (option_map plain_clock first)) c.in-None.ensures.value
    ∙ ap (option_and_then place) (sym (first_clock c.args.clocks.now))
