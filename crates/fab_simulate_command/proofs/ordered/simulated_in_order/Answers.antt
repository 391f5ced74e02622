use Rattle.std.proofs.Common.{◌≡◌, length, map, ap, arith}
use Rattle.std.proofs.lemmas.Result.{IfOk-weaker}
use Rattle.fab_bits.specs.Bits.{digits}
use Rattle.fab_draws.specs.Draws.{draws_of}
use Rattle.fab_state.specs.Plain.{PlainState}
use Rattle.fab_simulate_command.proofs.Goings.{has_simulation}
use Rattle.fab_simulate_command.proofs.ordered.simulated_in_order.Goals as goal

pub new-requires : goal.new-requires
new-requires g c =
    let state = c.args.state.now in
    let words = map (digits 32) c.args.words.now in
    let lines = map (λ line. line.items) c.args.lines.now in
    let has = has_simulation c.simulations_exist.ensures c.requires.0 state c.args.machine words lines c.requires.1 in
    (c.requires.0, state, words, has.1.loaded, has.1.is_loaded, c.load.ensures.fresh c.requires.0 state c.requires.1 has.1.loaded has.1.is_loaded)

pub cycles_in_order-traced-requires : goal.cycles_in_order-traced-requires
cycles_in_order-traced-requires g c =
    let state = c.args.state.now in
    let words = map (digits 32) c.args.words.now in
    let lines = map (λ line. line.items) c.args.lines.now in
    let has = has_simulation c.simulations_exist.ensures c.requires.0 state c.args.machine words lines c.requires.1 in
    let fresh = c.load.ensures.fresh c.requires.0 state c.requires.1 has.1.loaded has.1.is_loaded in
    let begun = c.in_ok-stepper.ensures c.requires.0 state words has.1.loaded has.1.is_loaded fresh in
    let seen = ap (λ (s : PlainState). length s.outs) c.state.view_is in
    let ports : length state.outs ≡ c.len.result = omega (arith, seen, c.len.ensures, c.state.inside.outs.ok) in
    (c.requires.0, state, draws_of c.args.seed, begun.0, begun.2, c.requires.2, ports)

pub returns : goal.returns
returns g c = λ text new.
    let state = c.args.state.now in
    let words = map (digits 32) c.args.words.now in
    let lines = map (λ line. line.items) c.args.lines.now in
    let has = has_simulation c.simulations_exist.ensures text state c.args.machine words lines new in
    let begun = c.in_ok-stepper.ensures text state words has.1.loaded has.1.is_loaded (c.load.ensures.fresh text state new has.1.loaded has.1.is_loaded) in
    let seen = ap (λ (s : PlainState). length s.outs) c.state.view_is in
    let ports : length state.outs ≡ c.len.result = omega (arith, seen, c.len.ensures, c.state.inside.outs.ok) in
    IfOk-weaker c.cycles_in_order-traced.result _ _
    (λ traced gone. record {
      bits = gone.bits;
      simulates = record { start = begun.0; starts = begun.1; last = gone.last; cycles = gone.cycles };
      known_is = gone.known_is;
    }) (c.cycles_in_order-traced.ensures text state (draws_of c.args.seed) begun.0 begun.2 c.requires.2 ports)
