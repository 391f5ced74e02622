use Rattle.std.proofs.Common.{◌≡◌, List, length, map, ap, arith, sym, subst}
use Rattle.std.proofs.lemmas.Result.{IfOk-weaker}
use Rattle.fab_bits.specs.Bits.{digits}
use Rattle.fab_state.specs.Plain.{PlainState}
use Rattle.fab_systems_laws.specs.Ternary.{Tern as PlainTern}
use Rattle.fab_sim.specs.fab_simulation_laws_Simulation.{Simulates}
use Rattle.fab_simulate_command.proofs.Goings.{goes_from_new, has_simulation}
use Rattle.fab_simulate_command.proofs.running.simulated.Goals as goal

pub cycles-traced-requires : goal.cycles-traced-requires
cycles-traced-requires g c =
    let state = c.args.state.now in
    let machine = c.args.machine in
    let lines = map (λ line. line.items) c.args.lines.now in
    let seen = ap (λ (s : PlainState). length s.outs) c.state.view_is in
    let has = has_simulation c.simulations_exist.ensures c.requires.0 state machine (map (digits 32) c.args.words.now) lines c.requires.1 in (
      c.requires.0,
      state,
      has.0,
      goes_from_new c.requires.0 state c.load.new.self (map (digits 32) c.args.words.now) lines has.0 has.1 (c.load.ensures.runs c.requires.0 state c.requires.1),
      c.requires.2,
      omega (arith, seen, c.len.ensures, c.state.inside.outs.ok),
    )

pub returns : goal.returns
returns g c = λ text new.
    let state = c.args.state.now in
    let machine = c.args.machine in
    let words = map (digits 32) c.args.words.now in
    let lines = map (λ line. line.items) c.args.lines.now in
    let has = has_simulation c.simulations_exist.ensures text state machine words lines new in
    IfOk-weaker c.cycles-traced.result _ _ (λ traced same. subst (λ (s : List (List PlainTern)). Simulates text state words lines s) (sym same) has.1)
    (c.cycles-traced.ensures text state has.0 (goes_from_new text state c.load.new.self words lines has.0 has.1 (c.load.ensures.runs text state new)))
