use Rattle.std.proofs.Common.{rules, ◌≡◌, Bool, false, List, sym, subst, ◌∙◌, length, replicate}
use Rattle.fab_netlist.specs.Plain.{bit_at}
use Rattle.fab_netlist.specs.Meaning.{Meets}
use Rattle.fab_netlist.specs.inner.Passes.{asked, placed, start, settled}
use Rattle.fab_netlist.proofs.Meaning.{settled_meets}
use Rattle.fab_netlist.proofs.Stepping.{inputs_below, latch_outputs_below, covers_within, latch_inputs_below, order_below}
use Rattle.fab_netlist.proofs.Wired.{wired}
use Rattle.fab_netlist.proofs.cycle.step.Goals as goal

pub place-requires-clause-below : goal.place-requires-clause-below
place-requires-clause-below c = inputs_below c.args.netlist.now (wired c.is_well_made.ensures) c.deref.result.now (length c.fill.new.self) (search rules) (search rules)

pub place_held-requires-clause-below : goal.place_held-requires-clause-below
place_held-requires-clause-below c = latch_outputs_below c.args.netlist.now (wired c.is_well_made.ensures) c.deref-2.result.now (length c.place.new.values) (search rules) (search rules)

pub ask_in_turn-requires-clause-within : goal.ask_in_turn-requires-clause-within
ask_in_turn-requires-clause-within c = covers_within c.args.netlist.now c.is_well_made.ensures c.deref-3.result.now (length c.place_held.new.values) (search rules) (search rules)

pub ask_in_turn-requires-clause-places : goal.ask_in_turn-requires-clause-places
ask_in_turn-requires-clause-places c = order_below c.args.netlist.now (wired c.is_well_made.ensures) c.deref-3.result.now c.order.result.now (search rules) c.order.ensures

pub hold-requires-clause-inputs : goal.hold-requires-clause-inputs
hold-requires-clause-inputs c = latch_inputs_below c.args.netlist.now (wired c.is_well_made.ensures) c.deref-4.result.now (length c.ask_in_turn.new.values) (search rules) (search rules)

pub returns-clause-meets : goal.returns-clause-meets
returns-clause-meets c =
    let filled : c.fill.new.self ≡ replicate (length c.args.netlist.now.nets) false = search rules in
    let inputs : c.deref.result.now ≡ c.args.netlist.now.inputs = search rules in
    let latches : c.deref-2.result.now ≡ c.args.netlist.now.latches = search rules in
    let covers : c.deref-3.result.now ≡ c.args.netlist.now.covers = search rules in
    let given : c.place.new.values ≡ placed c.args.netlist.now.inputs c.args.inputs.now (replicate (length c.args.netlist.now.nets) false) = c.place.ensures ∙ cc in
    let begun : c.place_held.new.values ≡ start c.args.netlist.now c.args.inputs.now c.args.held.now = c.place_held.ensures ∙ cc in
    let done : c.ask_in_turn.new.values ≡ settled c.args.netlist.now c.order.result.now c.args.inputs.now c.args.held.now =
    c.ask_in_turn.ensures ∙ (λ j. asked (covers j) c.order.result.now (begun j)) in
    subst (λ (values : List Bool). Meets c.args.netlist.now (bit_at c.args.inputs.now) (bit_at c.args.held.now) (bit_at values)) (sym done)
    (settled_meets c.args.netlist.now (wired c.is_well_made.ensures) c.order.result.now c.order.ensures c.args.inputs.now c.args.held.now c.requires.inputs c.requires.held)
