use Rattle.std.proofs.Common.{◌≡◌, ◌<◌, ◌^◌, ◌∙◌, All, List, ℕ, sym, ap, subst, rules}
use Rattle.fab_netlist.specs.declared.netlist.Latch.{Latch}
use Rattle.fab_netlist.specs.Wide.{PlainWideCover}
use Rattle.fab_blif.specs.Design.{PlainDesign, clock_number, data_inputs, wide_of}
use Rattle.fab_blif.proofs.Small.{small_covers, small_inputs, small_latches, small_outputs}
use Rattle.fab_blif.proofs.flattening.netlist_of.Goals as goal

pub netlist_numbers-requires : goal.netlist_numbers-requires
netlist_numbers-requires c =
    let netlist = wide_of c.args.design.now in
    let same : c.deref-3.result.now ≡ netlist.inputs = search rules in
    subst (λ (nets : List ℕ). All (λ (net : ℕ). net < 2 ^ 32) nets) (sym same) (small_inputs netlist c.requires)

pub netlist_numbers-requires-2 : goal.netlist_numbers-requires-2
netlist_numbers-requires-2 c =
    let netlist = wide_of c.args.design.now in
    let same : c.deref-5.result.now ≡ netlist.outputs = search rules in
    subst (λ (nets : List ℕ). All (λ (net : ℕ). net < 2 ^ 32) nets) (sym same) (small_outputs netlist c.requires)

pub netlist_covers-requires : goal.netlist_covers-requires
netlist_covers-requires c =
    let netlist = wide_of c.args.design.now in
    let same = c.deref-6.ensures.value ∙ ap (λ (design : PlainDesign). design.covers) c.design.view_is in
    subst (λ (covers : List PlainWideCover). All (λ (cover : PlainWideCover). All (λ (net : ℕ). net < 2 ^ 32) cover.inputs × (cover.output < 2 ^ 32)) covers) (sym same)
    (small_covers netlist c.requires)

pub netlist_latches-requires : goal.netlist_latches-requires
netlist_latches-requires c =
    let netlist = wide_of c.args.design.now in
    let same = c.deref-7.ensures.value ∙ ap (λ (design : PlainDesign). design.latches) c.design.view_is in
    subst (λ (latches : List Latch). All (λ (latch : Latch). (latch.input < 2 ^ 32) × (latch.output < 2 ^ 32)) latches) (sym same)
    (small_latches netlist c.requires)

pub returns : goal.returns
returns c =
    let netlist = wide_of c.args.design.now in
    let nets : c.in_ok-nets.nets.items ≡ netlist.nets = search rules in
    let clock : c.clock_number-clock.result ≡ clock_number c.args.design.now = search rules in
    let ports : c.deref-2.result.now ≡ c.args.design.now.inputs = search rules in
    let inputs = c.in_ok-inputs.ensures ∙ c.deref-3.ensures.value ∙ c.in_ok-data_inputs.ensures ∙ (λ j. data_inputs (clock j) (ports j)) in
    let outputs : c.in_ok-outputs.outputs.items ≡ netlist.outputs = search rules in
    let covers : c.in_ok-covers.covers.items ≡ netlist.covers = search rules in
    let latches : c.in_ok-latches.latches.items ≡ netlist.latches = search rules in
    λ j. record { nets = nets j; inputs = inputs j; outputs = outputs j; covers = covers j; latches = latches j }
