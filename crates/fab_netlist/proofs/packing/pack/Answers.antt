use Rattle.std.proofs.Common.{rules, arith, ◌≡◌, ◌+◌, length, Ok, ap, sym, subst, ◌∙◌}
use Rattle.fab_netlist.specs.WellMade.{ports}
use Rattle.fab_netlist.specs.inner.Survey.{PlainSurvey, survey_of}
use Rattle.fab_netlist.specs.inner.Places.{IsFor, nets_by, packed_by}
use Rattle.fab_netlist.proofs.Packs.{is_for, few_nets, few_ports, nets_length, length_joined, packed_alike}
use Rattle.fab_netlist.proofs.Rooms.{refused_by, given_by}
use Rattle.fab_netlist.proofs.Wired.{wired}
use Rattle.fab_netlist.proofs.packing.pack.Goals as goal

pub cell_nets-requires-clause-survey : goal.cell_nets-requires-clause-survey
cell_nets-requires-clause-survey c = subst (λ (survey : PlainSurvey). IsFor c.args.netlist.now survey) (sym c.in_ok-survey.ensures) (is_for c.args.netlist.now (wired c.is_well_made.ensures))

pub overflow_cast-len : goal.overflow_cast-len
overflow_cast-len c =
    let count : c.len-3.result ≡ length (nets_by c.args.netlist.now (survey_of c.args.netlist.now)) = search rules in
    omega (arith, count, few_nets c.args.netlist.now (wired c.is_well_made.ensures))

pub overflow_cast-ports : goal.overflow_cast-ports
overflow_cast-ports c =
    let inputs : c.len.result ≡ length c.args.netlist.now.inputs = search rules in
    let outputs : c.len-2.result ≡ length c.args.netlist.now.outputs = search rules in
    omega (arith, inputs, outputs, few_ports c.args.netlist.now (wired c.is_well_made.ensures), length_joined c.args.netlist.now.inputs c.args.netlist.now.outputs)

pub returns-in_err-check_sites : goal.returns-in_err-check_sites
returns-in_err-check_sites c =
    let nets : c.len-3.result ≡ length (nets_by c.args.netlist.now (survey_of c.args.netlist.now)) = search rules in
    let inputs : c.len.result ≡ length c.args.netlist.now.inputs = search rules in
    let outputs : c.len-2.result ≡ length c.args.netlist.now.outputs = search rules in
    let count : c.len.result + c.len-2.result ≡ length (ports c.args.netlist.now) = omega (arith, inputs, outputs, length_joined c.args.netlist.now.inputs c.args.netlist.now.outputs) in
    refused_by c.args.netlist.now c.args.luts c.args.pads c.len-3.result (c.len.result + c.len-2.result) c.in_err-check_sites.field-0.0 c.from_residual-in_err-check_sites.result
    (nets ∙ nets_length c.args.netlist.now (wired c.is_well_made.ensures)) count (search rules) (search rules)

pub returns : goal.returns
returns c =
    let nets : c.len-3.result ≡ length (nets_by c.args.netlist.now (survey_of c.args.netlist.now)) = search rules in
    let inputs : c.len.result ≡ length c.args.netlist.now.inputs = search rules in
    let outputs : c.len-2.result ≡ length c.args.netlist.now.outputs = search rules in
    let count : c.len.result + c.len-2.result ≡ length (ports c.args.netlist.now) = omega (arith, inputs, outputs, length_joined c.args.netlist.now.inputs c.args.netlist.now.outputs) in
    let made : c.in_ok-assemble.field-0 ≡ packed_by c.args.netlist.now (survey_of c.args.netlist.now) = search rules in
    given_by c.args.netlist.now c.args.luts c.args.pads c.len-3.result (c.len.result + c.len-2.result) (nets ∙ nets_length c.args.netlist.now (wired c.is_well_made.ensures)) count (search rules)
    ∙ ap Ok (sym (packed_alike c.args.netlist.now (wired c.is_well_made.ensures)) ∙ sym made)
