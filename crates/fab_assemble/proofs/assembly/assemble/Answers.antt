use Rattle.std.proofs.Common.{ap, ◌∙◌, subst}
use Rattle.fab_fabric.specs.Bits.{plain_bits}
use Rattle.fab_implementation.specs.Plain.{PlainImplementation}
use Rattle.fab_settling_laws.specs.fab_use_defs_Configuring.{Configures}
use Rattle.fab_settling_laws.specs.fab_use_defs_Registers.{design_state}
use Rattle.fab_assemble.proofs.Runs.{packed_made, assembled_runs, assembled_settles}
use Rattle.fab_assemble.proofs.assembly.assemble.Goals as goal

pub check-requires-clause-made : goal.check-requires-clause-made
check-requires-clause-made c = packed_made c.args.netlist.now c.args.packed.now c.packed_is_well_made.ensures c.is_well_made.ensures c.requires.packed

pub returns-clause-runs : goal.returns-clause-runs
returns-clause-runs c text is_text =
    let fabric = c.args.fabric.now in
    let packed = c.args.packed.now in
    let i = c.args.implementation in
    let bits = plain_bits c.in_ok-bits.bits in
    assembled_runs fabric text c.args.netlist.now packed c.args.fixed.now i bits c.in_ok-words.words.items
    c.is_well_made-2.ensures.is_fabric c.is_well_made-2.ensures.are_tiles is_text c.is_well_made.ensures c.requires.no_cycle c.requires.packed c.in_ok-legal.ensures.legal
    (subst (λ (j : PlainImplementation). Configures fabric packed j bits) c.in_ok-legal.ensures.same c.in_ok-bits.ensures.configures) c.in_ok-words.ensures
    c.in_ok-state.state c.legal_designs_run.ensures
    (c.in_ok-state.ensures ∙ ap (λ (j : PlainImplementation). design_state packed j) (c.get.ensures ∙ c.in_ok-legal.ensures.same))

pub returns-clause-settles : goal.returns-clause-settles
returns-clause-settles c text is_text =
    let fabric = c.args.fabric.now in
    let packed = c.args.packed.now in
    let i = c.args.implementation in
    let bits = plain_bits c.in_ok-bits.bits in
    assembled_settles fabric text c.args.netlist.now packed c.args.fixed.now i bits c.in_ok-words.words.items
    c.is_well_made-2.ensures.is_fabric c.is_well_made-2.ensures.are_tiles is_text c.is_well_made.ensures c.requires.no_cycle c.requires.packed c.in_ok-legal.ensures.legal
    (subst (λ (j : PlainImplementation). Configures fabric packed j bits) c.in_ok-legal.ensures.same c.in_ok-bits.ensures.configures) c.in_ok-words.ensures
    c.legal_designs_settle.ensures
