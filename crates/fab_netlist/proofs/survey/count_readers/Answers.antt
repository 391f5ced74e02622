use Rattle.std.proofs.Common.{rules, arith, ◌≡◌, length, List, ap, ◌∙◌}
use Rattle.std.specs.List.{flat_map}
use Rattle.fab_netlist.specs.Plain.{PlainCover}
use Rattle.fab_netlist.specs.inner.Survey.{counted}
use Rattle.fab_netlist.proofs.Noting.{counted_by_parts}
use Rattle.fab_netlist.proofs.Stepping.{cover_inputs_below, outputs_below}
use Rattle.fab_netlist.proofs.Surveying.{taken_small}
use Rattle.fab_netlist.proofs.survey.count_readers.Goals as goal

pub count_cover_inputs-requires : goal.count_cover_inputs-requires
count_cover_inputs-requires c = cover_inputs_below c.args.netlist.now c.requires.wired c.deref.result.now (length c.args.table.now) (search rules) (omega (arith, c.requires.fits))

pub count-requires : goal.count-requires
count-requires c = taken_small c.args.netlist.now c.requires.wired c.args.taken.now (length c.count_cover_inputs.new.table) c.requires.taken (omega (arith, c.requires.fits, c.count_cover_inputs.auto.table))

pub count-requires-2 : goal.count-requires-2
count-requires-2 c = outputs_below c.args.netlist.now c.requires.wired c.deref-2.result.now (length c.count.new.table) (search rules) (omega (arith, c.requires.fits, c.count_cover_inputs.auto.table, c.count.auto.table))

pub count-requires-3 : goal.count-requires-3
count-requires-3 c = outputs_below c.args.netlist.now c.requires.wired c.deref-3.result.now (length c.count-2.new.table) (search rules) (omega (arith, c.requires.fits, c.count_cover_inputs.auto.table, c.count.auto.table, c.count-2.auto.table))

pub returns : goal.returns
returns c =
    let covers : c.deref.result.now ≡ c.args.netlist.now.covers = search rules in
    let outputs : c.deref-2.result.now ≡ c.args.netlist.now.outputs = search rules in
    let again : c.deref-3.result.now ≡ c.args.netlist.now.outputs = search rules in
    counted_by_parts c.args.netlist.now c.args.table.now c.count_cover_inputs.new.table c.count.new.table c.count-2.new.table c.count-3.new.table
    (c.count_cover_inputs.ensures ∙ ap (λ (list : List PlainCover). counted (flat_map (λ (cover : PlainCover). cover.inputs) list) c.args.table.now) covers)
    (c.count.ensures ∙ ap (λ nets. counted nets c.count_cover_inputs.new.table) c.requires.taken)
    (c.count-2.ensures ∙ ap (λ nets. counted nets c.count.new.table) outputs)
    (c.count-3.ensures ∙ ap (λ nets. counted nets c.count-2.new.table) again)
