use Rattle.std.proofs.Common.{rules, arith, ◌≡◌, false, List, map, length, replicate, ap, ◌∙◌}
use Rattle.std.specs.List.{flat_map}
use Rattle.std.proofs.lemmas.List.Sums.{count_by-le-length}
use Rattle.fab_netlist.specs.declared.netlist.Latch.{Latch}
use Rattle.fab_netlist.specs.Plain.{PlainCover, bit_at}
use Rattle.fab_netlist.specs.WellMade.{read}
use Rattle.fab_netlist.specs.Kept.{marked}
use Rattle.fab_netlist.proofs.Stepping.{cover_inputs_below, latch_inputs_below, outputs_below, cover_outputs_below}
use Rattle.fab_netlist.proofs.Marks.{few_covers, kept_by_marks, marked_by_parts}
use Rattle.fab_netlist.proofs.Wired.{wired}
use Rattle.fab_netlist.proofs.keeping.kept.Goals as goal

pub mark_cover_inputs-requires : goal.mark_cover_inputs-requires
mark_cover_inputs-requires c = cover_inputs_below c.args.netlist.now (wired c.is_well_made.ensures) c.deref.result.now 16384 (search rules) c.is_well_made.ensures.small

pub mark_latch_inputs-requires : goal.mark_latch_inputs-requires
mark_latch_inputs-requires c = latch_inputs_below c.args.netlist.now (wired c.is_well_made.ensures) c.deref-2.result.now (length c.mark_cover_inputs.new.marks) (search rules) (omega (arith, c.is_well_made.ensures.small, c.mark_cover_inputs.auto.marks))

pub mark-requires : goal.mark-requires
mark-requires c = outputs_below c.args.netlist.now (wired c.is_well_made.ensures) c.deref-3.result.now (length c.mark_latch_inputs.new.marks) (search rules) (omega (arith, c.is_well_made.ensures.small, c.mark_cover_inputs.auto.marks, c.mark_latch_inputs.auto.marks))

pub count_marked-requires : goal.count_marked-requires
count_marked-requires c = cover_outputs_below c.args.netlist.now (wired c.is_well_made.ensures) c.deref-4.result.now (length c.mark.new.marks) (search rules) (omega (arith, c.is_well_made.ensures.small, c.mark_cover_inputs.auto.marks, c.mark_latch_inputs.auto.marks, c.mark.auto.marks))

pub returns : goal.returns
returns c =
    let covers : c.deref-4.result.now ≡ c.args.netlist.now.covers = search rules in
    let readers : c.deref.result.now ≡ c.args.netlist.now.covers = search rules in
    let latches : c.deref-2.result.now ≡ c.args.netlist.now.latches = search rules in
    let outputs : c.deref-3.result.now ≡ c.args.netlist.now.outputs = search rules in
    let marks : c.mark.new.marks ≡ marked (read c.args.netlist.now) (replicate 16384 false) =
    marked_by_parts c.args.netlist.now (wired c.is_well_made.ensures) (replicate 16384 false) c.mark_cover_inputs.new.marks c.mark_latch_inputs.new.marks c.mark.new.marks
    (c.mark_cover_inputs.ensures ∙ ap (λ (list : List PlainCover). marked (flat_map (λ (cover : PlainCover). cover.inputs) list) (replicate 16384 false)) readers)
    (c.mark_latch_inputs.ensures ∙ ap (λ (list : List Latch). marked (map (λ (latch : Latch). latch.input) list) c.mark_cover_inputs.new.marks) latches)
    (c.mark.ensures ∙ ap (λ nets. marked nets c.mark_latch_inputs.new.marks) outputs) in
    c.count_marked.ensures ∙ kept_by_marks c.args.netlist.now (wired c.is_well_made.ensures) c.deref-4.result.now c.mark.new.marks covers marks

pub overflow_cast-result : goal.overflow_cast-result
overflow_cast-result c =
    let covers : c.deref-4.result.now ≡ c.args.netlist.now.covers = search rules in
    omega (arith, c.count_marked.ensures, few_covers c.args.netlist.now (wired c.is_well_made.ensures), ap length covers, count_by-le-length (λ (cover : PlainCover). bit_at c.mark.new.marks cover.output) c.deref-4.result.now)
