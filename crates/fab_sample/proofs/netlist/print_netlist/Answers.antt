use Rattle.std.proofs.Common.{◌≡◌, ◌-◌, ◌∷◌, ◌++◌, [], ℕ, List, codes, ◌∙◌, ap}
use Rattle.std.specs.List.{flat_map, range_with_len}
use Rattle.fab_sample.specs.Lines.{text}
use Rattle.fab_sample.specs.Netlists.{all_cover_lines, all_latch_lines, all_output_lines, port_lines, shown_lines}
use Rattle.fab_sample.proofs.Steps.{put_more}
use Rattle.fab_sample.proofs.netlist.print_netlist.Goals as goal

pub returns : goal.returns
returns c =
    let size = c.args.size in
    let ports = port_lines size in
    let covers = all_cover_lines c.args.covers.now in
    let latches = all_latch_lines c.args.latches.now in
    let outputs = all_output_lines size in
    let a = c.put_ports.new.out.items in
    let b = c.put_covers.new.out.items in
    let d = c.put_latches.new.out.items in
    let e = c.put_outputs.new.out.items in
    let put_a : a ≡ [] ++ text ports = c.in_ok-put_ports.ensures ∙ ap (λ (l : List ℕ). l ++ text ports) c.new-out.ensures.items in
    let put_b = put_more [] a b ports covers put_a c.in_ok-put_covers.ensures in
    let put_d = put_more [] b d (ports ++ covers) latches put_b c.in_ok-put_latches.ensures in
    let shown : e ≡ d ++ text outputs =
    c.in_ok-put_outputs.ensures ∙ ap (λ (n : ℕ). d ++ text (flat_map (shown_lines (n - size)) (range_with_len 0 size))) c.cover_count.ensures.value in
    let put_e = put_more [] d e (ports ++ covers ++ latches) outputs put_d shown in
    c.from.ensures ∙ put_more [] e c.put_line.new.out.items (ports ++ covers ++ latches ++ outputs) (codes ".end" ∷ []) put_e c.in_ok-put_line.ensures
