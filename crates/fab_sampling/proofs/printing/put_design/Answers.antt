use Rattle.std.proofs.Common.{◌≡◌, [], ◌∷◌, ◌++◌, OnOk, subst}
use Rattle.std.proofs.lemmas.Result.{on_ok_weaker}
use Rattle.fab_designs.specs.Designs.{PlainDesign}
use Rattle.fab_sample.specs.Lines.{text}
use Rattle.fab_sample.proofs.Steps.{put_more}
use Rattle.fab_sampling.specs.Summary.{design_lines, fabric_line, netlist_line, sample_line}
use Rattle.fab_sampling.proofs.printing.put_design.Goals as goal

pub returns : goal.returns
returns c =
    let start = c.args.out.now.items in
    let first = sample_line c.args.size c.args.seed ∷ [] in
    let second = fabric_line c.design.inside.fabric ∷ [] in
    let third = netlist_line c.design.inside.netlist ∷ [] in
    let two = put_more start c.put_sample.new.out.items c.put_fabric.new.out.items first second c.in_ok-put_sample.ensures c.in_ok-put_fabric.ensures in
    subst (λ (design : PlainDesign). OnOk c.put_netlist.result (c.put_netlist.new.out.items ≡ start ++ text (design_lines c.args.size c.args.seed design))) c.design.view_is
    (on_ok_weaker c.put_netlist.result (λ put. put_more start c.put_fabric.new.out.items c.put_netlist.new.out.items (first ++ second) third two put) c.put_netlist.ensures)
