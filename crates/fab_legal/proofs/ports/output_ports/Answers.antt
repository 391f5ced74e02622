use Rattle.std.proofs.Common.{List, ℕ, [], map, ◌∙◌, ap}
use Rattle.std.proofs.lemmas.List.{take_all}
use Rattle.std.specs.Str.{bytes_eq}
use Rattle.indexmap.specs.IndexSet.{insert_all}
use Rattle.fab_implementation.specs.fab_model.proofs.Inserts.{all_inserted}
use Rattle.fab_implementation.specs.fab_netlist.specs.declared.net_id.NetId.{NetId}
use Rattle.fab_legal.specs.WellMade.{output_name}
use Rattle.fab_legal.proofs.ports.output_ports.Goals as goal

pub returns : goal.returns
returns c =
    c.loop-name.invariant ∙ ap (λ (first : List (List ℕ × NetId)). insert_all bytes_eq [] (map output_name first)) (take_all c.loop-name.name-index c.args.outputs.now c.loop-name-test.false) ∙ all_inserted (map output_name c.args.outputs.now) c.requires
