use Rattle.std.proofs.Common.{◌∙◌, ap}
use Rattle.fab_ways_laws.specs.Edges.{turned_pairs}
use Rattle.fab_graph.proofs.Grouped.{table_is, turned_named}
use Rattle.fab_graph.proofs.outputs.Outputs.of.Goals as goal

pub outputs_by_input-requires : goal.outputs_by_input-requires
outputs_by_input-requires c =
    turned_named c.args.turned c.args.tile.now c.deref.result.now c.matrix_names.result c.matrix_names.ensures.is_tile c.matrix_names.ensures.count
    (c.deref.ensures.value ∙ c.in_ok-pairs.ensures ∙ ap (turned_pairs c.args.turned) c.pairs.ensures.pairs)

pub returns : goal.returns
returns c =
    table_is c.in_ok-groups.groups.items c.args.turned c.args.tile.now c.deref.result.now c.matrix_names.result c.in_ok-groups.ensures.len c.in_ok-groups.ensures.groups c.matrix_names.ensures.count
    (c.deref.ensures.value ∙ c.in_ok-pairs.ensures ∙ ap (turned_pairs c.args.turned) c.pairs.ensures.pairs)
