use Rattle.std.proofs.Common.{rules, arith, ◌≡◌, ◌<◌, ◌∙◌, length, get_or, [], ap, sym}
use Rattle.std.proofs.lemmas.List.{get_or_read}
use Rattle.fab_netlist.specs.Plain.{name_of}
use Rattle.fab_netlist.proofs.Finds.{output_in_table}
use Rattle.fab_netlist.proofs.refusal.output_name.Goals as goal

pub bounds-netlist-inside-output_of : goal.bounds-netlist-inside-output_of
bounds-netlist-inside-output_of c =
    let nets : length c.netlist.inside.nets.now ≡ length c.args.netlist.now.nets = search rules in
    omega (arith, nets, c.output_of.ensures, output_in_table c.args.netlist.now c.requires.wired c.args.place c.requires.within)

pub returns : goal.returns
returns c =
    let nets = c.args.netlist.now.nets in
    let small : c.output_of.result < length nets = omega (arith, c.output_of.ensures, output_in_table c.args.netlist.now c.requires.wired c.args.place c.requires.within) in
    let read : c.index-netlist-output_of.result ≡ get_or nets c.output_of.result c.index-netlist-output_of.result = search rules in
    sym c.index-netlist-output_of.is ∙ get_or_read nets c.output_of.result c.index-netlist-output_of.result small read [] ∙ ap (name_of c.args.netlist.now) c.output_of.ensures
