use Rattle.std.proofs.Common.{◌-◌, Vec, Global, length, ap, ◌∙◌, arith}
use Rattle.std.proofs.lemmas.List.{length-map}
use Rattle.fab_implementation.specs.Plain.{PlainTree, PlainImplementation}
use Rattle.fab_impl.specs.Spelled.{implementation_text}
use Rattle.fab_ways_laws.specs.Trees.{trees_of}
use Rattle.fab_route.specs.Answers.{plain_rounds}
use Rattle.fab_map.proofs.Reached.{first_known, second_known, shared_there, reached_is, reached_on_fabric, reached_inputs}
use Rattle.fab_map.proofs.reports.overused.Goals as goal

pub print_impl-requires-clause-on_fabric : goal.print_impl-requires-clause-on_fabric
print_impl-requires-clause-on_fabric c =
    reached_on_fabric c.args.fabric.now c.is_well_made.ensures.are_tiles c.args.packed.now c.args.placed c.requires.made c.requires.good.placed c.requires.on_fabric c.args._rounds c.args.wire c.args.first c.args.second (plain_rounds c.args.rounds.items) c.requires.overused c.requires.some
    c.last_trees.result.items (length c.args.rounds.items - 1) c.last_trees.ensures (omega (arith, length-map c.args.rounds.items (λ (trees : Vec PlainTree Global). trees.items), length-map c.requires.overused.rounds (trees_of c.args.packed.now c.args.placed), ap length c.requires.overused.told_are, c.requires.overused.all_rounds, c.requires.some)) c.with_trees-reached.result c.with_trees-reached.ensures

pub print_impl-requires-clause-inputs : goal.print_impl-requires-clause-inputs
print_impl-requires-clause-inputs c =
    reached_inputs c.args.fabric.now c.is_well_made.ensures.are_tiles c.args.packed.now c.args.placed c.requires.made c.requires.good.placed c.requires.on_fabric c.args._rounds c.args.wire c.args.first c.args.second (plain_rounds c.args.rounds.items) c.requires.overused c.requires.some
    c.last_trees.result.items (length c.args.rounds.items - 1) c.last_trees.ensures (omega (arith, length-map c.args.rounds.items (λ (trees : Vec PlainTree Global). trees.items), length-map c.requires.overused.rounds (trees_of c.args.packed.now c.args.placed), ap length c.requires.overused.told_are, c.requires.overused.all_rounds, c.requires.some)) c.with_trees-reached.result c.with_trees-reached.ensures

pub wire_text-requires : goal.wire_text-requires
wire_text-requires c =
    shared_there c.args.fabric.now c.is_well_made.ensures.are_tiles c.args.packed.now c.args.placed c.requires.made c.requires.good.placed c.requires.on_fabric c.args._rounds c.args.wire c.args.first c.args.second (plain_rounds c.args.rounds.items) c.requires.overused c.requires.some

pub net_name-requires : goal.net_name-requires
net_name-requires c =
    first_known c.args.fabric.now c.is_well_made.ensures.are_tiles c.args.packed.now c.args.placed c.requires.made c.requires.good.placed c.requires.on_fabric c.args._rounds c.args.wire c.args.first c.args.second (plain_rounds c.args.rounds.items) c.requires.overused c.requires.some

pub net_name-requires-2 : goal.net_name-requires-2
net_name-requires-2 c =
    second_known c.args.fabric.now c.is_well_made.ensures.are_tiles c.args.packed.now c.args.placed c.requires.made c.requires.good.placed c.requires.on_fabric c.args._rounds c.args.wire c.args.first c.args.second (plain_rounds c.args.rounds.items) c.requires.overused c.requires.some

pub returns : goal.returns
returns c = record {
  placement = c.args.placed;
  good = c.requires.good;
  wire = c.args.wire;
  first = c.args.first;
  second = c.args.second;
  told = plain_rounds c.args.rounds.items;
  overused = c.requires.overused;
  wire_is = c.in_ok-wire.ensures;
  first_is = c.in_ok-first.ensures;
  second_is = c.in_ok-second.ensures;
  text_is = c.from.ensures ∙ c.in_ok-text.ensures.text ∙ ap (λ (i : PlainImplementation). implementation_text c.args.fabric.now i)
      (reached_is c.args.fabric.now c.is_well_made.ensures.are_tiles c.args.packed.now c.args.placed c.requires.made c.requires.good.placed c.requires.on_fabric c.args._rounds c.args.wire c.args.first c.args.second (plain_rounds c.args.rounds.items) c.requires.overused c.requires.some
      c.last_trees.result.items (length c.args.rounds.items - 1) c.last_trees.ensures (omega (arith, length-map c.args.rounds.items (λ (trees : Vec PlainTree Global). trees.items), length-map c.requires.overused.rounds (trees_of c.args.packed.now c.args.placed), ap length c.requires.overused.told_are, c.requires.overused.all_rounds, c.requires.some)) c.with_trees-reached.result c.with_trees-reached.ensures);
}
