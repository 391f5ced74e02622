-- The edges of a wire from its place.
use Rattle.std.proofs.Common.{◌≡◌, ℕ, ◌+◌, ◌*◌, ◌<◌, Bool, true, false, not, List, [], ◌++◌, Vec, Global, get_or, All, IfSome, None, map, filter, length, Contains, Option, Some, nat_eq, option_to_list, option_and_then, slice_get, sym, ap, ◌∙◌, subst, arith}
use Rattle.std.proofs.lemmas.Option.{same_Some}
use Rattle.std.proofs.lemmas.List.Elements.{All-append, All-map, All-nil, All-cons}
use Rattle.fab_select.specs.declared.pair.Pair.{Pair}
use Rattle.fab_model.specs.Tiles.{PlainTile, IsTile, IsPair, matrix_names, is_matrix_output}
use Rattle.fab_model.specs.Wires.{PlainWire, plain_wires}
use Rattle.fab_model.specs.Grid.{PlainFabric, tile_at}
use Rattle.fab_fabric.specs.Fabric.{IsFabric, AreTiles, wires_at, wire_count}
use Rattle.fab_fabric.specs.Wires.{wire_index, IsIndexOf, wire_join_to, wire_join_from}
use Rattle.fab_fabric.specs.declared.wire.Wire.{Wire}
use Rattle.fab_fabric.proofs.Numbered.{index_within, some_item, wired_tile, wired_within, wires_of_tile, wires_are_named, wire_with_number}
use Rattle.fab_fabric.proofs.Pairs.{passes_named}
use Rattle.fab_netlist.proofs.Stepping.{all_of}
use Rattle.fab_netlist.specs.Plain.{IsAt}
use Rattle.fab_legal.proofs.StepLaws.{type_there}
use Rattle.fab_legal.proofs.Pins.{is_tile_at}
use Rattle.fab_legal.proofs.Members.{from_mapped}
use Rattle.fab_ways_laws.specs.Edges.{outputs_of, swapped, turned_pairs, wire_at, join_after, ends_in, ends, join_before, origins_in, origins}
use Rattle.fab_ways_laws.proofs.Origins.{origins_are_there}
use Rattle.fab_ways_laws.proofs.Ends.{ends_are_there}
use Rattle.fab_ways_laws.proofs.Lists.{from_filter, from_firsts}
use Rattle.fab_graph.specs.declared.outputs.Outputs.{Outputs}
use Rattle.fab_graph.specs.inner.Outputs.{type_outputs, plain_outputs, HaveOutputs}
use Rattle.fab_graph.proofs.Grouped.{tables_inside, table_there, inputs_of_table, group_there}

-- the outputs of an input are wires of the tile, and so are the inputs of an output
pub outputs_within : (fabric : PlainFabric) (turned : Bool) (x y number : ℕ) (tile : PlainTile) (outputs : List ℕ) → AreTiles fabric → tile_at fabric x y ≡ Some tile →
    outputs ≡ outputs_of (turned_pairs turned tile.pairs) number → All (λ output. output < wires_at fabric x y) outputs
outputs_within fabric turned x y number tile outputs tiles tile_is are =
    let is_tile : IsTile tile = is_tile_at fabric x y tile tile_is tiles in
    all_of (λ output. output < wires_at fabric x y) outputs (λ output here.
    let kept = filter (λ p. nat_eq p.input number) (turned_pairs turned tile.pairs) in
    let there = from_firsts (map (λ (p : Pair). p.output) kept) output (subst (λ (os : List ℕ). Contains os output) are here) in
    let pair = from_mapped (λ (p : Pair). p.output) kept output there in
    let listed = from_filter (λ (p : Pair). nat_eq p.input number) (turned_pairs turned tile.pairs) pair.0 pair.1 in
    omega (arith, named turned tile pair.0 is_tile listed.0, wires_of_tile fabric x y tile tile_is, pair.2))
  where
    named : (t : Bool) (tl : PlainTile) (p : Pair) → IsTile tl → Contains (turned_pairs t tl.pairs) p → p.output < length (matrix_names tl)
    named false tl p is here =
        let is_pair : IsPair tl p = subst (λ (q : Pair). IsPair tl q) here.2 (is.pairs here.0 p here.1) in
        passes_named is_matrix_output tl p.output is_pair.output
    named true tl p is here =
        let from = from_mapped swapped tl.pairs p here in
        let is_pair : IsPair tl from.0 = subst (λ (q : Pair). IsPair tl q) from.1.2 (is.pairs from.1.0 from.0 from.1.1) in
        subst (λ (q : Pair). q.output < length (matrix_names tl)) from.2 (passes_named (λ wire. not (is_matrix_output wire)) tl from.0.input is_pair.input)

pub edges_are : (fabric : PlainFabric) (w x y number : ℕ) (outputs : List ℕ) (join : Option Wire) → number < wires_at fabric x y → w ≡ wire_index fabric x y number →
    ((tile : PlainTile) → tile_at fabric x y ≡ Some tile → outputs ≡ outputs_of tile.pairs number) →
    ((x2 y2 : ℕ) (plain : PlainWire) → IsIndexOf fabric w x2 y2 plain → join ≡ wire_join_to fabric x2 y2 plain) →
    map (wire_at fabric x y) outputs ++ option_to_list join ≡ ends fabric w
edges_are fabric w x y number outputs join few index pairs joined =
    let tile = wired_tile fabric x y number few in
    let plain = some_item (plain_wires tile.0) number (omega (arith, few, wires_of_tile fabric x y tile.0 tile.1, wires_are_named tile.0)) in
    let is : IsIndexOf fabric w x y plain.0 = subst (λ (n : ℕ). IsIndexOf fabric n x y plain.0) (sym index) (wire_with_number fabric x y number tile.0 plain.0 tile.1 plain.1) in
    let join_is : join ≡ join_after fabric x y number tile.0 = joined x y plain.0 is ∙ sym (ap (option_and_then (wire_join_to fabric x y)) plain.1) in
    ap (λ (os : List ℕ). map (wire_at fabric x y) os ++ option_to_list join) (pairs tile.0 tile.1)
    ∙ ap (λ (j : Option Wire). map (wire_at fabric x y) (outputs_of tile.0.pairs number) ++ option_to_list j) join_is
    ∙ sym (ap (ends fabric) index ∙ ends_are_there fabric x y number few ∙ ap (ends_in fabric x y number) tile.1)

pub origins_are : (fabric : PlainFabric) (w x y number : ℕ) (inputs : List ℕ) (join : Option Wire) → number < wires_at fabric x y → w ≡ wire_index fabric x y number →
    ((tile : PlainTile) → tile_at fabric x y ≡ Some tile → inputs ≡ outputs_of (turned_pairs true tile.pairs) number) →
    ((x2 y2 : ℕ) (plain : PlainWire) → IsIndexOf fabric w x2 y2 plain → join ≡ wire_join_from fabric x2 y2 plain) →
    map (wire_at fabric x y) inputs ++ option_to_list join ≡ origins fabric w
origins_are fabric w x y number inputs join few index pairs joined =
    let tile = wired_tile fabric x y number few in
    let plain = some_item (plain_wires tile.0) number (omega (arith, few, wires_of_tile fabric x y tile.0 tile.1, wires_are_named tile.0)) in
    let is : IsIndexOf fabric w x y plain.0 = subst (λ (n : ℕ). IsIndexOf fabric n x y plain.0) (sym index) (wire_with_number fabric x y number tile.0 plain.0 tile.1 plain.1) in
    let join_is : join ≡ join_before fabric x y number tile.0 = joined x y plain.0 is ∙ sym (ap (option_and_then (wire_join_from fabric x y)) plain.1) in
    ap (λ (os : List ℕ). map (wire_at fabric x y) os ++ option_to_list join) (pairs tile.0 tile.1)
    ∙ ap (λ (j : Option Wire). map (wire_at fabric x y) (outputs_of (turned_pairs true tile.0.pairs) number) ++ option_to_list j) join_is
    ∙ sym (ap (origins fabric) index ∙ origins_are_there fabric x y number few ∙ ap (origins_in fabric x y number) tile.1)

-- ---- what is read of the tables

pub record IsRead (fabric : PlainFabric) (turned : Bool) (x y input : ℕ) (table : Outputs) : Type 0 where
  pub tile : PlainTile
  pub tile_is : tile_at fabric x y ≡ Some tile
  pub table_is : plain_outputs table ≡ type_outputs turned tile
  pub inside : input < length table.groups.items
  pub few : input < length (matrix_names tile)

module _ (fabric : PlainFabric) (turned : Bool) (tables : List Outputs) (x y input number : ℕ) (few : input < wires_at fabric x y) (have : HaveOutputs turned fabric.types tables) (place : Option ℕ) (is : IsFabric fabric)
    (read : slice_get fabric.grid (y * fabric.columns + x) ≡ Some place) (place_is : place ≡ Some number) where
  there : (tile : PlainTile) × IsAt fabric.types number tile × (tile_at fabric x y ≡ Some tile)
  there = let within = wired_within fabric x y input few in type_there fabric x y number place is within.0 within.1 read place_is

  pub number_inside : number < length tables
  number_inside = tables_inside turned fabric.types tables number have there.1.0

  pub table_read : (table : Outputs) → table ≡ get_or tables number table → IsRead fabric turned x y input table
  table_read table at =
      let table_is = table_there turned fabric.types tables number table there.0 have there.1 at in
      let names = wires_of_tile fabric x y there.0 there.2 in
      record {
        tile = there.0;
        tile_is = there.2;
        table_is = table_is;
        inside = omega (arith, few, names, inputs_of_table turned table there.0 table_is);
        few = omega (arith, few, names);
      }

  pub group_read : (table : Outputs) (group : Vec ℕ Global) (outputs : List ℕ) → table ≡ get_or tables number table → group ≡ get_or table.groups.items input group → outputs ≡ group.items →
      (tile : PlainTile) → tile_at fabric x y ≡ Some tile → outputs ≡ outputs_of (turned_pairs turned tile.pairs) input
  group_read table group outputs at group_at outputs_are tile tile_is =
      let r = table_read table at in
      let same : r.tile ≡ tile = same_Some r.tile tile (sym r.tile_is ∙ tile_is) in
      outputs_are ∙ group_there turned table.groups.items r.tile input group r.table_is r.inside r.few group_at ∙ ap (λ (t : PlainTile). outputs_of (turned_pairs turned t.pairs) input) same

  pub group_within : AreTiles fabric → (table : Outputs) (group : Vec ℕ Global) (outputs : List ℕ) → table ≡ get_or tables number table → group ≡ get_or table.groups.items input group → outputs ≡ group.items →
      All (λ output. output < wires_at fabric x y) outputs
  group_within tiles table group outputs at group_at outputs_are =
      let r = table_read table at in
      outputs_within fabric turned x y input r.tile outputs tiles r.tile_is (group_read table group outputs at group_at outputs_are r.tile r.tile_is)

-- ---- wires of the fabric

pub edges_within : (fabric : PlainFabric) (x y : ℕ) (outputs : List ℕ) (join : Option Wire) (all : List Wire) → All (λ output. output < wires_at fabric x y) outputs →
    IfSome join (λ to. to.0 < wire_count fabric) → map (wire_at fabric x y) outputs ++ option_to_list join ≡ all → All (λ to. to.0 < wire_count fabric) all
edges_within fabric x y outputs join all low joined are =
    subst (λ (ws : List Wire). All (λ to. to.0 < wire_count fabric) ws) are
    (All-append (λ to. to.0 < wire_count fabric) (map (wire_at fabric x y) outputs) (option_to_list join)
    (All-map (λ to. to.0 < wire_count fabric) (wire_at fabric x y) outputs (λ k d inside. index_within fabric x y (get_or outputs k d) (low k d inside)))
    (in_option join joined))
  where
    in_option : (o : Option Wire) → IfSome o (λ to. to.0 < wire_count fabric) → All (λ to. to.0 < wire_count fabric) (option_to_list o)
    in_option None h = All-nil (λ to. to.0 < wire_count fabric)
    in_option (Some w) h = All-cons (λ to. to.0 < wire_count fabric) w [] h (All-nil (λ to. to.0 < wire_count fabric))
