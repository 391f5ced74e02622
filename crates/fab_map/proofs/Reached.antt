-- What is told where a run ends: its last trees on the placement.
use Rattle.std.proofs.Common.{◌≡◌, ℕ, ◌+◌, ◌<◌, ◌≤◌, List, [], length, get_or, All, sym, ap, ◌∙◌, subst, arith}
use Rattle.std.proofs.lemmas.List.{length-map}
use Rattle.fab_model.specs.Grid.{PlainFabric}
use Rattle.fab_fabric.specs.Fabric.{AreTiles, wire_count}
use Rattle.fab_fabric.specs.declared.wire.Wire.{Wire}
use Rattle.fab_netlist.specs.declared.net_id.NetId.{NetId}
use Rattle.fab_netlist.specs.Packed.{PlainPacked}
use Rattle.fab_implementation.specs.Plain.{PlainTree, PlainImplementation}
use Rattle.fab_implementation.specs.OnFabric.{HasWires, IsOnFabric}
use Rattle.fab_legal.specs.WellMade.{IsWellMadePacked, IsNetId}
use Rattle.fab_legal.specs.Legal.{ArePlaced}
use Rattle.fab_ways_laws.specs.Routing.{Paths}
use Rattle.fab_ways_laws.specs.Mapping.{AreRouted}
use Rattle.fab_ways_laws.specs.Trees.{trees_of, with_trees}
use Rattle.fab_ways_laws.proofs.Legal.{HasLast, last_round}
use Rattle.fab_implementation.specs.Inputs.{InputsAreLines}
use Rattle.fab_route.specs.Answers.{IsOverused}
use Rattle.fab_map.proofs.There.{net_there, wire_there, trees_on_fabric, trees_of_inputs, told_last}

module _ (fabric : PlainFabric) (tiles : AreTiles fabric) (packed : PlainPacked) (i : PlainImplementation) (made : IsWellMadePacked packed) (placed : ArePlaced fabric packed i) (on_fabric : IsOnFabric fabric i) where
  -- a placement with the last trees of a run is on the fabric
  with_last : (last : List Paths) → HasLast fabric packed i last → (trees : List PlainTree) → trees ≡ trees_of packed i last → IsOnFabric fabric (with_trees i trees)
  with_last last has_last trees trees_are = record {
    cells = on_fabric.cells;
    ins = on_fabric.ins;
    outs = on_fabric.outs;
    wires = subst (λ (ts : List PlainTree). All (λ (tree : PlainTree). All (HasWires fabric) tree.edges) ts) (sym trees_are) (trees_on_fabric fabric tiles packed i made placed last has_last);
  }

  pub routed_on_fabric : (allowed : ℕ) (trees : List PlainTree) (done : PlainImplementation) → AreRouted fabric packed i allowed trees → done ≡ with_trees i trees → IsOnFabric fabric done
  routed_on_fabric allowed trees done are same =
      subst (IsOnFabric fabric) (sym same) (with_last are.last (last_round fabric packed i are.run are.some_rounds) trees are.trees_are)

  -- and an input's net is that of one of its lines
  pub routed_inputs : (allowed : ℕ) (trees : List PlainTree) (done : PlainImplementation) → AreRouted fabric packed i allowed trees → done ≡ with_trees i trees → InputsAreLines done
  routed_inputs allowed trees done are same =
      subst InputsAreLines (sym (same ∙ ap (with_trees i) are.trees_are)) (trees_of_inputs fabric tiles packed i made placed are.last (last_round fabric packed i are.run are.some_rounds))

  -- ---- after all rounds

  module _ (allowed : ℕ) (wire : Wire) (first second : NetId) (told : List (List PlainTree)) (over : IsOverused fabric packed i allowed wire first second told) (some : 1 ≤ allowed) where
    has_last : HasLast fabric packed i over.last
    has_last = last_round fabric packed i over.run (omega (arith, over.all_rounds, some))

    pub first_known : IsNetId packed first
    first_known = net_there fabric tiles packed i made placed first over.nets_are.place over.nets_are.first_is

    pub second_known : IsNetId packed second
    second_known = net_there fabric tiles packed i made placed second over.nets_are.next over.nets_are.second_is

    pub shared_there : wire.0 < wire_count fabric
    shared_there = wire_there fabric tiles packed i made placed over.last has_last over.nets_are.place wire.0 first over.nets_are.first_is over.nets_are.first_has

    -- the trees of the last round
    module _ (trees : List PlainTree) (n : ℕ) (last_are : trees ≡ get_or told n []) (count : n + 1 ≡ length told) where
      trees_are : trees ≡ trees_of packed i over.last
      trees_are =
          last_are ∙ told_last fabric packed i over.run told n (omega (arith, count, ap length over.told_are, length-map over.rounds (trees_of packed i))) over.told_are

      module _ (reached : PlainImplementation) (same : reached ≡ with_trees i trees) where
        pub reached_is : reached ≡ with_trees i (trees_of packed i over.last)
        reached_is = same ∙ ap (with_trees i) trees_are

        pub reached_on_fabric : IsOnFabric fabric reached
        reached_on_fabric = subst (IsOnFabric fabric) (sym same) (with_last over.last has_last trees trees_are)

        pub reached_inputs : InputsAreLines reached
        reached_inputs = subst InputsAreLines (sym reached_is) (trees_of_inputs fabric tiles packed i made placed over.last has_last)
