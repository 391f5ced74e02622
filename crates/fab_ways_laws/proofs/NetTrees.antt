-- The nets of a design in order, and the trees that are made for them.
use Rattle.std.proofs.Common.{◌≡◌, ◌≢◌, ℕ, zero, suc, ◌<◌, List, [], ◌∷◌, ◌++◌, length, get_or, AllPairs, Contains, refl, sym, subst, inl, inr, arith}
use Rattle.std.proofs.lemmas.List.Kept.{AllPairs-cons}
use Rattle.fab_legal.specs.fab_model.specs.Tiles.{counted}
use Rattle.fab_legal.specs.fab_netlist.specs.declared.net_id.NetId.{NetId}
use Rattle.fab_legal.specs.fab_netlist.specs.declared.net_id.NetId.TheVariants as ids
use Rattle.fab_legal.specs.fab_netlist.specs.Packed.{PlainPacked}
use Rattle.fab_legal.specs.fab_netlist.specs.Plain.{IsAt}
use Rattle.fab_legal.specs.fab_netlist.proofs.Members.{in_none, first_or_later, first_in, later_in, in_left, in_right}
use Rattle.fab_legal.specs.fab_netlist.proofs.Stepping.{all_of}
use Rattle.fab_legal.specs.fab_implementation.specs.Plain.{Edge, PlainTree}
use Rattle.fab_legal.specs.WellMade.{IsWellMadePacked, IsNetId, output_ports}
use Rattle.fab_legal.specs.Nets.{port_net, cell_net}
use Rattle.fab_legal.specs.Sinks.{packed_net}
use Rattle.fab_legal.proofs.Bindings.{differ_left}
use Rattle.fab_legal.proofs.Members.{in_either}
use Rattle.fab_ways_laws.specs.Routing.{Paths, nets}
use Rattle.fab_ways_laws.specs.Trees.{edges_of, tree_with, trees_for}
use Rattle.fab_ways_laws.proofs.Lists.{in_counted, from_counted, counted_apart, pairs_head, pairs_tail, pairs_joined}

-- ---- the nets of a design

module _ (packed : PlainPacked) (made : IsWellMadePacked packed) where
  abbrev pub AreOther : NetId → NetId → Type 0
  AreOther a b = packed_net packed a ≡ packed_net packed b → ⊥

  abbrev in_nets : List NetId
  in_nets = counted (length packed.inputs) ids.In

  abbrev cell_nets : List NetId
  cell_nets = counted (length packed.cells) ids.Cell

  inputs_differ : AllPairs (λ first second. first ≢ second) packed.inputs
  inputs_differ = differ_left packed.inputs (output_ports packed) made.ports_differ

  same_port : (a b : List ℕ) → port_net a ≡ port_net b → a ≡ b
  same_port a b e = cc

  same_cell : (a b : ℕ) → cell_net a ≡ cell_net b → a ≡ b
  same_cell a b e = cc

  ins_apart : AllPairs AreOther in_nets
  ins_apart = counted_apart AreOther (length packed.inputs) ids.In (λ j k less inside same.
      inputs_differ j k [] less inside (same_port (get_or packed.inputs j []) (get_or packed.inputs k []) same))

  cells_apart : AllPairs AreOther cell_nets
  cells_apart = counted_apart AreOther (length packed.cells) ids.Cell (λ j k less inside same. omega (arith, same_cell j k same, less))

  in_is_no_cell : (a b : NetId) → Contains in_nets a → Contains cell_nets b → AreOther a b
  in_is_no_cell a b first second =
      let left = from_counted (length packed.inputs) ids.In a first in
      let right = from_counted (length packed.cells) ids.Cell b second in
      subst (λ (x : NetId). AreOther x b) left.2 (subst (λ (y : NetId). AreOther (ids.In left.0) y) right.2 (never left.0 right.0))
    where
      never : (j k : ℕ) → AreOther (ids.In j) (ids.Cell k)
      never j k e = cc

  rest_apart : AllPairs AreOther (in_nets ++ cell_nets)
  rest_apart = pairs_joined AreOther in_nets cell_nets ins_apart cells_apart in_is_no_cell

  -- a property of the nets of inputs and cells
  of_rest : (P : NetId → Type 0) → ((k : ℕ) → k < length packed.inputs → P (ids.In k)) → ((k : ℕ) → k < length packed.cells → P (ids.Cell k)) → (net : NetId) → Contains (in_nets ++ cell_nets) net → P net
  of_rest P ins cells net here = elim (in_either in_nets cell_nets net here) [
    | inl left ↦ (let found = from_counted (length packed.inputs) ids.In net left in subst P found.2 (ins found.0 found.1))
    | inr right ↦ (let found = from_counted (length packed.cells) ids.Cell net right in subst P found.2 (cells found.0 found.1))
  ]

  zero_apart : (net : NetId) → Contains (in_nets ++ cell_nets) net → AreOther ids.Zero net
  zero_apart net here = of_rest (AreOther ids.Zero) (λ k inside. in_case k) (λ k inside. cell_case k) net here
    where
      in_case : (k : ℕ) → AreOther ids.Zero (ids.In k)
      in_case k e = cc

      cell_case : (k : ℕ) → AreOther ids.Zero (ids.Cell k)
      cell_case k e = cc

  one_apart : (net : NetId) → Contains (in_nets ++ cell_nets) net → AreOther ids.One net
  one_apart net here = of_rest (AreOther ids.One) (λ k inside. in_case k) (λ k inside. cell_case k) net here
    where
      in_case : (k : ℕ) → AreOther ids.One (ids.In k)
      in_case k e = cc

      cell_case : (k : ℕ) → AreOther ids.One (ids.Cell k)
      cell_case k e = cc

  zero_is_not_one : AreOther ids.Zero ids.One
  zero_is_not_one e = cc

  pub nets_apart : AllPairs AreOther (nets packed)
  nets_apart =
      AllPairs-cons AreOther ids.Zero (ids.One ∷ (in_nets ++ cell_nets))
      (all_of (AreOther ids.Zero) (ids.One ∷ (in_nets ++ cell_nets)) (λ net here. elim (first_or_later ids.One (in_nets ++ cell_nets) net here) [
        | inl one ↦ subst (AreOther ids.Zero) one zero_is_not_one
        | inr rest ↦ zero_apart net rest
      ]))
      (AllPairs-cons AreOther ids.One (in_nets ++ cell_nets) (all_of (AreOther ids.One) (in_nets ++ cell_nets) one_apart) rest_apart)

  pub net_known : (net : NetId) → Contains (nets packed) net → IsNetId packed net
  net_known net here = elim (first_or_later ids.Zero (ids.One ∷ (in_nets ++ cell_nets)) net here) [
    | inl z ↦ subst (IsNetId packed) z tt
    | inr more ↦ elim (first_or_later ids.One (in_nets ++ cell_nets) net more) [
      | inl o ↦ subst (IsNetId packed) o tt
      | inr rest ↦ of_rest (IsNetId packed) (λ k inside. inside) (λ k inside. inside) net rest
    ]
  ]

  pub known_net : (net : NetId) → IsNetId packed net → Contains (nets packed) net
  known_net ids.Zero known = first_in ids.Zero (ids.One ∷ (in_nets ++ cell_nets)) ids.Zero refl
  known_net ids.One known = later_in ids.Zero (ids.One ∷ (in_nets ++ cell_nets)) ids.One (first_in ids.One (in_nets ++ cell_nets) ids.One refl)
  known_net (ids.In k) known =
      later_in ids.Zero (ids.One ∷ (in_nets ++ cell_nets)) (ids.In k) (later_in ids.One (in_nets ++ cell_nets) (ids.In k)
      (in_left in_nets cell_nets (ids.In k) (in_counted (length packed.inputs) ids.In k known)))
  known_net (ids.Cell k) known =
      later_in ids.Zero (ids.One ∷ (in_nets ++ cell_nets)) (ids.Cell k) (later_in ids.One (in_nets ++ cell_nets) (ids.Cell k)
      (in_right in_nets cell_nets (ids.Cell k) (in_counted (length packed.cells) ids.Cell k known)))

-- ---- the trees of nets

abbrev pub tree_of : (id : NetId → NetId) → NetId → Paths → PlainTree
tree_of id net paths = record { net = id net; edges = edges_of paths }

-- a tree is that of a net at a place
pub record IsTreeAt (id : NetId → NetId) (ns : List NetId) (grown : List Paths) (tree : PlainTree) : Type 0 where
  pub place : ℕ
  pub net : NetId
  pub paths : Paths
  pub net_at : IsAt ns place net
  pub paths_at : IsAt grown place paths
  pub tree_is : tree ≡ tree_of id net paths

at_later : {X : Type 0} (y : X) (ys : List X) (place : ℕ) (x : X) → IsAt ys place x → IsAt (y ∷ ys) (suc place) x
at_later y ys place x at = (omega (arith, at.0), at.1)

at_first : {X : Type 0} (y : X) (ys : List X) → IsAt (y ∷ ys) 0 y
at_first y ys = (omega arith, refl)

from_if : (net : NetId) (edges : List Edge) (tree : PlainTree) → Contains (tree_with net edges) tree → tree ≡ record { net = net; edges = edges }
from_if net [] tree here = absurd (in_none tree here)
from_if net (edge ∷ edges) tree here = elim (first_or_later (record { net = net; edges = edge ∷ edges }) [] tree here) [
  | inl same ↦ sym same
  | inr none ↦ absurd (in_none tree none)
]

pub from_trees : (id : NetId → NetId) (ns : List NetId) (grown : List Paths) (tree : PlainTree) → Contains (trees_for id ns grown) tree → IsTreeAt id ns grown tree
from_trees id [] grown tree here = absurd (in_none tree here)
from_trees id (net ∷ ns) [] tree here = absurd (in_none tree here)
from_trees id (net ∷ ns) (paths ∷ grown) tree here = elim (in_either (tree_with (id net) (edges_of paths)) (trees_for id ns grown) tree here) [
  | inl now ↦ record { place = 0; net = net; paths = paths; net_at = at_first net ns; paths_at = at_first paths grown; tree_is = from_if (id net) (edges_of paths) tree now }
  | inr later ↦ (
      let found = from_trees id ns grown tree later in
      record {
        place = suc found.place;
        net = found.net;
        paths = found.paths;
        net_at = at_later net ns found.place found.net found.net_at;
        paths_at = at_later paths grown found.place found.paths found.paths_at;
        tree_is = found.tree_is;
      })
]

into_if : (net : NetId) (edges : List Edge) (edge : Edge) → Contains edges edge → Contains (tree_with net edges) (record { net = net; edges = edges })
into_if net [] edge here = absurd (in_none edge here)
into_if net (first ∷ edges) edge here = first_in (record { net = net; edges = first ∷ edges }) [] (record { net = net; edges = first ∷ edges }) refl

pub into_trees : (id : NetId → NetId) (ns : List NetId) (grown : List Paths) (place : ℕ) (net : NetId) (paths : Paths) (edge : Edge) → IsAt ns place net → IsAt grown place paths → Contains (edges_of paths) edge →
    Contains (trees_for id ns grown) (tree_of id net paths)
into_trees id [] grown place net paths edge net_at paths_at here = absurd (omega (arith, net_at.0))
into_trees id (other ∷ ns) [] place net paths edge net_at paths_at here = absurd (omega (arith, paths_at.0))
into_trees id (other ∷ ns) (others ∷ grown) zero net paths edge net_at paths_at here =
    in_left (tree_with (id other) (edges_of others)) (trees_for id ns grown) (tree_of id net paths)
    (subst (λ (n : NetId). Contains (tree_with (id n) (edges_of others)) (tree_of id net paths)) (sym net_at.1)
    (subst (λ (p : Paths). Contains (tree_with (id net) (edges_of p)) (tree_of id net paths)) (sym paths_at.1) (into_if (id net) (edges_of paths) edge here)))
into_trees id (other ∷ ns) (others ∷ grown) (suc place) net paths edge net_at paths_at here =
    in_right (tree_with (id other) (edges_of others)) (trees_for id ns grown) (tree_of id net paths)
    (into_trees id ns grown place net paths edge (omega (arith, net_at.0), net_at.1) (omega (arith, paths_at.0), paths_at.1) here)

-- what holds of two nets holds of two trees
pub trees_apart : (R Q : NetId → NetId → Type 0) (id : NetId → NetId) (ns : List NetId) (grown : List Paths) → AllPairs R ns → ((a b : NetId) → Contains ns a → Contains ns b → R a b → Q (id a) (id b)) →
    AllPairs (λ (a b : PlainTree). Q a.net b.net) (trees_for id ns grown)
trees_apart R Q id [] grown apart turn = λ i j d less inside. absurd (omega (arith, inside))
trees_apart R Q id (net ∷ ns) [] apart turn = λ i j d less inside. absurd (omega (arith, inside))
trees_apart R Q id (net ∷ ns) (paths ∷ grown) apart turn =
    by_edges (edges_of paths) (trees_apart R Q id ns grown (pairs_tail R net ns apart) (λ a b first second r. turn a b (later_in net ns a first) (later_in net ns b second) r))
  where
    by_edges : (edges : List Edge) → AllPairs (λ (a b : PlainTree). Q a.net b.net) (trees_for id ns grown) → AllPairs (λ (a b : PlainTree). Q a.net b.net) (tree_with (id net) edges ++ trees_for id ns grown)
    by_edges [] rest = rest
    by_edges (edge ∷ edges) rest =
        AllPairs-cons (λ (a b : PlainTree). Q a.net b.net) (record { net = id net; edges = edge ∷ edges }) (trees_for id ns grown)
        (all_of (λ (t : PlainTree). Q (id net) t.net) (trees_for id ns grown) (λ t here.
        let found = from_trees id ns grown t here in
        let there : Contains ns found.net = (found.place, found.net_at.0, found.net_at.1) in
        subst (λ (u : PlainTree). Q (id net) u.net) (sym found.tree_is) (turn net found.net (first_in net ns net refl) (later_in net ns found.net there) (pairs_head R net ns apart found.net there))))
        rest
