-- A legal implementation of an acyclic netlist has no cycle of steps: along a tree they come from its root, and through a cell from the nets of its inputs,
-- which stand before it.
use Rattle.std.proofs.Common.{◌≡◌, ◌⊎◌, ℕ, zero, suc, ◌<◌, ◌≤◌, false, List, [], ◌∷◌, ◌++◌, length, map, take, get_or, nat_eq, refl, sym, ap, ◌∙◌, subst, inl, inr, arith, eqb-true, Option, Some, None, Contains}
use Rattle.std.proofs.lemmas.Bool.{cases_Bool, cases_lt, eqb-false}
use Rattle.std.proofs.lemmas.List.{get_or_default, get_or-take, length-take-le}
use Rattle.std.proofs.lemmas.List.Elements.{All-contains, Contains-append_left, Contains-append_right, Contains-append_cases}
use Rattle.fab_kinds.specs.declared.kind.Kind.{Kind}
use Rattle.fab_kinds.specs.declared.kind.Kind.TheVariants as kinds
use Rattle.fab_kinds.specs.Pins.{pin_names, lut_o, pad_o}
use Rattle.fab_model.specs.Wires.{dest_of, pin_of}
use Rattle.fab_model.specs.Grid.{PlainFabric}
use Rattle.fab_model.specs.Drive.{PlainDrive, zero_bit, one_bit}
use Rattle.fab_fabric.specs.Fabric.{AreTiles}
use Rattle.fab_fabric.specs.Wires.{IsIndexOf, numbered_wire}
use Rattle.fab_fabric.specs.declared.wire.Site.{Site}
use Rattle.fab_fabric.specs.declared.wire.Wire.{Wire}
use Rattle.fab_fabric.proofs.Numbered.{one_wire}
use Rattle.fab_netlist.specs.declared.net_id.NetId.{NetId}
use Rattle.fab_netlist.specs.declared.net_id.NetId.TheVariants as ids
use Rattle.fab_netlist.specs.Plain.{PlainNetlist, IsAt}
use Rattle.fab_netlist.specs.WellMade.{IsWellMade}
use Rattle.fab_netlist.specs.Cycles.{HasNoCycle}
use Rattle.fab_netlist.specs.Packed.{PlainCell, PlainPacked}
use Rattle.fab_netlist.specs.Packing.{packed}
use Rattle.fab_netlist.proofs.Members.{at_in, mapped_in}
use Rattle.fab_implementation.specs.Plain.{Edge, Pad, PlainTree, PlainImplementation}
use Rattle.fab_implementation.specs.OnFabric.{kind_at}
use Rattle.fab_legal.specs.Turns.{AreRight}
use Rattle.fab_legal.specs.WellMade.{IsNetId, IsWellMadeCell}
use Rattle.fab_legal.specs.Lines.{IsCell, IsInput, IsNew, sites, sited}
use Rattle.fab_legal.specs.Steps.{IsConstant, pin_wire}
use Rattle.fab_legal.specs.Nets.{Net, zero_net, one_net, port_net, cell_net, net_of, left_wires, entered_wires, Reached, root, step, StandsIn, IsRoot}
use Rattle.fab_legal.specs.Sinks.{packed_net, cell_input}
use Rattle.fab_legal.specs.Legal.{IsLegal}
use Rattle.fab_legal.proofs.Lists.{same_at}
use Rattle.fab_legal.proofs.Members.{from_mapped}
use Rattle.fab_legal.proofs.PackedMade.{packed_made}
use Rattle.fab_ways_laws.proofs.InputPins.{pin_index, kind_of_line}
use Rattle.fab_nodes_laws.proofs.MatrixInputs.{driven_or_input, pair_driven, root_input, root_unjoined}
use Rattle.fab_timing.specs.Walks.{IsTreeEdge, IsTimedStep, along_pair, along_join, through}
use Rattle.fab_timing.proofs.Pins.{same_pin}
use Rattle.fab_runs_laws.proofs.CellOrder.{keeps_order}

-- Whoever goes backwards from the wire comes to an end.
pub data Grounded (fabric : PlainFabric) (packed : PlainPacked) (implementation : PlainImplementation) : Wire → Type 0 where
  grounded : {to : Wire} → ((from : Wire) (units : ℕ) → IsTimedStep fabric packed implementation from to units → Grounded fabric packed implementation from) →
      Grounded fabric packed implementation to

-- ---- lists

among_first : {X : Type 0} (xs : List X) (j k : ℕ) (x : X) → j < k → k ≤ length xs → IsAt xs j x → Contains (take k xs) x
among_first xs j k x less short at = (j, omega (arith, length-take-le k xs short), get_or-take k xs j x less ∙ at.1)

-- of items that differ in something there is one of each
once : {X Y : Type 0} (f : X → Y) (xs : List X) (a b : X) → ((k : ℕ) (x : X) → IsAt xs k x → Contains (map f (take k xs)) (f x) → ⊥) → Contains xs a → Contains xs b → f a ≡ f b → a ≡ b
once {X} {Y} f xs a b new first second same =
    elim (cases_lt first.0 second.0) [
      | inl less ↦ absurd (new second.0 b (second.1, second.2) (subst (λ (v : Y). Contains (map f (take second.0 xs)) v) same
          (mapped_in f (take second.0 xs) a (among_first xs first.0 second.0 a less (omega (arith, second.1)) (first.1, first.2)))))
      | inr other ↦ elim (cases_lt second.0 first.0) [
        | inl more ↦ absurd (new first.0 a (first.1, first.2) (subst (λ (v : Y). Contains (map f (take first.0 xs)) v) (sym same)
            (mapped_in f (take first.0 xs) b (among_first xs second.0 first.0 b more (omega (arith, first.1)) (second.1, second.2)))))
        | inr least ↦ (
            let places : second.0 ≡ first.0 = omega (arith, other, least) in
            same_at xs first.0 a b (first.1, first.2) (subst (λ n. IsAt xs n b) places (second.1, second.2)))
      ]
    ]

pub once_listed : {X : Type 0} (xs : List X) (j k : ℕ) (x : X) → AreRight IsNew xs → IsAt xs j x → IsAt xs k x → j ≡ k
once_listed xs j k x new first second =
    elim (cases_lt j k) [
      | inl less ↦ absurd (new k x second.0 second (among_first xs j k x less (omega (arith, second.0)) first))
      | inr other ↦ elim (cases_lt k j) [
        | inl more ↦ absurd (new j x first.0 first (among_first xs k j x more (omega (arith, first.0)) second))
        | inr least ↦ omega (arith, other, least)
      ]
    ]

-- an item of mapped lines, among more
at_front : {X : Type 0} (lines : List (X × Site)) (more : List Site) (k : ℕ) (line : X × Site) → IsAt lines k line → IsAt (sited lines ++ more) k line.1
at_front [] more k line at = absurd (omega (arith, at.0))
at_front (first ∷ lines) more zero line at = (omega arith, ap (λ (l : _ × Site). l.1) at.1)
at_front (first ∷ lines) more (suc k) line at = (let rest = at_front lines more k line (omega (arith, at.0), at.1) in (omega (arith, rest.0), rest.1))

same_wire : (a b : Wire) → a.0 ≡ b.0 → a ≡ b
same_wire a b same = ap numbered_wire same

not_first : (first : Wire) (wires : List Wire) (wire : Wire) → nat_eq first.0 wire.0 ≡ false → (Contains wires wire → ⊥) → Contains (first ∷ wires) wire → ⊥
not_first first wires wire other none (zero, within, same) = eqb-false first.0 wire.0 other (ap (λ (w : Wire). w.0) same)
not_first first wires wire other none (suc k, within, same) = none (k, omega (arith, within), same)

-- whether a wire is listed
is_in : (wires : List Wire) (wire : Wire) → Contains wires wire ⊎ (Contains wires wire → ⊥)
is_in [] wire = inr (λ none. omega (arith, none.1))
is_in (first ∷ wires) wire =
    elim (cases_Bool (nat_eq first.0 wire.0)) [
      | inl same ↦ inl (0, omega arith, same_wire first wire (eqb-true first.0 wire.0 same))
      | inr other ↦ elim (is_in wires wire) [
        | inl later ↦ inl (suc later.0, omega (arith, later.1), later.2)
        | inr none ↦ inr (not_first first wires wire other none)
      ]
    ]

abbrev level_of : Option ℕ → (rank : ℕ) → ℕ
level_of None rank = suc rank
level_of (Some init) rank = 0

module _ (fabric : PlainFabric) (netlist : PlainNetlist) (fixed_pads : List Pad) (implementation : PlainImplementation) (are : AreTiles fabric) (made : IsWellMade netlist) (acyclic : HasNoCycle netlist)
    (legal : IsLegal fabric (packed netlist) fixed_pads implementation) where
  abbrev G : Wire → Type 0
  G wire = Grounded fabric (packed netlist) implementation wire

  abbrev Leads : Wire → Wire → ℕ → Type 0
  Leads from to units = IsTimedStep fabric (packed netlist) implementation from to units

  -- ---- pins

  of_cell : (number : ℕ) (site : Site) → Contains implementation.cells (number, site) → kind_at fabric site ≡ Some kinds.Lut4c
  of_cell number site listed = kind_of_line fabric kinds.Lut4c (IsCell (packed netlist)) implementation.cells number site legal.placed.cells.lines_right listed

  of_input : (port : List ℕ) (site : Site) → Contains implementation.ins (port, site) → kind_at fabric site ≡ Some kinds.Io
  of_input port site listed = kind_of_line fabric kinds.Io (IsInput (packed netlist)) implementation.ins port site legal.placed.ports.ins.lines_right listed

  index : (site : Site) (kind : Kind) (pin : ℕ) → kind_at fabric site ≡ Some kind → pin < length (pin_names kind) → IsIndexOf fabric (pin_wire fabric site pin).0 site.x site.y (pin_of site.bel pin)
  index site kind pin kind_is few = pin_index fabric site pin (kind, kind_is, few)

  apart_pins : (a b : Site) (k l : Kind) (pin other : ℕ) → kind_at fabric a ≡ Some k → pin < length (pin_names k) → kind_at fabric b ≡ Some l → other < length (pin_names l) →
      pin_wire fabric a pin ≡ pin_wire fabric b other → (a ≡ b) × (pin ≡ other)
  apart_pins a b k l pin other kind_a few_a kind_b few_b same = same_pin fabric a b pin other (k, kind_a, few_a) (l, kind_b, few_b) same

  -- no edge enters O of a cell
  not_entered : (number : ℕ) (site : Site) → Contains implementation.cells (number, site) → (from to : Wire) → IsTreeEdge implementation from to → to ≡ pin_wire fabric site lut_o → ⊥
  not_entered number site listed from to e is =
      let begins : IsRoot fabric implementation (cell_net number) to = record { site = site; listed = listed; wire_is = is } in
      elim (legal.steps e.listed.0 e.tree e.listed.1 (e.listed.1, e.listed.2) e.among.0 (from, to) e.among.1 (e.among.1, e.among.2)) [
        | inl pair ↦ driven_or_input fabric to (pair_driven fabric are from to pair) (root_input fabric are (packed netlist) implementation legal.placed (cell_net number) to begins)
        | inr join ↦ root_unjoined fabric are (packed netlist) implementation legal.placed (cell_net number) from to begins join
      ]

  one_cell : (j k : ℕ) (site : Site) → Contains implementation.cells (j, site) → Contains implementation.cells (k, site) → j ≡ k
  one_cell j k site first second =
      let rest = sited implementation.ins ++ sited implementation.outs in
      let places : first.0 ≡ second.0 = once_listed (sites implementation) first.0 second.0 site legal.placed.sites
      (at_front implementation.cells rest first.0 (j, site) (first.1, first.2)) (at_front implementation.cells rest second.0 (k, site) (second.1, second.2)) in
      ap (λ (l : ℕ × Site). l.0) (same_at implementation.cells second.0 (j, site) (k, site) (subst (λ n. IsAt implementation.cells n (j, site)) places (first.1, first.2)) (second.1, second.2))

  -- ---- trees

  one_tree : (a b : PlainTree) → Contains implementation.trees a → Contains implementation.trees b → net_of implementation a.net ≡ net_of implementation b.net → a ≡ b
  one_tree a b in_a in_b same = once (λ (t : PlainTree). net_of implementation t.net) implementation.trees a b (λ k t at. (legal.nets k t at.0 at).name.first) in_a in_b same

  one_edge : (tree : PlainTree) → Contains implementation.trees tree → (a b : Edge) → Contains tree.edges a → Contains tree.edges b → a.1 ≡ b.1 → a ≡ b
  one_edge tree listed a b in_a in_b same =
      once (λ (e : Edge). e.1) tree.edges a b (λ k e at. (legal.reached listed.0 tree listed.1 (listed.1, listed.2) k e at.0 at).once) in_a in_b same

  entered_by : (tree : PlainTree) (edge : Edge) → Contains tree.edges edge → Contains (entered_wires tree.edges) edge.1
  entered_by tree edge among = mapped_in (λ (e : Edge). e.1) tree.edges edge among

  abbrev stands_left : (tree : PlainTree) → Contains implementation.trees tree → (edge : Edge) → Contains tree.edges edge → StandsIn implementation (net_of implementation tree.net) edge.0
  stands_left tree listed edge among = record {
    tree = tree;
    listed = listed;
    net_is = refl;
    has_wire = Contains-append_left (left_wires tree.edges) (entered_wires tree.edges) edge.0 (mapped_in (λ (e : Edge). e.0) tree.edges edge among);
  }

  abbrev stands_entered : (tree : PlainTree) → Contains implementation.trees tree → (edge : Edge) → Contains tree.edges edge → StandsIn implementation (net_of implementation tree.net) edge.1
  stands_entered tree listed edge among = record {
    tree = tree;
    listed = listed;
    net_is = refl;
    has_wire = Contains-append_right (left_wires tree.edges) (entered_wires tree.edges) edge.1 (entered_by tree edge among);
  }

  -- an edge that enters a wire of a tree is of this tree
  of_tree : (tree : PlainTree) → Contains implementation.trees tree → (wire : Wire) → Contains (left_wires tree.edges ++ entered_wires tree.edges) wire → (from : Wire) → IsTreeEdge implementation from wire →
      Contains tree.edges (from, wire)
  of_tree tree listed wire has from e =
      let here : StandsIn implementation (net_of implementation tree.net) wire = record { tree = tree; listed = listed; net_is = refl; has_wire = has } in
      let there = stands_entered e.tree e.listed (from, wire) e.among in
      let same = legal.apart wire (net_of implementation e.tree.net) (net_of implementation tree.net) there here in
      subst (λ (t : PlainTree). Contains t.edges (from, wire)) (one_tree e.tree tree e.listed listed same) e.among

  -- ---- cells in their order

  abbrev cell_rank : ℕ → ℕ
  cell_rank = (keeps_order netlist made acyclic).0

  cell_falls : (j k : ℕ) (c d : PlainCell) → IsAt (packed netlist).cells j c → IsAt (packed netlist).cells k d → c.latch ≡ None → d.latch ≡ None → Contains d.inputs (ids.Cell j) →
      cell_rank j < cell_rank k
  cell_falls = (keeps_order netlist made acyclic).1

  abbrev some_cell : PlainCell
  some_cell = record { table = 0; inputs = []; latch = None }

  abbrev level : Net → ℕ
  level zero_net = 0
  level one_net = 0
  level (port_net port) = 0
  level (cell_net number) = level_of (get_or (packed netlist).cells number some_cell).latch (cell_rank number)

  abbrev Ground : ℕ → Type 0
  Ground n = (net : Net) → level net < n → (wire : Wire) → StandsIn implementation net wire → G wire

  -- the net of a pin that a cell without a latch reads
  reads_lower : (n number pin : ℕ) (cell : PlainCell) (net : NetId) → IsAt (packed netlist).cells number cell → cell.latch ≡ None → IsAt cell.inputs pin net → cell_rank number < n →
      level (packed_net (packed netlist) net) < n
  reads_lower n number pin cell ids.Zero at none reads low = omega (arith, low)
  reads_lower n number pin cell ids.One at none reads low = omega (arith, low)
  reads_lower n number pin cell (ids.In place) at none reads low = omega (arith, low)
  reads_lower n number pin cell (ids.Cell j) at none reads low = by_latch (get_or (packed netlist).cells j some_cell).latch refl
    where
      few : j < length (packed netlist).cells
      few = All-contains (IsNetId (packed netlist)) cell.inputs (ids.Cell j)
          (All-contains (IsWellMadeCell (packed netlist)) (packed netlist).cells cell (packed_made netlist made).cells (number, at.0, at.1)).nets (pin, reads.0, reads.1)

      there : IsAt (packed netlist).cells j (get_or (packed netlist).cells j some_cell)
      there = (few, get_or_default (packed netlist).cells j (get_or (packed netlist).cells j some_cell) some_cell few)

      by_latch : (latch : Option ℕ) → (get_or (packed netlist).cells j some_cell).latch ≡ latch → level (cell_net j) < n
      by_latch (Some init) is = (let zero_is : level (cell_net j) ≡ 0 = ap (λ l. level_of l (cell_rank j)) is in omega (arith, low, zero_is))
      by_latch None is = (
          let more : level (cell_net j) ≡ suc (cell_rank j) = ap (λ l. level_of l (cell_rank j)) is in
          let less = cell_falls j number (get_or (packed netlist).cells j some_cell) cell there at is none (at_in cell.inputs pin (ids.Cell j) reads) in
          omega (arith, low, more, less))

  -- the level of a cell without a latch
  own_level : (number : ℕ) (cell : PlainCell) → IsAt (packed netlist).cells number cell → cell.latch ≡ None → level (cell_net number) ≡ suc (cell_rank number)
  own_level number cell at none =
      ap (λ (c : PlainCell). level_of c.latch (cell_rank number)) (get_or_default (packed netlist).cells number some_cell cell at.0 ∙ at.1) ∙ ap (λ l. level_of l (cell_rank number)) none

  pin_ground : (n number pin : ℕ) (site : Site) (cell : PlainCell) (net : NetId) → Ground n → Contains implementation.cells (number, site) → IsAt (packed netlist).cells number cell → cell.latch ≡ None →
      IsAt cell.inputs pin net → cell_rank number < n → G (pin_wire fabric site pin)
  pin_ground n number pin site cell net ground listed at none reads low =
      ground (packed_net (packed netlist) net) (reads_lower n number pin cell net at none reads low) (pin_wire fabric site pin)
      (legal.sinks (packed_net (packed netlist) net) (pin_wire fabric site pin) (cell_input listed at reads))

  -- what leads to O of a cell
  output_ground : (n number : ℕ) (site : Site) → Ground n → Contains implementation.cells (number, site) → level (cell_net number) < suc n → G (pin_wire fabric site lut_o)
  output_ground n number site ground listed low = grounded (λ from units leads. by_step from (pin_wire fabric site lut_o) units leads refl)
    where
      by_step : (from to : Wire) (units : ℕ) → Leads from to units → to ≡ pin_wire fabric site lut_o → G from
      by_step from to units (along_pair e pair) is = absurd (not_entered number site listed from to e is)
      by_step from to units (along_join e join) is = absurd (not_entered number site listed from to e is)
      by_step from to units (through other pin there cell net there_listed at none reads) is =
          let sites_same = (apart_pins there site kinds.Lut4c kinds.Lut4c lut_o lut_o (of_cell other there there_listed) (omega arith) (of_cell number site listed) (omega arith) is).0 in
          let numbers : other ≡ number = one_cell other number site (subst (λ (s : Site). Contains implementation.cells (other, s)) sites_same there_listed) listed in
          let is_level : level (cell_net other) ≡ suc (cell_rank other) = own_level other cell at none in
          let as_low : level (cell_net other) < suc n = subst (λ k. level (cell_net k) < suc n) (sym numbers) low in
          pin_ground n other pin there cell net ground there_listed at none reads (omega (arith, is_level, as_low))

  -- ---- a tree from its root on

  module _ (n : ℕ) (ground : Ground n) (tree : PlainTree) (listed : Contains implementation.trees tree) where
    abbrev Has : Wire → Type 0
    Has wire = Contains (left_wires tree.edges ++ entered_wires tree.edges) wire

    abbrev Unentered : Wire → Type 0
    Unentered wire = Contains (entered_wires tree.edges) wire → ⊥

    unentered_ground : (wire : Wire) → Has wire → Unentered wire → ((number : ℕ) (site : Site) → Contains implementation.cells (number, site) → pin_wire fabric site lut_o ≡ wire → ⊥) → G wire
    unentered_ground wire has none no_output = grounded (λ from units leads. by_step from wire units leads refl)
      where
        by_step : (from to : Wire) (units : ℕ) → Leads from to units → to ≡ wire → G from
        by_step from to units (along_pair e pair) same = absurd (none (entered_by tree (from, wire) (of_tree tree listed wire has from (subst (IsTreeEdge implementation from) same e))))
        by_step from to units (along_join e join) same = absurd (none (entered_by tree (from, wire) (of_tree tree listed wire has from (subst (IsTreeEdge implementation from) same e))))
        by_step from to units (through other pin there cell net there_listed at no_latch reads) same = absurd (no_output other there there_listed same)

    constant_apart : (value : PlainDrive) (wire : Wire) → IsConstant fabric value wire → (number : ℕ) (site : Site) → Contains implementation.cells (number, site) → pin_wire fabric site lut_o ≡ wire → ⊥
    constant_apart value wire is number site cell_listed same =
        let moved : IsIndexOf fabric (pin_wire fabric site lut_o).0 is.x is.y (dest_of is.row is.bit) = subst (λ (w : Wire). IsIndexOf fabric w.0 is.x is.y (dest_of is.row is.bit)) (sym same) is.wire_is in
        let plain = (one_wire fabric (pin_wire fabric site lut_o).0 site.x site.y is.x is.y (pin_of site.bel 7) (dest_of is.row is.bit)
        (index site kinds.Lut4c 7 (of_cell number site cell_listed) (omega arith)) moved).2 in
        let worse : ⊥ = cc in
        worse

    -- a wire that no edge enters, and at which the net may begin
    root_ground : (net : Net) → level net < suc n → (wire : Wire) → Has wire → Unentered wire → IsRoot fabric implementation net wire → G wire
    root_ground zero_net low wire has none is = unentered_ground wire has none (constant_apart zero_bit wire is)
    root_ground one_net low wire has none is = unentered_ground wire has none (constant_apart one_bit wire is)
    root_ground (port_net port) low wire has none is =
        unentered_ground wire has none (λ number site cell_listed same.
        (let pins = (apart_pins site is.site kinds.Lut4c kinds.Io lut_o pad_o (of_cell number site cell_listed) (omega arith) (of_input port is.site is.listed) (omega arith) (same ∙ is.wire_is)).1 in
        omega (arith, pins)))
    root_ground (cell_net number) low wire has none is = subst G (sym is.wire_is) (output_ground n number is.site ground is.listed low)

    -- a wire that an edge enters
    entered_ground : (wire from : Wire) → Contains tree.edges (from, wire) → G from → G wire
    entered_ground wire from among before = grounded (λ f units leads. by_step f wire units leads refl)
      where
        has : Has wire
        has = (stands_entered tree listed (from, wire) among).has_wire

        by_edge : (f : Wire) → IsTreeEdge implementation f wire → G f
        by_edge f e =
            let edges = one_edge tree listed (from, wire) (f, wire) among (of_tree tree listed wire has f e) refl in
            subst G (ap (λ (edge : Edge). edge.0) edges) before

        by_step : (f to : Wire) (units : ℕ) → Leads f to units → to ≡ wire → G f
        by_step f to units (along_pair e pair) same = by_edge f (subst (IsTreeEdge implementation f) same e)
        by_step f to units (along_join e join) same = by_edge f (subst (IsTreeEdge implementation f) same e)
        by_step f to units (through other pin there cell net there_listed at no_latch reads) same =
            absurd (not_entered other there there_listed from wire (record { tree = tree; listed = listed; among = among }) (sym same))

    reached_ground : (net : Net) → level net < suc n → net_of implementation tree.net ≡ net → (wire : Wire) → Reached tree.edges wire → Has wire → G wire
    reached_ground net low is wire (root none) has =
        elim (Contains-append_cases (left_wires tree.edges) (entered_wires tree.edges) wire has) [
          | inl left ↦ (
              let e = from_mapped (λ (edge : Edge). edge.0) tree.edges wire left in
              let start = (legal.nets listed.0 tree listed.1 (listed.1, listed.2)).starts e.1.0 e.0 e.1.1 (e.1.1, e.1.2) in
              elim start [
                | inl entered ↦ absurd (none (subst (λ (w : Wire). Contains (entered_wires tree.edges) w) e.2 entered))
                | inr begin ↦ root_ground net low wire has none
                    (subst (λ (w : Wire). IsRoot fabric implementation net w) e.2 (subst (λ (other : Net). IsRoot fabric implementation other e.0.0) is begin))
              ])
          | inr entered ↦ absurd (none entered)
        ]
    reached_ground net low is wire (step from among reached) has =
        entered_ground wire from among (reached_ground net low is from reached (stands_left tree listed (from, wire) among).has_wire)

  -- ---- all

  grounds : (n : ℕ) → Ground n
  grounds zero net low wire stands = absurd (omega (arith, low))
  grounds (suc n) net low wire stands =
      elim (is_in (entered_wires stands.tree.edges) wire) [
        | inl entered ↦ (
            let e = from_mapped (λ (edge : Edge). edge.1) stands.tree.edges wire entered in
            let listed = stands.listed in
            let right = (legal.reached listed.0 stands.tree listed.1 (listed.1, listed.2) e.1.0 e.0 e.1.1 (e.1.1, e.1.2)).reached in
            reached_ground n (grounds n) stands.tree stands.listed net low stands.net_is wire (subst (λ (w : Wire). Reached stands.tree.edges w) e.2 right) stands.has_wire)
        | inr none ↦ reached_ground n (grounds n) stands.tree stands.listed net low stands.net_is wire (root none) stands.has_wire
      ]

  of_edge : (from to : Wire) → IsTreeEdge implementation from to → G from
  of_edge from to e = grounds (suc (level (net_of implementation e.tree.net))) (net_of implementation e.tree.net) (omega arith) from (stands_left e.tree e.listed (from, to) e.among)

  by_any : (from to : Wire) (units : ℕ) → Leads from to units → G from
  by_any from to units (along_pair e pair) = of_edge from to e
  by_any from to units (along_join e join) = of_edge from to e
  by_any from to units (through other pin there cell net listed at none reads) =
      pin_ground (suc (cell_rank other)) other pin there cell net (grounds (suc (cell_rank other))) listed at none reads (omega arith)

  pub all_grounded : (wire : Wire) → G wire
  all_grounded wire = grounded (λ from units leads. by_any from wire units leads)
