-- What the passes over a legal design put into its tables are its starts, steps and ends.
use Rattle.std.proofs.Common.{◌≡◌, ◌⊎◌, ◌↔◌, ℕ, ◌<◌, ◌≤◌, List, [], length, get_or, refl, sym, ap, ◌∙◌, subst, inl, inr, arith, Option, Some, Contains, Vec, Global, All}
use Rattle.std.proofs.lemmas.List.{get_or_default}
use Rattle.std.proofs.lemmas.List.Elements.{All-contains}
use Rattle.fab_kinds.specs.declared.kind.Kind.TheVariants as kinds
use Rattle.fab_kinds.specs.Pins.{lut_o, lut_sr, pad_i, pad_o}
use Rattle.fab_model.specs.Grid.{PlainFabric}
use Rattle.fab_fabric.specs.Fabric.{AreTiles, IsFabric, wire_count}
use Rattle.fab_fabric.specs.Wires.{numbered_wire}
use Rattle.fab_fabric.specs.declared.wire.Site.{Site}
use Rattle.fab_fabric.specs.declared.wire.Wire.{Wire}
use Rattle.fab_netlist.specs.declared.net_id.NetId.TheVariants as ids
use Rattle.fab_netlist.specs.Plain.{IsAt}
use Rattle.fab_netlist.specs.Packed.{PlainCell, PlainPacked}
use Rattle.fab_implementation.specs.Plain.{Edge, Pad, PlainTree, PlainImplementation}
use Rattle.fab_implementation.specs.OnFabric.{HasWires, IsOnFabric, kind_at}
use Rattle.fab_legal.specs.WellMade.{IsWellMadeCell, IsWellMadePacked}
use Rattle.fab_legal.specs.Lines.{IsCell, IsInput, IsOutput}
use Rattle.fab_legal.specs.Steps.{IsPaired, IsJoined, pin_wire}
use Rattle.fab_legal.specs.Legal.{IsLegal}
use Rattle.fab_legal.proofs.Lists.{at_default}
use Rattle.fab_legal.proofs.Pins.{pin_within}
use Rattle.fab_ways_laws.specs.Bounds.{wire_distance}
use Rattle.fab_ways_laws.proofs.Bounded.{join_ends}
use Rattle.fab_ways_laws.proofs.InputPins.{kind_of_line}
use Rattle.fab_nodes_laws.proofs.MatrixInputs.{driven_or_input, pair_driven, join_input}
use Rattle.fab_timing.specs.Walks.{IsStart, input_pad, latch_output, IsTreeEdge, IsTimedStep, along_pair, along_join, through, IsEnd, output_pad, latch_input, latch_reset}
use Rattle.fab_timing.specs.inner.Adding.{Adds, AddedBy}
use Rattle.fab_timing.specs.inner.Design.{StepsAre, StartsAre, EndsAre}
use Rattle.fab_timing.specs.inner.Passes.{TimedPin, TimedStep, IsListed, HasStep, AreApart, IsPinOf, IsLatchStart, IsLatchEnd, IsCellLine, OfLine, IsCellStep, IsEdgeStep, IsTreeStep}
use Rattle.fab_timing.specs.inner.Tables.{IsShortStep, before_in, most_units, sum_at}
use Rattle.fab_timing.proofs.Pins.{same_pin}

module _ (fabric : PlainFabric) (packed : PlainPacked) (fixed_pads : List Pad) (implementation : PlainImplementation) (legal : IsLegal fabric packed fixed_pads implementation) where
  -- ---- sites

  cell_kind : (number : ℕ) (site : Site) → Contains implementation.cells (number, site) → kind_at fabric site ≡ Some kinds.Lut4c
  cell_kind number site listed = kind_of_line fabric kinds.Lut4c (IsCell packed) implementation.cells number site legal.placed.cells.lines_right listed

  in_kind : (port : List ℕ) (site : Site) → Contains implementation.ins (port, site) → kind_at fabric site ≡ Some kinds.Io
  in_kind port site listed = kind_of_line fabric kinds.Io (IsInput packed) implementation.ins port site legal.placed.ports.ins.lines_right listed

  out_kind : (port : List ℕ) (site : Site) → Contains implementation.outs (port, site) → kind_at fabric site ≡ Some kinds.Io
  out_kind port site listed = kind_of_line fabric kinds.Io (IsOutput packed) implementation.outs port site legal.placed.ports.outs.lines_right listed

  -- an item at its place is a member
  at_place : {X : Type 0} (xs : List X) (place : ℕ) (x d : X) → place < length xs → get_or xs place d ≡ x → Contains xs x
  at_place xs place x d inside is = (place, inside, get_or_default xs place x d inside ∙ is)

  pub cells_known : All (IsCellLine fabric packed) implementation.cells
  cells_known = λ place d inside.
      let line = get_or implementation.cells place d in
      let right = legal.placed.cells.lines_right place line inside (inside, get_or_default implementation.cells place line d inside) in
      record { known = right.known; of_kind = right.of_kind }

  pub ins_pads : All (λ (pad : Pad). kind_at fabric pad.1 ≡ Some kinds.Io) implementation.ins
  ins_pads = λ place d inside.
      let line = get_or implementation.ins place d in
      (legal.placed.ports.ins.lines_right place line inside (inside, get_or_default implementation.ins place line d inside)).of_kind

  pub outs_pads : All (λ (pad : Pad). kind_at fabric pad.1 ≡ Some kinds.Io) implementation.outs
  outs_pads = λ place d inside.
      let line = get_or implementation.outs place d in
      (legal.placed.ports.outs.lines_right place line inside (inside, get_or_default implementation.outs place line d inside)).of_kind

  -- a cell reads few pins
  few_pins : IsWellMadePacked packed → (number pin : ℕ) (cell : PlainCell) → IsAt packed.cells number cell → pin < length cell.inputs → pin < 4
  few_pins made number pin cell at reads =
      let few = (All-contains (IsWellMadeCell packed) packed.cells cell made.cells (number, at.0, at.1)).few_inputs in
      omega (arith, reads, few)

  -- ---- starts

  module _ (starts : List (ℕ × ℕ)) (Pads : TimedPin → Type 0) (first : Adds (AddedBy (IsPinOf fabric pad_o 2) implementation.ins) (IsListed []) Pads)
      (second : Adds (AddedBy (OfLine packed (IsLatchStart fabric)) implementation.cells) Pads (IsListed starts)) where
    start_of : (wire : Wire) (units : ℕ) → IsListed starts (wire, units) → IsStart fabric packed implementation wire units
    start_of wire units listed =
        elim ((second (wire, units)).0 listed) [
          | inl pads ↦ elim ((first (wire, units)).0 pads) [
            | inl none ↦ absurd (omega (arith, none.1))
            | inr pad ↦ subst (λ (at : TimedPin). IsStart fabric packed implementation at.0 at.1) (sym pad.2) (input_pad {port = pad.0.0} {site = pad.0.1} pad.1)
          ]
          | inr line ↦ subst (λ (at : TimedPin). IsStart fabric packed implementation at.0 at.1) (sym line.2.2.2)
              (latch_output {number = line.0.0} {init = line.2.2.0} {site = line.0.1} {cell = line.2.0} line.1 line.2.1 line.2.2.1)
        ]

    start_listed : (wire : Wire) (units : ℕ) → IsStart fabric packed implementation wire units → IsListed starts (wire, units)
    start_listed wire units (input_pad {port = port} {site = site} listed) = (second (wire, units)).1 (inl ((first (wire, units)).1 (inr ((port, site), listed, refl))))
    start_listed wire units (latch_output {number = number} {init = init} {site = site} {cell = cell} listed at some) =
        (second (wire, units)).1 (inr ((number, site), listed, (cell, at, (init, some, refl))))

    pub starts_are : StartsAre fabric packed implementation starts
    starts_are wire units = (start_of wire units, start_listed wire units)

    pub starts_within : All (λ (start : ℕ × ℕ). start.0 < wire_count fabric) starts
    starts_within = λ place d inside.
        let start = get_or starts place d in
        within (numbered_wire start.0) start.1 (start_of (numbered_wire start.0) start.1 (at_place starts place start d inside refl))
      where
        within : (wire : Wire) (units : ℕ) → IsStart fabric packed implementation wire units → wire.0 < wire_count fabric
        within wire units (input_pad {port = port} {site = site} listed) = pin_within fabric site pad_o (kinds.Io, in_kind port site listed, omega arith)
        within wire units (latch_output {number = number} {init = init} {site = site} {cell = cell} listed at some) =
            pin_within fabric site lut_o (kinds.Lut4c, cell_kind number site listed, omega arith)

    -- O of a pad is not that of a cell
    pad_or_cell : (port : List ℕ) (number : ℕ) (pad site : Site) → Contains implementation.ins (port, pad) → Contains implementation.cells (number, site) → pin_wire fabric pad pad_o ≡ pin_wire fabric site lut_o → ⊥
    pad_or_cell port number pad site in_ins in_cells same =
        let pins = (same_pin fabric pad site pad_o lut_o (kinds.Io, in_kind port pad in_ins, omega arith) (kinds.Lut4c, cell_kind number site in_cells, omega arith) same).1 in
        omega (arith, pins)

    one_start : (wire other : Wire) (a b : ℕ) → wire ≡ other → IsStart fabric packed implementation wire a → IsStart fabric packed implementation other b → a ≡ b
    one_start wire other a b same (input_pad listed) (input_pad also) = refl
    one_start wire other a b same (input_pad {port = port} {site = pad} listed) (latch_output {number = number} {site = site} also at some) =
        absurd (pad_or_cell port number pad site listed also same)
    one_start wire other a b same (latch_output {number = number} {site = site} listed at some) (input_pad {port = port} {site = pad} also) =
        absurd (pad_or_cell port number pad site also listed (sym same))
    one_start wire other a b same (latch_output listed at some) (latch_output also there other_some) = refl

    pub starts_apart : AreApart starts
    starts_apart a b in_a in_b same =
        let units : a.1 ≡ b.1 = one_start (numbered_wire a.0) (numbered_wire b.0) a.1 b.1 (ap numbered_wire same) (start_of (numbered_wire a.0) a.1 in_a) (start_of (numbered_wire b.0) b.1 in_b) in
        λ j. (same j, units j)

  -- ---- ends

  module _ (ends : List (ℕ × ℕ)) (Pads : TimedPin → Type 0) (first : Adds (AddedBy (IsPinOf fabric pad_i 2) implementation.outs) (IsListed []) Pads)
      (second : Adds (AddedBy (OfLine packed (IsLatchEnd fabric)) implementation.cells) Pads (IsListed ends)) where
    of_latch : (line : ℕ × Site) (cell : PlainCell) (at : TimedPin) → Contains implementation.cells line → IsAt packed.cells line.0 cell → IsLatchEnd fabric line.1 cell at → IsEnd fabric packed implementation at.0 at.1
    of_latch line cell at listed there is =
        elim is.2 [
          | inl pin ↦ subst (λ (other : TimedPin). IsEnd fabric packed implementation other.0 other.1) (sym pin.2)
              (latch_input {number = line.0} {init = is.0} {site = line.1} {cell = cell} {net = get_or cell.inputs pin.0 ids.Zero} listed there is.1 (at_default cell.inputs pin.0 ids.Zero pin.1))
          | inr reset ↦ subst (λ (other : TimedPin). IsEnd fabric packed implementation other.0 other.1) (sym reset)
              (latch_reset {number = line.0} {init = is.0} {site = line.1} {cell = cell} listed there is.1)
        ]

    end_of : (wire : Wire) (units : ℕ) → IsListed ends (wire, units) → IsEnd fabric packed implementation wire units
    end_of wire units listed =
        elim ((second (wire, units)).0 listed) [
          | inl pads ↦ elim ((first (wire, units)).0 pads) [
            | inl none ↦ absurd (omega (arith, none.1))
            | inr pad ↦ subst (λ (at : TimedPin). IsEnd fabric packed implementation at.0 at.1) (sym pad.2) (output_pad {port = pad.0.0} {site = pad.0.1} pad.1)
          ]
          | inr line ↦ of_latch line.0 line.2.0 (wire, units) line.1 line.2.1 line.2.2
        ]

    end_listed : (wire : Wire) (units : ℕ) → IsEnd fabric packed implementation wire units → IsListed ends (wire, units)
    end_listed wire units (output_pad {port = port} {site = site} listed) = (second (wire, units)).1 (inl ((first (wire, units)).1 (inr ((port, site), listed, refl))))
    end_listed wire units (latch_input {number = number} {pin = pin} {init = init} {site = site} {cell = cell} listed at some reads) =
        (second (wire, units)).1 (inr ((number, site), listed, (cell, at, (init, some, inl (pin, reads.0, refl)))))
    end_listed wire units (latch_reset {number = number} {init = init} {site = site} {cell = cell} listed at some) =
        (second (wire, units)).1 (inr ((number, site), listed, (cell, at, (init, some, inr refl))))

    pub ends_are : EndsAre fabric packed implementation ends
    ends_are wire units = (end_of wire units, end_listed wire units)

    -- ends are wires of the fabric
    pub ends_within : IsWellMadePacked packed → All (λ (end : ℕ × ℕ). end.0 < wire_count fabric) ends
    ends_within made = λ place d inside.
        let end = get_or ends place d in
        within (numbered_wire end.0) end.1 (end_of (numbered_wire end.0) end.1 (at_place ends place end d inside refl))
      where
        within : (wire : Wire) (units : ℕ) → IsEnd fabric packed implementation wire units → wire.0 < wire_count fabric
        within wire units (output_pad {port = port} {site = site} listed) = pin_within fabric site pad_i (kinds.Io, out_kind port site listed, omega arith)
        within wire units (latch_input {number = number} {pin = pin} {init = init} {site = site} {cell = cell} listed at some reads) =
            pin_within fabric site pin (kinds.Lut4c, cell_kind number site listed, (let few = few_pins made number pin cell at reads.0 in omega (arith, few)))
        within wire units (latch_reset {number = number} {init = init} {site = site} {cell = cell} listed at some) =
            pin_within fabric site lut_sr (kinds.Lut4c, cell_kind number site listed, omega arith)

  -- ---- steps

  -- no pair leads where a join leads
  not_both : AreTiles fabric → (from to : Wire) → IsPaired fabric from to → IsJoined fabric from to → ⊥
  not_both tiles from to pair join = driven_or_input fabric to (pair_driven fabric tiles from to pair) (join_input fabric tiles from to join)

  module _ (tiles : AreTiles fabric) (before : List (Vec (ℕ × ℕ) Global))
      (all : Adds (AddedBy (OfLine packed (IsCellStep fabric)) implementation.cells) (AddedBy (IsTreeStep fabric) implementation.trees) (HasStep before)) where
    edge_timed : (tree : PlainTree) (edge : Edge) (step : TimedStep) → Contains implementation.trees tree → Contains tree.edges edge → IsEdgeStep fabric edge step →
        IsTimedStep fabric packed implementation edge.0 edge.1 step.2
    edge_timed tree edge step listed among is =
        let e : IsTreeEdge implementation edge.0 edge.1 = record { tree = tree; listed = listed; among = among } in
        elim is.2 [
          | inl joined ↦ subst (IsTimedStep fabric packed implementation edge.0 edge.1) (sym joined.1) (along_join e joined.0)
          | inr other ↦ elim (legal.steps listed.0 tree listed.1 (listed.1, listed.2) among.0 edge among.1 (among.1, among.2)) [
            | inl pair ↦ subst (IsTimedStep fabric packed implementation edge.0 edge.1) (sym other.1) (along_pair e pair)
            | inr join ↦ absurd (other.0 join)
          ]
        ]

    moved : (step : TimedStep) (from to : Wire) → step.0 ≡ from → step.1 ≡ to → IsTimedStep fabric packed implementation from to step.2 → IsTimedStep fabric packed implementation step.0 step.1 step.2
    moved step from to from_is to_is is =
        subst (λ (w : Wire). IsTimedStep fabric packed implementation w step.1 step.2) (sym from_is)
        (subst (λ (w : Wire). IsTimedStep fabric packed implementation from w step.2) (sym to_is) is)

    cell_timed : (line : ℕ × Site) (cell : PlainCell) (step : TimedStep) → Contains implementation.cells line → IsAt packed.cells line.0 cell → IsCellStep fabric line.1 cell step →
        IsTimedStep fabric packed implementation step.0 step.1 step.2
    cell_timed line cell step listed at is =
        let pin = is.1.0 in
        subst (λ (other : TimedStep). IsTimedStep fabric packed implementation other.0 other.1 other.2) (sym is.1.2)
        (through line.0 pin line.1 cell (get_or cell.inputs pin ids.Zero) listed at is.0 (at_default cell.inputs pin ids.Zero is.1.1))

    timed : (step : TimedStep) → HasStep before step → IsTimedStep fabric packed implementation step.0 step.1 step.2
    timed step has =
        elim ((all step).0 has) [
          | inl tree ↦ (
              let edge = tree.2.0 in
              moved step edge.0 edge.1 tree.2.2.0 tree.2.2.1 (edge_timed tree.0 edge step tree.1 tree.2.1 tree.2.2))
          | inr line ↦ cell_timed line.0 line.2.0 step line.1 line.2.1 line.2.2
        ]

    has_step : (from to : Wire) (units : ℕ) → IsTimedStep fabric packed implementation from to units → HasStep before (from, to, units)
    has_step from to units (along_pair e pair) =
        (all (from, to, units)).1 (inl (e.tree, e.listed, ((from, to), e.among, (refl, refl, inr ((λ join. not_both tiles from to pair join), refl)))))
    has_step from to units (along_join e join) = (all (from, to, units)).1 (inl (e.tree, e.listed, ((from, to), e.among, (refl, refl, inl (join, refl)))))
    has_step from to units (through number pin site cell net listed at none reads) =
        (all (from, to, units)).1 (inr ((number, site), listed, (cell, at, (none, (pin, reads.0, refl)))))

    -- steps begin at wires of the fabric, and have units
    module _ (made : IsWellMadePacked packed) (on : IsOnFabric fabric implementation) where
      from_edge : (from to : Wire) → IsTreeEdge implementation from to → from.0 < wire_count fabric
      from_edge from to e =
          (All-contains (HasWires fabric) e.tree.edges (from, to) (All-contains (λ (tree : PlainTree). All (HasWires fabric) tree.edges) implementation.trees e.tree on.wires e.listed) e.among).0

      from_within : (from to : Wire) (units : ℕ) → IsTimedStep fabric packed implementation from to units → from.0 < wire_count fabric
      from_within from to units (along_pair e pair) = from_edge from to e
      from_within from to units (along_join e join) = from_edge from to e
      from_within from to units (through number pin site cell net listed at none reads) =
          pin_within fabric site pin (kinds.Lut4c, cell_kind number site listed, (let few = few_pins made number pin cell at reads.0 in omega (arith, few)))

      -- a join goes no farther than from corner to corner of the greatest grid
      short_join : IsFabric fabric → (from to : Wire) → IsJoined fabric from to → wire_distance fabric from.0 to.0 < 64
      short_join is from to join =
          let joined = join_ends fabric tiles from to join in
          let a = joined.here in
          let b = joined.there in
          omega (arith, a.x_is, a.y_is, b.x_is, b.y_is, a.inside.0, a.inside.1, b.inside.0, b.inside.1, is.few_columns, is.few_rows)

      few_units : IsFabric fabric → (from to : Wire) (units : ℕ) → IsTimedStep fabric packed implementation from to units → units ≤ most_units
      few_units is from to units (along_pair e pair) = omega arith
      few_units is from to units (along_join e join) = (let short = short_join is from to join in omega (arith, short))
      few_units is from to units (through number pin site cell net listed at none reads) = omega arith

      some_units : (from to : Wire) (units : ℕ) → IsTimedStep fabric packed implementation from to units → 0 < units
      some_units from to units (along_pair e pair) = omega arith
      some_units from to units (along_join e join) = omega arith
      some_units from to units (through number pin site cell net listed at none reads) = omega arith

      pub steps_short : IsFabric fabric → (node : ℕ) → All (IsShortStep (wire_count fabric)) (before_in before node)
      steps_short is node = λ place d inside.
          let step = get_or (before_in before node) place d in
          let as_timed = timed (numbered_wire step.0, numbered_wire node, step.1) (at_place (before_in before node) place step d inside refl) in
          record {
            within = from_within (numbered_wire step.0) (numbered_wire node) step.1 as_timed;
            some = some_units (numbered_wire step.0) (numbered_wire node) step.1 as_timed;
            few = few_units is (numbered_wire step.0) (numbered_wire node) step.1 as_timed;
          }

    -- ---- both tables

    module _ (table : List (Option ℕ)) (starts : List (ℕ × ℕ)) (are : StartsAre fabric packed implementation starts)
        (is : (node units : ℕ) → (sum_at table node ≡ Some units) ↔ Contains starts (node, units)) where
      pub steps_are : StepsAre fabric packed implementation (record { starts = sum_at table; before = before_in before })
      steps_are = record {
        starts = λ wire units. ((λ some. (are wire units).0 ((is wire.0 units).0 some)), λ start. (is wire.0 units).1 ((are wire units).1 start));
        before = λ from to units. ((λ listed. timed (from, to, units) listed), λ step. has_step from to units step);
      }

      pub starts_few : (node units : ℕ) → sum_at table node ≡ Some units → units ≤ most_units
      starts_few node units some = few_start (numbered_wire node) units ((are (numbered_wire node) units).0 ((is node units).0 some))
        where
          few_start : (wire : Wire) (units : ℕ) → IsStart fabric packed implementation wire units → units ≤ most_units
          few_start wire units (input_pad listed) = omega arith
          few_start wire units (latch_output listed at some) = omega arith

  -- ---- as the passes leave them

  -- what is added by equal items, to what was equal
  as_added : {X : Type 0} {Y Z : Type 0} (IsAdded : X → Y → Type 0) (Has : Z → Y → Type 0) (given items : List X) (was none : Z) (IsThere : Y → Type 0) → given ≡ items → was ≡ none →
      Adds (AddedBy IsAdded given) (Has was) IsThere → Adds (AddedBy IsAdded items) (Has none) IsThere
  as_added {X} {Y} {Z} IsAdded Has given items was none IsThere same empty adds =
      subst (λ (xs : List X). Adds (AddedBy IsAdded xs) (Has none) IsThere) same (subst (λ (z : Z). Adds (AddedBy IsAdded given) (Has z) IsThere) empty adds)

  pub starts_made : (ins : List Pad) (cells : List (ℕ × Site)) (none pads starts : List (ℕ × ℕ)) → ins ≡ implementation.ins → cells ≡ implementation.cells → none ≡ [] →
      Adds (AddedBy (IsPinOf fabric pad_o 2) ins) (IsListed none) (IsListed pads) → Adds (AddedBy (OfLine packed (IsLatchStart fabric)) cells) (IsListed pads) (IsListed starts) →
      StartsAre fabric packed implementation starts × All (λ (start : ℕ × ℕ). start.0 < wire_count fabric) starts × AreApart starts
  starts_made ins cells none pads starts ins_are cells_are empty first second =
      let one = as_added (IsPinOf fabric pad_o 2) IsListed ins implementation.ins none [] (IsListed pads) ins_are empty first in
      let two = as_added (OfLine packed (IsLatchStart fabric)) IsListed cells implementation.cells pads pads (IsListed starts) cells_are refl second in
      (starts_are starts (IsListed pads) one two, starts_within starts (IsListed pads) one two, starts_apart starts (IsListed pads) one two)

  pub ends_made : IsWellMadePacked packed → (outs : List Pad) (cells : List (ℕ × Site)) (none pads ends : List (ℕ × ℕ)) → outs ≡ implementation.outs → cells ≡ implementation.cells → none ≡ [] →
      Adds (AddedBy (IsPinOf fabric pad_i 2) outs) (IsListed none) (IsListed pads) → Adds (AddedBy (OfLine packed (IsLatchEnd fabric)) cells) (IsListed pads) (IsListed ends) →
      EndsAre fabric packed implementation ends × All (λ (end : ℕ × ℕ). end.0 < wire_count fabric) ends
  ends_made made outs cells none pads ends outs_are cells_are empty first second =
      let one = as_added (IsPinOf fabric pad_i 2) IsListed outs implementation.outs none [] (IsListed pads) outs_are empty first in
      let two = as_added (OfLine packed (IsLatchEnd fabric)) IsListed cells implementation.cells pads pads (IsListed ends) cells_are refl second in
      (ends_are ends (IsListed pads) one two, ends_within ends (IsListed pads) one two made)

-- the edges of trees that are put into empty tables, and then cells
pub before_made : (fabric : PlainFabric) (packed : PlainPacked) (trees given_trees : List PlainTree) (cells given_cells : List (ℕ × Site)) (none edges before : List (Vec (ℕ × ℕ) Global)) →
    given_trees ≡ trees → given_cells ≡ cells → ((node : ℕ) → before_in none node ≡ []) → Adds (AddedBy (IsTreeStep fabric) given_trees) (HasStep none) (HasStep edges) →
    Adds (AddedBy (OfLine packed (IsCellStep fabric)) given_cells) (HasStep edges) (HasStep before) →
    Adds (AddedBy (OfLine packed (IsCellStep fabric)) cells) (AddedBy (IsTreeStep fabric) trees) (HasStep before)
before_made fabric packed trees given_trees cells given_cells none edges before trees_are cells_are empty first second step = (forth, back)
  where
    in_edges : AddedBy (IsTreeStep fabric) trees step → HasStep edges step
    in_edges added = (first step).1 (inr (subst (λ (ts : List PlainTree). AddedBy (IsTreeStep fabric) ts step) (sym trees_are) added))

    of_edges : HasStep edges step → AddedBy (IsTreeStep fabric) trees step
    of_edges has =
        elim ((first step).0 has) [
          | inl was ↦ absurd (let listed = subst (λ (xs : List (ℕ × ℕ)). Contains xs (step.0.0, step.2)) (empty step.1.0) was in omega (arith, listed.1))
          | inr added ↦ subst (λ (ts : List PlainTree). AddedBy (IsTreeStep fabric) ts step) trees_are added
        ]

    forth : HasStep before step → AddedBy (IsTreeStep fabric) trees step ⊎ AddedBy (OfLine packed (IsCellStep fabric)) cells step
    forth has =
        elim ((second step).0 has) [
          | inl was ↦ inl (of_edges was)
          | inr added ↦ inr (subst (λ (ls : List (ℕ × Site)). AddedBy (OfLine packed (IsCellStep fabric)) ls step) cells_are added)
        ]

    back : AddedBy (IsTreeStep fabric) trees step ⊎ AddedBy (OfLine packed (IsCellStep fabric)) cells step → HasStep before step
    back both =
        elim both [
          | inl added ↦ (second step).1 (inl (in_edges added))
          | inr added ↦ (second step).1 (inr (subst (λ (ls : List (ℕ × Site)). AddedBy (OfLine packed (IsCellStep fabric)) ls step) (sym cells_are) added))
        ]
