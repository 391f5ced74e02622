-- Which wires of steps, roots and sinks are matrix inputs, and which ones a switch matrix drives.
use Rattle.std.proofs.Common.{◌≡◌, ℕ, ◌<◌, ◌≤◌, Bool, true, false, not, List, length, Contains, Option, Some, None, option_map, option_and_then, slice_get, nat_lt, refl, sym, ap, ◌∙◌, subst, arith}
use Rattle.std.specs.Option.{option_map_or}
use Rattle.std.proofs.lemmas.Bool.{false≢true, lt-ltb, le-ltb}
use Rattle.std.proofs.lemmas.Option.{same_Some, slice_get-map}
use Rattle.fab_kinds.specs.declared.kind.Kind.{Kind}
use Rattle.fab_kinds.specs.declared.kind.Kind.TheVariants as kinds
use Rattle.fab_kinds.specs.Pins.{input_count, pin_names}
use Rattle.fab_select.specs.declared.pair.Pair.{Pair}
use Rattle.fab_model.specs.declared.tiles.WireRow.{WireRow}
use Rattle.fab_model.specs.declared.tiles.Bel.{Bel}
use Rattle.fab_model.specs.Rows.{is_jump, is_named, source_bits}
use Rattle.fab_model.specs.Tiles.{PlainTile, IsPair, TileWire, source_bit, dest_bit, bel_pin, tile_wires, wire_passes, is_matrix_output}
use Rattle.fab_model.specs.Wires.{PlainWire, source_of, dest_of, pin_of, wire_of, plain_wires}
use Rattle.fab_model.specs.Cascade.{row_of_tile, join_to, row_join_from}
use Rattle.fab_model.specs.Joins.{RowPlace}
use Rattle.fab_model.specs.Grid.{PlainFabric, tile_at}
use Rattle.fab_model.specs.Drive.{PlainDrive, zero_bit, one_bit}
use Rattle.fab_model.proofs.Wires.{plain_wires_are_wires}
use Rattle.fab_fabric.specs.Fabric.{AreTiles}
use Rattle.fab_fabric.specs.Wires.{IsIndexOf, row_place, dest_wire, source_wire, wire_join_to, wire_join_from}
use Rattle.fab_fabric.specs.declared.wire.Site.{Site}
use Rattle.fab_fabric.specs.declared.wire.Wire.{Wire}
use Rattle.fab_fabric.specs.declared.fabric.joins.RowAt.{RowAt}
use Rattle.fab_fabric.proofs.Numbered.{one_wire, some_item, wires_are_named, wire_with_number}
use Rattle.fab_fabric.proofs.Pairs.{passes_named}
use Rattle.fab_fabric.proofs.Joined.{join_lands}
use Rattle.fab_netlist.specs.Packed.{PlainPacked}
use Rattle.fab_implementation.specs.Plain.{PlainImplementation}
use Rattle.fab_implementation.specs.OnFabric.{kind_at}
use Rattle.fab_legal.specs.Legal.{ArePlaced}
use Rattle.fab_legal.specs.Steps.{IsPaired, IsJoined, IsConstant, pin_wire, HasPin}
use Rattle.fab_legal.specs.Nets.{Net, zero_net, one_net, port_net, cell_net, IsRoot}
use Rattle.fab_legal.proofs.Pins.{is_tile_at, pin_parts}
use Rattle.fab_ways_laws.proofs.Lists.{none_some, mapped_some}
use Rattle.fab_ways_laws.proofs.InputPins.{IsInputPin, pin_index, kind_of_line}
use Rattle.fab_ways_laws.proofs.Origins.{to_join}
use Rattle.fab_nodes_laws.specs.Nodes.{IsMatrixInput}

-- whether the switch matrix of a tile drives a wire
abbrev pub is_driven : PlainTile → PlainWire → Bool
is_driven tile plain = option_map_or is_matrix_output (wire_of tile plain) false

-- a wire that a switch matrix drives
pub record IsDriven (fabric : PlainFabric) (wire : Wire) : Type 0 where
  pub x : ℕ
  pub y : ℕ
  pub plain : PlainWire
  pub is_wire : IsIndexOf fabric wire.0 x y plain
  pub driven : is_driven is_wire.is_wire.tile plain ≡ true

-- ---- the wire of a number that passes a test

negated : (b : Bool) → not b ≡ true → b ≡ false
negated true e = absurd (false≢true e)
negated false e = refl

-- the same wire by its row or BEL
passing : (test : TileWire → Bool) (tile : PlainTile) (number : ℕ) → wire_passes test tile number ≡ true →
    (plain : PlainWire) × (slice_get (plain_wires tile) number ≡ Some plain) × (option_map_or test (wire_of tile plain) false ≡ true)
passing test tile number passes =
    let item = some_item (plain_wires tile) number (omega (arith, passes_named test tile number passes, wires_are_named tile)) in
    let both : option_map (wire_of tile) (slice_get (plain_wires tile) number) ≡ option_map (λ (w : TileWire). Some w) (slice_get (tile_wires tile) number) =
    sym (slice_get-map (wire_of tile) (plain_wires tile) number) ∙ ap (λ ws. slice_get ws number) (plain_wires_are_wires tile)
    ∙ slice_get-map (λ (w : TileWire). Some w) (tile_wires tile) number in
    (item.0, item.1, passes_too (slice_get (tile_wires tile) number) (wire_of tile item.0) (sym (ap (option_map (wire_of tile)) item.1) ∙ both) passes)
  where
    of_wire : Option TileWire → Bool
    of_wire None = false
    of_wire (Some w) = test w

    some_none : (o : Option TileWire) → Some o ≡ None → ⊥
    some_none o e = cc

    passes_too : (o p : Option TileWire) → Some p ≡ option_map (λ (w : TileWire). Some w) o → of_wire o ≡ true → option_map_or test p false ≡ true
    passes_too None p e pass = absurd (false≢true pass)
    passes_too (Some w) p e pass = subst (λ (q : Option TileWire). option_map_or test q false ≡ true) (sym (same_Some p (Some w) e)) pass

undriven : (o : Option TileWire) → option_map_or (λ wire. not (is_matrix_output wire)) o false ≡ true → option_map_or is_matrix_output o false ≡ false
undriven None e = absurd (false≢true e)
undriven (Some w) e = negated (is_matrix_output w) e

-- ---- kinds of plain wires

source_driven : (rows : Option WireRow) (bit : ℕ) → bit < option_map_or source_bits rows 0 → option_map_or is_matrix_output (option_map (λ found. source_bit found bit) rows) false ≡ true
source_driven None bit few = absurd (omega (arith, few))
source_driven (Some row) bit few = refl

dest_undriven : (rows : Option WireRow) (bit : ℕ) → option_map_or is_matrix_output (option_map (λ found. dest_bit found bit) rows) false ≡ false
dest_undriven None bit = refl
dest_undriven (Some row) bit = refl

module _ (fabric : PlainFabric) where
  -- what a matrix drives is no matrix input
  pub driven_or_input : (wire : Wire) → IsDriven fabric wire → IsMatrixInput fabric wire → ⊥
  driven_or_input wire d i =
      let same = one_wire fabric wire.0 d.x d.y i.x i.y d.plain i.plain d.is_wire i.is_wire in
      let tile : d.is_wire.is_wire.tile ≡ i.is_wire.is_wire.tile =
      same_Some d.is_wire.is_wire.tile i.is_wire.is_wire.tile
      (sym d.is_wire.is_wire.tile_is ∙ ap (λ (a : ℕ). tile_at fabric a d.y) same.0 ∙ ap (λ (b : ℕ). tile_at fabric i.x b) same.1 ∙ i.is_wire.is_wire.tile_is) in
      false≢true (sym i.undriven ∙ sym (ap (λ (t : PlainTile). is_driven t i.plain) tile) ∙ sym (ap (is_driven d.is_wire.is_wire.tile) same.2) ∙ d.driven)

  module _ (tiles : AreTiles fabric) where
    -- ---- pairs

    module _ (from to : Wire) (p : IsPaired fabric from to) where
      is_pair : IsPair p.tile p.pair
      is_pair = subst (λ (q : Pair). IsPair p.tile q) p.listed.2 ((is_tile_at fabric p.x p.y p.tile p.tile_is tiles).pairs p.listed.0 p.pair p.listed.1)

      pub pair_input : IsMatrixInput fabric from
      pair_input =
          let found = passing (λ wire. not (is_matrix_output wire)) p.tile p.pair.input is_pair.input in
          let is = wire_with_number fabric p.x p.y p.pair.input p.tile found.0 p.tile_is found.1 in
          let same : is.is_wire.tile ≡ p.tile = same_Some is.is_wire.tile p.tile (sym is.is_wire.tile_is ∙ p.tile_is) in
          subst (λ (w : Wire). IsMatrixInput fabric w) (sym p.from_is)
          (record { x = p.x; y = p.y; plain = found.0; is_wire = is; undriven = ap (λ (t : PlainTile). is_driven t found.0) same ∙ undriven (wire_of p.tile found.0) found.2 })

      pub pair_driven : IsDriven fabric to
      pair_driven =
          let found = passing is_matrix_output p.tile p.pair.output is_pair.output in
          let is = wire_with_number fabric p.x p.y p.pair.output p.tile found.0 p.tile_is found.1 in
          let same : is.is_wire.tile ≡ p.tile = same_Some is.is_wire.tile p.tile (sym is.is_wire.tile_is ∙ p.tile_is) in
          subst (λ (w : Wire). IsDriven fabric w) (sym p.to_is)
          (record { x = p.x; y = p.y; plain = found.0; is_wire = is; driven = ap (λ (t : PlainTile). is_driven t found.0) same ∙ found.2 })

    -- ---- joins

    pub join_driven : (from to : Wire) → IsJoined fabric from to → IsDriven fabric from
    join_driven from to j = by_plain j.plain j.from_is j.joined
      where
        by_plain : (plain : PlainWire) → IsIndexOf fabric from.0 j.x j.y plain → wire_join_to fabric j.x j.y plain ≡ Some to → IsDriven fabric from
        by_plain (dest_of row bit) is joined = absurd (none_some to joined)
        by_plain (pin_of bel pin) is joined = absurd (none_some to joined)
        by_plain (source_of row bit) is joined =
            record { x = j.x; y = j.y; plain = source_of row bit; is_wire = is; driven = source_driven (slice_get is.is_wire.tile.rows row) bit is.is_wire.is_wire }

    dest_input : (wire : Wire) (x y row bit : ℕ) → IsIndexOf fabric wire.0 x y (dest_of row bit) → IsMatrixInput fabric wire
    dest_input wire x y row bit is = record { x = x; y = y; plain = dest_of row bit; is_wire = is; undriven = dest_undriven (slice_get is.is_wire.tile.rows row) bit }

    pub join_input : (from to : Wire) → IsJoined fabric from to → IsMatrixInput fabric to
    join_input from to j = by_plain j.plain j.from_is j.joined
      where
        by_plain : (plain : PlainWire) → IsIndexOf fabric from.0 j.x j.y plain → wire_join_to fabric j.x j.y plain ≡ Some to → IsMatrixInput fabric to
        by_plain (dest_of row bit) is joined = absurd (none_some to joined)
        by_plain (pin_of bel pin) is joined = absurd (none_some to joined)
        by_plain (source_of row bit) is joined =
            let end = mapped_some (dest_wire fabric) (join_to fabric (row_place j.x j.y row) bit) to joined in
            let there : RowAt = record { x = end.0.0.x; y = end.0.0.y; row = end.0.0.row } in
            let has = join_lands fabric (record { x = j.x; y = j.y; row = row }) there bit end.0.1 tiles is.is_wire end.1 in
            dest_input to there.x there.y there.row end.0.1 (record { is_wire = has; is_index = sym (ap (λ (w : Wire). w.0) end.2) })

    -- a wire is joined to one other at most
    pub one_join : (from first second : Wire) → IsJoined fabric from first → IsJoined fabric from second → first ≡ second
    one_join from first second a b =
        let same = one_wire fabric from.0 a.x a.y b.x b.y a.plain b.plain a.from_is b.from_is in
        same_Some first second
        (sym a.joined ∙ ap (λ (x : ℕ). wire_join_to fabric x a.y a.plain) same.0 ∙ ap (λ (y : ℕ). wire_join_to fabric b.x y a.plain) same.1 ∙ ap (wire_join_to fabric b.x b.y) same.2 ∙ b.joined)

    -- ---- pins

    no_source : (bel pin row bit : ℕ) → pin_of bel pin ≡ source_of row bit → ⊥
    no_source bel pin row bit e = cc

    no_dest : (bel pin row bit : ℕ) → pin_of bel pin ≡ dest_of row bit → ⊥
    no_dest bel pin row bit e = cc

    -- a pin is joined to nothing
    pub pin_unjoined : (from to : Wire) (x y bel pin : ℕ) → IsIndexOf fabric from.0 x y (pin_of bel pin) → IsJoined fabric from to → ⊥
    pin_unjoined from to x y bel pin is j = by_plain j.plain j.from_is j.joined
      where
        by_plain : (plain : PlainWire) → IsIndexOf fabric from.0 j.x j.y plain → wire_join_to fabric j.x j.y plain ≡ Some to → ⊥
        by_plain (dest_of row bit) at joined = none_some to joined
        by_plain (pin_of bel2 pin2) at joined = none_some to joined
        by_plain (source_of row bit) at joined = no_source bel pin row bit (one_wire fabric from.0 x y j.x j.y (pin_of bel pin) (source_of row bit) is at).2

    -- and nothing is joined to it
    pub unjoined_pin : (from to : Wire) (x y bel pin : ℕ) → IsIndexOf fabric to.0 x y (pin_of bel pin) → IsJoined fabric from to → ⊥
    unjoined_pin from to x y bel pin is j = none_some from (to_join fabric tiles to from x y (pin_of bel pin) is j)

    -- the kind of the BEL that a site has
    bel_kind : (site : Site) (kind : Kind) (tile : PlainTile) (bel : Bel) → kind_at fabric site ≡ Some kind → tile_at fabric site.x site.y ≡ Some tile → slice_get tile.bels site.bel ≡ Some bel → bel.kind ≡ kind
    bel_kind site kind tile bel kind_is tile_is bel_is =
        same_Some bel.kind kind
        (sym (ap (λ (o : Option Bel). option_map (λ (b : Bel). b.kind) o) bel_is)
        ∙ sym (ap (λ (o : Option PlainTile). option_map (λ (b : Bel). b.kind) (option_and_then (λ t. slice_get t.bels site.bel) o)) tile_is) ∙ kind_is)

    pin_test : (site : Site) (kind : Kind) (pin : ℕ) (low : Bool) → kind_at fabric site ≡ Some kind → (has : HasPin fabric site pin) → nat_lt pin (input_count kind) ≡ low →
        is_driven (pin_index fabric site pin has).is_wire.tile (pin_of site.bel pin) ≡ low
    pin_test site kind pin low kind_is has test =
        let parts = pin_parts fabric site pin has in
        let same = bel_kind site kind parts.tile parts.bel kind_is parts.tile_is parts.bel_is in
        let is = pin_index fabric site pin has in
        let tile : is.is_wire.tile ≡ parts.tile = same_Some is.is_wire.tile parts.tile (sym is.is_wire.tile_is ∙ parts.tile_is) in
        ap (λ (t : PlainTile). is_driven t (pin_of site.bel pin)) tile
        ∙ ap (λ (o : Option Bel). option_map_or is_matrix_output (option_map (λ found. bel_pin found pin) o) false) parts.bel_is ∙ ap (λ (k : Kind). nat_lt pin (input_count k)) same ∙ test

    pub input_pin_driven : (wire : Wire) → IsInputPin fabric wire → IsDriven fabric wire
    input_pin_driven wire s =
        subst (λ (w : Wire). IsDriven fabric w) (sym s.wire_is)
        (let has : HasPin fabric s.site s.pin = (s.kind, s.kind_is, more_pins s.kind s.pin s.low) in
        record {
          x = s.site.x;
          y = s.site.y;
          plain = pin_of s.site.bel s.pin;
          is_wire = pin_index fabric s.site s.pin has;
          driven = pin_test s.site s.kind s.pin true s.kind_is has (lt-ltb s.pin (input_count s.kind) s.low);
        })
      where
        more_pins : (kind : Kind) (pin : ℕ) → pin < input_count kind → pin < length (pin_names kind)
        more_pins kinds.Lut4c pin low = omega (arith, low)
        more_pins kinds.Io pin low = omega (arith, low)
        more_pins kinds.Mux8 pin low = omega (arith, low)

    output_pin_input : (site : Site) (kind : Kind) (pin : ℕ) → kind_at fabric site ≡ Some kind → input_count kind ≤ pin → pin < length (pin_names kind) → IsMatrixInput fabric (pin_wire fabric site pin)
    output_pin_input site kind pin kind_is high few =
        let has : HasPin fabric site pin = (kind, kind_is, few) in
        record {
          x = site.x;
          y = site.y;
          plain = pin_of site.bel pin;
          is_wire = pin_index fabric site pin has;
          undriven = pin_test site kind pin false kind_is has (le-ltb pin (input_count kind) high);
        }

    -- ---- roots

    unsourced_row : (place : RowPlace) (tile : PlainTile) (row : WireRow) (bit : ℕ) → is_jump row.dir ≡ true → is_named row.source ≡ false →
        row_join_from fabric bit (record { place = place; tile = tile; row = row }) ≡ None
    unsourced_row place tile row bit jumps unnamed = rw (jumps, unnamed) refl

    -- nothing is joined to a constant
    constant_unjoined : (value : PlainDrive) (from to : Wire) → IsConstant fabric value to → IsJoined fabric from to → ⊥
    constant_unjoined value from to c j =
        let place = row_place c.x c.y c.row in
        let none : wire_join_from fabric c.x c.y (dest_of c.row c.bit) ≡ None =
        ap (λ (t : Option PlainTile). option_map (source_wire fabric) (option_and_then (row_join_from fabric c.bit) (option_and_then (row_of_tile place) t))) c.stands.tile_is
        ∙ ap (λ (r : Option WireRow). option_map (source_wire fabric) (option_and_then (row_join_from fabric c.bit) (option_map (λ row. record { place = place; tile = c.tile; row = row }) r))) c.stands.row_is
        ∙ ap (option_map (source_wire fabric)) (unsourced_row place c.tile c.found c.bit c.jumps c.unsourced) in
        none_some from (sym none ∙ to_join fabric tiles to from c.x c.y (dest_of c.row c.bit) c.wire_is j)

    module _ (packed : PlainPacked) (placement : PlainImplementation) (placed : ArePlaced fabric packed placement) where
      pad_pin : (port : List ℕ) (site : Site) → Contains placement.ins (port, site) → kind_at fabric site ≡ Some kinds.Io
      pad_pin port site here = kind_of_line fabric kinds.Io (λ p. Contains packed.inputs p) placement.ins port site placed.ports.ins.lines_right here

      lut_pin : (number : ℕ) (site : Site) → Contains placement.cells (number, site) → kind_at fabric site ≡ Some kinds.Lut4c
      lut_pin number site here = kind_of_line fabric kinds.Lut4c (λ n. n < length packed.cells) placement.cells number site placed.cells.lines_right here

      pub root_input : (net : Net) (wire : Wire) → IsRoot fabric placement net wire → IsMatrixInput fabric wire
      root_input zero_net wire c = dest_input wire c.x c.y c.row c.bit c.wire_is
      root_input one_net wire c = dest_input wire c.x c.y c.row c.bit c.wire_is
      root_input (port_net port) wire s = subst (λ (w : Wire). IsMatrixInput fabric w) (sym s.wire_is) (output_pin_input s.site kinds.Io 2 (pad_pin port s.site s.listed) (omega arith) (omega arith))
      root_input (cell_net number) wire s = subst (λ (w : Wire). IsMatrixInput fabric w) (sym s.wire_is) (output_pin_input s.site kinds.Lut4c 7 (lut_pin number s.site s.listed) (omega arith) (omega arith))

      -- nothing is joined to a root
      pub root_unjoined : (net : Net) (from wire : Wire) → IsRoot fabric placement net wire → IsJoined fabric from wire → ⊥
      root_unjoined zero_net from wire c j = constant_unjoined zero_bit from wire c j
      root_unjoined one_net from wire c j = constant_unjoined one_bit from wire c j
      root_unjoined (port_net port) from wire s j =
          unjoined_pin from (pin_wire fabric s.site 2) s.site.x s.site.y s.site.bel 2 (pin_index fabric s.site 2 (kinds.Io, pad_pin port s.site s.listed, omega arith)) (subst (λ (w : Wire). IsJoined fabric from w) s.wire_is j)
      root_unjoined (cell_net number) from wire s j =
          unjoined_pin from (pin_wire fabric s.site 7) s.site.x s.site.y s.site.bel 7 (pin_index fabric s.site 7 (kinds.Lut4c, lut_pin number s.site s.listed, omega arith)) (subst (λ (w : Wire). IsJoined fabric from w) s.wire_is j)
