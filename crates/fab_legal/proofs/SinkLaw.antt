-- The list of sinks has what is required.
use Rattle.std.proofs.Common.{◌≡◌, ℕ, zero, suc, ◌+◌, ◌<◌, Bool, List, [], ◌∷◌, ◌++◌, map, length, All, Contains, Option, Some, None, Decides, nat_eq, refl, sym, ap, ◌∙◌, subst, inl, inr, arith}
use Rattle.std.proofs.lemmas.Bool.Decides.{Decides-eqb}
use Rattle.std.specs.List.{flat_map}
use Rattle.std.specs.Str.{bytes_eq}
use Rattle.std.proofs.lemmas.Bool.{cases_Bool, false≢true}
use Rattle.std.proofs.lemmas.Slice.Eq.{bytes_eq-Decides}
use Rattle.fab_kinds.specs.declared.kind.Kind.{Kind}
use Rattle.fab_kinds.specs.declared.kind.Kind.TheVariants as kinds
use Rattle.fab_kinds.specs.Pins.{pin_names}
use Rattle.fab_implementation.specs.fab_model.specs.Grid.{PlainFabric}
use Rattle.fab_implementation.specs.fab_fabric.specs.Fabric.{wire_count}
use Rattle.fab_implementation.specs.fab_fabric.specs.declared.wire.Site.{Site}
use Rattle.fab_implementation.specs.fab_fabric.specs.declared.wire.Wire.{Wire}
use Rattle.fab_implementation.specs.fab_netlist.specs.declared.net_id.NetId.{NetId}
use Rattle.fab_implementation.specs.fab_netlist.specs.declared.net_id.NetId.TheVariants as ids
use Rattle.fab_implementation.specs.fab_netlist.specs.Plain.{IsAt}
use Rattle.fab_implementation.specs.fab_netlist.specs.Packed.{PlainCell, PlainPacked}
use Rattle.fab_implementation.specs.fab_netlist.proofs.Members.{in_none, first_or_later, first_in, later_in, mapped_in, in_left, in_right}
use Rattle.fab_implementation.specs.fab_netlist.proofs.Stepping.{all_of}
use Rattle.fab_implementation.specs.Plain.{PlainImplementation}
use Rattle.fab_legal.specs.WellMade.{IsNetId, IsWellMadeCell, IsWellMadePacked, output_name}
use Rattle.fab_legal.specs.Lines.{named, HaveSites, IsCell, IsInput, IsOutput, CellsHaveSites, PortsHavePads}
use Rattle.fab_legal.specs.Steps.{pin_wire}
use Rattle.fab_legal.specs.Nets.{Net}
use Rattle.fab_legal.specs.Sinks.{Required, cell_input, latch_enable, latch_reset, input_released, output_shown, output_driven, Sinks, packed_net, reset_id, site_of, input_sinks, latch_sinks, cell_sinks, cells_sinks, input_port_sinks, output_port_sinks, sinks, named_sink, SinksAreRequired}
use Rattle.fab_legal.proofs.Members.{in_either, from_mapped}
use Rattle.fab_legal.proofs.Pins.{pin_within}
use Rattle.fab_legal.proofs.Once.{known_thing, one_site}

-- ---- lists

pub in_flat : {X Y : Type 0} (f : X → List Y) (xs : List X) (y : Y) → Contains (flat_map f xs) y → (x : X) × Contains xs x × Contains (f x) y
in_flat f [] y here = absurd (in_none y here)
in_flat f (x ∷ xs) y here =
    elim (in_either (f x) (flat_map f xs) y here) [
      | inl now ↦ (x, first_in x xs x refl, now)
      | inr later ↦ (let found = in_flat f xs y later in (found.0, later_in x xs found.0 found.1, found.2))
    ]

pub into_flat : {X Y : Type 0} (f : X → List Y) (xs : List X) (x : X) (y : Y) → Contains xs x → Contains (f x) y → Contains (flat_map f xs) y
into_flat f [] x y there here = absurd (in_none x there)
into_flat {X} {Y} f (z ∷ xs) x y there here =
    elim (first_or_later z xs x there) [
      | inl same ↦ in_left (f z) (flat_map f xs) y (subst (λ (w : X). Contains (f w) y) (sym same) here)
      | inr later ↦ in_right (f z) (flat_map f xs) y (into_flat f xs x y later here)
    ]

-- ---- the site of a thing

module _ {X : Type 0} (same : X → X → Bool) (tells : (a b : X) → Decides (same a b) (a ≡ b)) where
  pub site_found : (lines : List (X × Site)) (thing : X) → Contains (named lines) thing → Contains lines (thing, site_of same lines thing)
  site_found [] thing here = absurd (in_none thing here)
  site_found (line ∷ lines) thing here =
      elim (cases_Bool (same line.0 thing)) [
        | inl equal ↦ (
            let name : line.0 ≡ thing = (tells line.0 thing).0 equal in
            first_in line lines (thing, site_of same (line ∷ lines) thing) (rw equal (ap (λ (x : X). (x, line.1)) name)))
        | inr other ↦ elim (first_or_later line.0 (named lines) thing here) [
          | inl now ↦ absurd (false≢true (sym other ∙ (tells line.0 thing).1 now))
          | inr later ↦ later_in line lines (thing, site_of same (line ∷ lines) thing) (rw other (site_found lines thing later))
        ]
      ]

  module _ (fabric : PlainFabric) (kind : Kind) (IsKnown : X → Type 0) (lines : List (X × Site)) (have : HaveSites fabric kind IsKnown lines) where
    pub known_site : (thing : X) → IsKnown thing → Contains lines (thing, site_of same lines thing)
    known_site thing known = site_found lines thing (have.all_named thing known)

    -- the site of a line is the one that is found
    pub site_is : (thing : X) (site : Site) → Contains lines (thing, site) → site_of same lines thing ≡ site
    site_is thing site here =
        one_site IsKnown fabric kind lines thing (site_of same lines thing) site have.lines_right (known_site thing (known_thing IsKnown fabric kind lines (thing, site) have.lines_right here)) here

-- ---- cells

module _ (fabric : PlainFabric) where
  in_inputs : (site : Site) (pin : ℕ) (nets : List NetId) (s : NetId × Wire) → Contains (input_sinks fabric site pin nets) s →
      (j : ℕ) × (net : NetId) × IsAt nets j net × ((net, pin_wire fabric site (pin + j)) ≡ s)
  in_inputs site pin [] s here = absurd (in_none s here)
  in_inputs site pin (net ∷ nets) s here =
      elim (first_or_later (net, pin_wire fabric site pin) (input_sinks fabric site (pin + 1) nets) s here) [
        | inl now ↦ (let e : pin + 0 ≡ pin = omega arith in (0, net, (omega arith, refl), ap (λ (p : ℕ). (net, pin_wire fabric site p)) e ∙ now))
        | inr later ↦ (
            let found = in_inputs site (pin + 1) nets s later in
            let e : pin + suc found.0 ≡ pin + 1 + found.0 = omega arith in
            (suc found.0, found.1, (omega (arith, found.2.0), found.2.1), ap (λ (p : ℕ). (found.1, pin_wire fabric site p)) e ∙ found.3))
      ]

  into_inputs : (site : Site) (pin : ℕ) (nets : List NetId) (j at : ℕ) (net : NetId) → IsAt nets j net → at ≡ pin + j → Contains (input_sinks fabric site pin nets) (net, pin_wire fabric site at)
  into_inputs site pin [] j at net there is = absurd (omega (arith, there.0))
  into_inputs site pin (other ∷ nets) zero at net there is =
      let e : pin ≡ at = omega (arith, is) in
      first_in (other, pin_wire fabric site pin) (input_sinks fabric site (pin + 1) nets) (net, pin_wire fabric site at)
      (ap (λ (n : NetId). (n, pin_wire fabric site pin)) there.1 ∙ ap (λ (p : ℕ). (net, pin_wire fabric site p)) e)
  into_inputs site pin (other ∷ nets) (suc j) at net there is =
      later_in (other, pin_wire fabric site pin) (input_sinks fabric site (pin + 1) nets) (net, pin_wire fabric site at)
      (into_inputs site (pin + 1) nets j at net (omega (arith, there.0), there.1) (omega (arith, is)))

  in_cells : (site_at : ℕ → Site) (reset : NetId) (k : ℕ) (cells : List PlainCell) (s : NetId × Wire) → Contains (cells_sinks fabric site_at reset k cells) s →
      (j : ℕ) × (cell : PlainCell) × IsAt cells j cell × Contains (cell_sinks fabric (site_at (k + j)) reset cell) s
  in_cells site_at reset k [] s here = absurd (in_none s here)
  in_cells site_at reset k (cell ∷ cells) s here =
      elim (in_either (cell_sinks fabric (site_at k) reset cell) (cells_sinks fabric site_at reset (k + 1) cells) s here) [
        | inl now ↦ (let e : k ≡ k + 0 = omega arith in (0, cell, (omega arith, refl), subst (λ (n : ℕ). Contains (cell_sinks fabric (site_at n) reset cell) s) e now))
        | inr later ↦ (
            let found = in_cells site_at reset (k + 1) cells s later in
            let e : k + 1 + found.0 ≡ k + suc found.0 = omega arith in
            (suc found.0, found.1, (omega (arith, found.2.0), found.2.1), subst (λ (n : ℕ). Contains (cell_sinks fabric (site_at n) reset found.1) s) e found.3))
      ]

  into_cells : (site_at : ℕ → Site) (reset : NetId) (k : ℕ) (cells : List PlainCell) (j at : ℕ) (cell : PlainCell) (s : NetId × Wire) → IsAt cells j cell → at ≡ k + j →
      Contains (cell_sinks fabric (site_at at) reset cell) s → Contains (cells_sinks fabric site_at reset k cells) s
  into_cells site_at reset k [] j at cell s there is here = absurd (omega (arith, there.0))
  into_cells site_at reset k (other ∷ cells) zero at cell s there is here =
      let e : at ≡ k = omega (arith, is) in
      in_left (cell_sinks fabric (site_at k) reset other) (cells_sinks fabric site_at reset (k + 1) cells) s
      (subst (λ (n : ℕ). Contains (cell_sinks fabric (site_at n) reset other) s) e (subst (λ (c : PlainCell). Contains (cell_sinks fabric (site_at at) reset c) s) (sym there.1) here))
  into_cells site_at reset k (other ∷ cells) (suc j) at cell s there is here =
      in_right (cell_sinks fabric (site_at k) reset other) (cells_sinks fabric site_at reset (k + 1) cells) s
      (into_cells site_at reset (k + 1) cells j at cell s (omega (arith, there.0), there.1) (omega (arith, is)) here)

-- ---- both directions

module _ (fabric : PlainFabric) (packed : PlainPacked) (i : PlainImplementation) (cells : CellsHaveSites fabric packed i) (ports : PortsHavePads fabric packed i) where
  abbrev reset_net : NetId
  reset_net = reset_id packed.reset

  abbrev IsOne : Net × Wire → Type 0
  IsOne s = Required fabric packed i s.0 s.1

  cell_site : (number : ℕ) → number < length packed.cells → Contains i.cells (number, site_of nat_eq i.cells number)
  cell_site number known = known_site nat_eq Decides-eqb fabric kinds.Lut4c (IsCell packed) i.cells cells number known

  latch_required : (number : ℕ) (cell : PlainCell) (site : Site) (latch : Option ℕ) (s : NetId × Wire) → IsAt packed.cells number cell → Contains i.cells (number, site) → cell.latch ≡ latch →
      Contains (latch_sinks fabric site reset_net latch) s → IsOne (named_sink packed s)
  latch_required number cell site None s at there is here = absurd (in_none s here)
  latch_required number cell site (Some init) s at there is here =
      elim (first_or_later (ids.One, pin_wire fabric site 6) ((reset_net, pin_wire fabric site 5) ∷ []) s here) [
        | inl enable ↦ subst (λ (t : NetId × Wire). IsOne (named_sink packed t)) enable (latch_enable there at is)
        | inr later ↦ elim (first_or_later (reset_net, pin_wire fabric site 5) [] s later) [
          | inl reset ↦ subst (λ (t : NetId × Wire). IsOne (named_sink packed t)) reset (latch_reset there at is)
          | inr none ↦ absurd (in_none s none)
        ]
      ]

  cell_required : (number : ℕ) (cell : PlainCell) (s : NetId × Wire) → IsAt packed.cells number cell → Contains (cell_sinks fabric (site_of nat_eq i.cells number) reset_net cell) s → IsOne (named_sink packed s)
  cell_required number cell s at here =
      let site = site_of nat_eq i.cells number in
      let there = cell_site number at.0 in
      elim (in_either (input_sinks fabric site 0 cell.inputs) (latch_sinks fabric site reset_net cell.latch) s here) [
        | inl input ↦ (
            let found = in_inputs fabric site 0 cell.inputs s input in
            let e : found.0 ≡ 0 + found.0 = omega arith in
            let required : IsOne (packed_net packed found.1, pin_wire fabric site found.0) = cell_input there at found.2 in
            subst (λ (t : NetId × Wire). IsOne (named_sink packed t)) (ap (λ (p : ℕ). (found.1, pin_wire fabric site p)) e ∙ found.3) required)
        | inr latch ↦ latch_required number cell site cell.latch s at there refl latch
      ]

  input_required : (port : List ℕ) (s : NetId × Wire) → Contains packed.inputs port → Contains (input_port_sinks fabric (site_of bytes_eq i.ins) port) s → IsOne (named_sink packed s)
  input_required port s known here =
      elim (first_or_later (ids.Zero, pin_wire fabric (site_of bytes_eq i.ins port) 1) [] s here) [
        | inl now ↦ subst (λ (t : NetId × Wire). IsOne (named_sink packed t)) now
            (input_released (known_site bytes_eq bytes_eq-Decides fabric kinds.Io (IsInput packed) i.ins ports.ins port known))
        | inr none ↦ absurd (in_none s none)
      ]

  output_required : (output : List ℕ × NetId) (s : NetId × Wire) → Contains packed.outputs output → Contains (output_port_sinks fabric (site_of bytes_eq i.outs) output) s → IsOne (named_sink packed s)
  output_required output s known here =
      let site = site_of bytes_eq i.outs output.0 in
      let there : Contains i.outs (output.0, site) =
      known_site bytes_eq bytes_eq-Decides fabric kinds.Io (IsOutput packed) i.outs ports.outs output.0 (mapped_in output_name packed.outputs output known) in
      elim (first_or_later (output.1, pin_wire fabric site 0) ((ids.One, pin_wire fabric site 1) ∷ []) s here) [
        | inl shown ↦ subst (λ (t : NetId × Wire). IsOne (named_sink packed t)) shown (output_shown there known)
        | inr later ↦ elim (first_or_later (ids.One, pin_wire fabric site 1) [] s later) [
          | inl driven ↦ subst (λ (t : NetId × Wire). IsOne (named_sink packed t)) driven (output_driven there)
          | inr none ↦ absurd (in_none s none)
        ]
      ]

  abbrev cell_part : Sinks
  cell_part = cells_sinks fabric (site_of nat_eq i.cells) reset_net 0 packed.cells

  abbrev input_part : Sinks
  input_part = flat_map (input_port_sinks fabric (site_of bytes_eq i.ins)) packed.inputs

  abbrev output_part : Sinks
  output_part = flat_map (output_port_sinks fabric (site_of bytes_eq i.outs)) packed.outputs

  pub sink_required : (s : NetId × Wire) → Contains (sinks fabric packed i) s → IsOne (named_sink packed s)
  sink_required s here =
      elim (in_either cell_part (input_part ++ output_part) s here) [
        | inl in_cell ↦ (
            let found = in_cells fabric (site_of nat_eq i.cells) reset_net 0 packed.cells s in_cell in
            let e : 0 + found.0 ≡ found.0 = omega arith in
            cell_required found.0 found.1 s found.2 (subst (λ (n : ℕ). Contains (cell_sinks fabric (site_of nat_eq i.cells n) reset_net found.1) s) e found.3))
        | inr in_port ↦ elim (in_either input_part output_part s in_port) [
          | inl in_input ↦ (let found = in_flat (input_port_sinks fabric (site_of bytes_eq i.ins)) packed.inputs s in_input in input_required found.0 s found.1 found.2)
          | inr in_output ↦ (let found = in_flat (output_port_sinks fabric (site_of bytes_eq i.outs)) packed.outputs s in_output in output_required found.0 s found.1 found.2)
        ]
      ]

  -- the nets of sinks exist
  reset_known : IsWellMadePacked packed → (reset : Option ℕ) → packed.reset ≡ reset → IsNetId packed (reset_id reset)
  reset_known made None is = tt
  reset_known made (Some place) is = made.reset_below place is

  latch_known : IsWellMadePacked packed → (site : Site) (latch : Option ℕ) (s : NetId × Wire) → Contains (latch_sinks fabric site reset_net latch) s → IsNetId packed s.0
  latch_known made site None s here = absurd (in_none s here)
  latch_known made site (Some init) s here =
      elim (first_or_later (ids.One, pin_wire fabric site 6) ((reset_net, pin_wire fabric site 5) ∷ []) s here) [
        | inl enable ↦ subst (λ (t : NetId × Wire). IsNetId packed t.0) enable tt
        | inr later ↦ elim (first_or_later (reset_net, pin_wire fabric site 5) [] s later) [
          | inl reset ↦ subst (λ (t : NetId × Wire). IsNetId packed t.0) reset (reset_known made packed.reset refl)
          | inr none ↦ absurd (in_none s none)
        ]
      ]

  cell_known : IsWellMadePacked packed → (site : Site) (cell : PlainCell) (s : NetId × Wire) → All (IsNetId packed) cell.inputs → Contains (cell_sinks fabric site reset_net cell) s → IsNetId packed s.0
  cell_known made site cell s nets here =
      elim (in_either (input_sinks fabric site 0 cell.inputs) (latch_sinks fabric site reset_net cell.latch) s here) [
        | inl input ↦ (
            let found = in_inputs fabric site 0 cell.inputs s input in
            subst (λ (t : NetId × Wire). IsNetId packed t.0) found.3 (subst (λ (n : NetId). IsNetId packed n) found.2.1 (nets found.0 found.1 found.2.0)))
        | inr latch ↦ latch_known made site cell.latch s latch
      ]

  output_known : (output : List ℕ × NetId) (site : Site) (s : NetId × Wire) → IsNetId packed output.1 → Contains ((output.1, pin_wire fabric site 0) ∷ (ids.One, pin_wire fabric site 1) ∷ []) s → IsNetId packed s.0
  output_known output site s known here =
      elim (first_or_later (output.1, pin_wire fabric site 0) ((ids.One, pin_wire fabric site 1) ∷ []) s here) [
        | inl shown ↦ subst (λ (t : NetId × Wire). IsNetId packed t.0) shown known
        | inr later ↦ elim (first_or_later (ids.One, pin_wire fabric site 1) [] s later) [
          | inl driven ↦ subst (λ (t : NetId × Wire). IsNetId packed t.0) driven tt
          | inr none ↦ absurd (in_none s none)
        ]
      ]

  pub sink_known : IsWellMadePacked packed → (s : NetId × Wire) → Contains (sinks fabric packed i) s → IsNetId packed s.0
  sink_known made s here =
      elim (in_either cell_part (input_part ++ output_part) s here) [
        | inl in_cell ↦ (
            let found = in_cells fabric (site_of nat_eq i.cells) reset_net 0 packed.cells s in_cell in
            let well = subst (λ (c : PlainCell). IsWellMadeCell packed c) found.2.1 (made.cells found.0 found.1 found.2.0) in
            cell_known made (site_of nat_eq i.cells (0 + found.0)) found.1 s well.nets found.3)
        | inr in_port ↦ elim (in_either input_part output_part s in_port) [
          | inl in_input ↦ (
              let found = in_flat (input_port_sinks fabric (site_of bytes_eq i.ins)) packed.inputs s in_input in
              elim (first_or_later (ids.Zero, pin_wire fabric (site_of bytes_eq i.ins found.0) 1) [] s found.2) [
                | inl now ↦ subst (λ (t : NetId × Wire). IsNetId packed t.0) now tt
                | inr none ↦ absurd (in_none s none)
              ])
          | inr in_output ↦ (
              let found = in_flat (output_port_sinks fabric (site_of bytes_eq i.outs)) packed.outputs s in_output in
              let known = subst (λ (o : List ℕ × NetId). IsNetId packed o.1) found.1.2 (made.nets found.1.0 found.0 found.1.1) in
              output_known found.0 (site_of bytes_eq i.outs found.0.0) s known found.2)
        ]
      ]

  -- the wires of sinks are wires
  line_pin : {X : Type 0} (kind : Kind) (IsKnown : X → Type 0) (lines : List (X × Site)) (thing : X) (site : Site) (pin : ℕ) → HaveSites fabric kind IsKnown lines → Contains lines (thing, site) →
      pin < length (pin_names kind) → (pin_wire fabric site pin).0 < wire_count fabric
  line_pin kind IsKnown lines thing site pin have here few =
      pin_within fabric site pin (kind, (have.lines_right here.0 (thing, site) here.1 (here.1, here.2)).of_kind, few)

  pub required_within : IsWellMadePacked packed → (net : Net) (wire : Wire) → Required fabric packed i net wire → wire.0 < wire_count fabric
  required_within made net wire (cell_input {number} {pin} {site} {cell} {net = input} there at at_pin) =
      let well = subst (λ (c : PlainCell). IsWellMadeCell packed c) at.1 (made.cells number cell at.0) in
      line_pin kinds.Lut4c (IsCell packed) i.cells number site pin cells there (omega (arith, well.few_inputs, at_pin.0))
  required_within made net wire (latch_enable {number} {init} {site} {cell} there at latch) = line_pin kinds.Lut4c (IsCell packed) i.cells number site 6 cells there (omega arith)
  required_within made net wire (latch_reset {number} {init} {site} {cell} there at latch) = line_pin kinds.Lut4c (IsCell packed) i.cells number site 5 cells there (omega arith)
  required_within made net wire (input_released {port} {site} there) = line_pin kinds.Io (IsInput packed) i.ins port site 1 ports.ins there (omega arith)
  required_within made net wire (output_shown {port} {site} {net = shown} there known) = line_pin kinds.Io (IsOutput packed) i.outs port site 0 ports.outs there (omega arith)
  required_within made net wire (output_driven {port} {site} there) = line_pin kinds.Io (IsOutput packed) i.outs port site 1 ports.outs there (omega arith)

  listed : (s : NetId × Wire) → Contains (sinks fabric packed i) s → Contains (map (named_sink packed) (sinks fabric packed i)) (named_sink packed s)
  listed s here = mapped_in (named_sink packed) (sinks fabric packed i) s here

  of_cell : (number : ℕ) (site : Site) (cell : PlainCell) (s : NetId × Wire) → Contains i.cells (number, site) → IsAt packed.cells number cell → Contains (cell_sinks fabric site reset_net cell) s →
      Contains (sinks fabric packed i) s
  of_cell number site cell s there at here =
      let same : site ≡ site_of nat_eq i.cells number = sym (site_is nat_eq Decides-eqb fabric kinds.Lut4c (IsCell packed) i.cells cells number site there) in
      in_left cell_part (input_part ++ output_part) s
      (into_cells fabric (site_of nat_eq i.cells) reset_net 0 packed.cells number number cell s at (omega arith) (subst (λ (t : Site). Contains (cell_sinks fabric t reset_net cell) s) same here))

  of_latch : (number : ℕ) (site : Site) (cell : PlainCell) (init : ℕ) (s : NetId × Wire) → Contains i.cells (number, site) → IsAt packed.cells number cell → cell.latch ≡ Some init →
      Contains (latch_sinks fabric site reset_net (Some init)) s → Contains (sinks fabric packed i) s
  of_latch number site cell init s there at latch here =
      of_cell number site cell s there at
      (in_right (input_sinks fabric site 0 cell.inputs) (latch_sinks fabric site reset_net cell.latch) s (subst (λ (l : Option ℕ). Contains (latch_sinks fabric site reset_net l) s) (sym latch) here))

  of_output : (output : List ℕ × NetId) (site : Site) (s : NetId × Wire) → Contains i.outs (output.0, site) → Contains packed.outputs output →
      Contains ((output.1, pin_wire fabric site 0) ∷ (ids.One, pin_wire fabric site 1) ∷ []) s → Contains (sinks fabric packed i) s
  of_output output site s there known here =
      let same : site ≡ site_of bytes_eq i.outs output.0 = sym (site_is bytes_eq bytes_eq-Decides fabric kinds.Io (IsOutput packed) i.outs ports.outs output.0 site there) in
      in_right cell_part (input_part ++ output_part) s (in_right input_part output_part s
      (into_flat (output_port_sinks fabric (site_of bytes_eq i.outs)) packed.outputs output s known
      (subst (λ (t : Site). Contains ((output.1, pin_wire fabric t 0) ∷ (ids.One, pin_wire fabric t 1) ∷ []) s) same here)))

  pub required_sink : (net : Net) (wire : Wire) → Required fabric packed i net wire → Contains (map (named_sink packed) (sinks fabric packed i)) (net, wire)
  required_sink net wire (cell_input {number} {pin} {site} {cell} {net = input} there at at_pin) =
      listed (input, pin_wire fabric site pin) (of_cell number site cell (input, pin_wire fabric site pin) there at
      (in_left (input_sinks fabric site 0 cell.inputs) (latch_sinks fabric site reset_net cell.latch) (input, pin_wire fabric site pin) (into_inputs fabric site 0 cell.inputs pin pin input at_pin (omega arith))))
  required_sink net wire (latch_enable {number} {init} {site} {cell} there at latch) =
      listed (ids.One, pin_wire fabric site 6) (of_latch number site cell init (ids.One, pin_wire fabric site 6) there at latch
      (first_in (ids.One, pin_wire fabric site 6) ((reset_net, pin_wire fabric site 5) ∷ []) (ids.One, pin_wire fabric site 6) refl))
  required_sink net wire (latch_reset {number} {init} {site} {cell} there at latch) =
      listed (reset_net, pin_wire fabric site 5) (of_latch number site cell init (reset_net, pin_wire fabric site 5) there at latch
      (later_in (ids.One, pin_wire fabric site 6) ((reset_net, pin_wire fabric site 5) ∷ []) (reset_net, pin_wire fabric site 5)
      (first_in (reset_net, pin_wire fabric site 5) [] (reset_net, pin_wire fabric site 5) refl)))
  required_sink net wire (input_released {port} {site} there) =
      let same : site ≡ site_of bytes_eq i.ins port = sym (site_is bytes_eq bytes_eq-Decides fabric kinds.Io (IsInput packed) i.ins ports.ins port site there) in
      listed (ids.Zero, pin_wire fabric site 1) (in_right cell_part (input_part ++ output_part) (ids.Zero, pin_wire fabric site 1) (in_left input_part output_part (ids.Zero, pin_wire fabric site 1)
      (into_flat (input_port_sinks fabric (site_of bytes_eq i.ins)) packed.inputs port (ids.Zero, pin_wire fabric site 1)
      (known_thing (IsInput packed) fabric kinds.Io i.ins (port, site) ports.ins.lines_right there)
      (first_in (ids.Zero, pin_wire fabric (site_of bytes_eq i.ins port) 1) [] (ids.Zero, pin_wire fabric site 1) (ap (λ (t : Site). (ids.Zero, pin_wire fabric t 1)) (sym same))))))
  required_sink net wire (output_shown {port} {site} {net = shown} there known) =
      listed (shown, pin_wire fabric site 0) (of_output (port, shown) site (shown, pin_wire fabric site 0) there known
      (first_in (shown, pin_wire fabric site 0) ((ids.One, pin_wire fabric site 1) ∷ []) (shown, pin_wire fabric site 0) refl))
  required_sink net wire (output_driven {port} {site} there) =
      let known = from_mapped output_name packed.outputs port (known_thing (IsOutput packed) fabric kinds.Io i.outs (port, site) ports.outs.lines_right there) in
      listed (ids.One, pin_wire fabric site 1)
      (of_output known.0 site (ids.One, pin_wire fabric site 1) (subst (λ (p : List ℕ). Contains i.outs (p, site)) (sym known.2) there) known.1
      (later_in (known.0.1, pin_wire fabric site 0) ((ids.One, pin_wire fabric site 1) ∷ []) (ids.One, pin_wire fabric site 1)
      (first_in (ids.One, pin_wire fabric site 1) [] (ids.One, pin_wire fabric site 1) refl)))

  pub listed_required : (net : Net) (wire : Wire) → Contains (map (named_sink packed) (sinks fabric packed i)) (net, wire) → Required fabric packed i net wire
  listed_required net wire here =
      let found = from_mapped (named_sink packed) (sinks fabric packed i) (net, wire) here in
      subst (λ (s : Net × Wire). IsOne s) found.2 (sink_required found.0 found.1)

pub sinks_are_required : SinksAreRequired
sinks_are_required fabric packed implementation made cells ports net wire =
    (listed_required fabric packed implementation cells ports net wire, required_sink fabric packed implementation cells ports net wire)

-- the wires of the list are wires
pub sinks_within : (fabric : PlainFabric) (packed : PlainPacked) (implementation : PlainImplementation) → IsWellMadePacked packed → CellsHaveSites fabric packed implementation → PortsHavePads fabric packed implementation →
    All (λ sink. sink.1.0 < wire_count fabric) (sinks fabric packed implementation)
sinks_within fabric packed implementation made cells ports =
    all_of (λ (sink : NetId × Wire). sink.1.0 < wire_count fabric) (sinks fabric packed implementation) (λ sink here.
    required_within fabric packed implementation cells ports made (packed_net packed sink.0) sink.1
    (listed_required fabric packed implementation cells ports (packed_net packed sink.0) sink.1 (mapped_in (named_sink packed) (sinks fabric packed implementation) sink here)))
