-- Lists of sinks, one item after another.
use Rattle.std.proofs.Common.{◌≡◌, ℕ, suc, ◌+◌, ◌<◌, List, [], ◌∷◌, ◌++◌, map, length, get_or, take, Contains, All, Some, nat_eq, refl, sym, ap, ◌∙◌, subst, arith, append_assoc, append-nil}
use Rattle.std.proofs.lemmas.Bool.Decides.{Decides-eqb}
use Rattle.std.specs.List.{flat_map}
use Rattle.std.specs.Str.{bytes_eq}
use Rattle.std.proofs.lemmas.List.{length-take-le, length-map}
use Rattle.std.proofs.lemmas.Slice.Eq.{bytes_eq-Decides}
use Rattle.fab_kinds.specs.declared.kind.Kind.{Kind}
use Rattle.fab_kinds.specs.declared.kind.Kind.TheVariants as kinds
use Rattle.fab_implementation.specs.fab_netlist.specs.declared.net_id.NetId.TheVariants as ids
use Rattle.fab_implementation.specs.OnFabric.{kind_at}
use Rattle.fab_legal.proofs.Members.{from_mapped, taken_more}
use Rattle.fab_implementation.specs.fab_model.specs.Grid.{PlainFabric}
use Rattle.fab_implementation.specs.fab_fabric.specs.declared.wire.Site.{Site}
use Rattle.fab_implementation.specs.fab_netlist.specs.declared.net_id.NetId.{NetId}
use Rattle.fab_implementation.specs.fab_netlist.specs.Plain.{IsAt}
use Rattle.fab_implementation.specs.fab_netlist.specs.Packed.{PlainCell, PlainPacked}
use Rattle.fab_implementation.specs.fab_netlist.proofs.Counts.{at_mapped}
use Rattle.fab_implementation.specs.Plain.{Pad, PlainImplementation}
use Rattle.fab_legal.specs.WellMade.{IsWellMadePacked, output_name, output_ports}
use Rattle.fab_legal.specs.Lines.{HaveSites, IsCell, IsInput, IsOutput, CellsHaveSites, PortsHavePads}
use Rattle.fab_legal.specs.Steps.{pin_wire}
use Rattle.fab_legal.specs.Sinks.{Sinks, reset_id, site_of, input_sinks, cell_sinks, cells_sinks, input_port_sinks, output_port_sinks, sinks}
use Rattle.fab_legal.specs.inner.Keeping.{AreSites, port_number, numbered_pad}
use Rattle.fab_legal.specs.inner.Kept.{AreKept, HasKinds, site_at, in_sinks, out_sinks, outs_sinks, sinks_by}
use Rattle.fab_legal.specs.declared.placed.Placed.{Placed}
use Rattle.fab_legal.proofs.Bindings.{differ_left, differ_right}
use Rattle.fab_legal.proofs.PortNumbers.{own_number, line_of_port}
use Rattle.fab_legal.proofs.SinkLaw.{site_is}

append-none : {X : Type 0} (xs : List X) → xs ++ [] ≡ xs
append-none xs = append-nil xs

-- ---- one more

input_push : (fabric : PlainFabric) (site : Site) (pin : ℕ) (nets : List NetId) (net : NetId) → input_sinks fabric site pin (nets ++ net ∷ []) ≡ input_sinks fabric site pin nets ++ (net, pin_wire fabric site (pin + length nets)) ∷ []
input_push fabric site pin [] net = let e : pin ≡ pin + 0 = omega arith in ap (λ (p : ℕ). (net, pin_wire fabric site p) ∷ []) e
input_push fabric site pin (other ∷ nets) net =
    let e : pin + 1 + length nets ≡ pin + length (other ∷ nets) = omega arith in
    ap (λ (rest : Sinks). (other, pin_wire fabric site pin) ∷ rest) (input_push fabric site (pin + 1) nets net ∙ ap (λ (p : ℕ). input_sinks fabric site (pin + 1) nets ++ (net, pin_wire fabric site p) ∷ []) e)

cells_push : (fabric : PlainFabric) (f : ℕ → Site) (reset : NetId) (k : ℕ) (cells : List PlainCell) (cell : PlainCell) → cells_sinks fabric f reset k (cells ++ cell ∷ []) ≡ cells_sinks fabric f reset k cells ++ cell_sinks fabric (f (k + length cells)) reset cell
cells_push fabric f reset k [] cell = let e : k ≡ k + 0 = omega arith in append-none (cell_sinks fabric (f k) reset cell) ∙ ap (λ (n : ℕ). cell_sinks fabric (f n) reset cell) e
cells_push fabric f reset k (other ∷ cells) cell =
    let e : k + 1 + length cells ≡ k + length (other ∷ cells) = omega arith in
    ap (λ (rest : Sinks). cell_sinks fabric (f k) reset other ++ rest) (cells_push fabric f reset (k + 1) cells cell ∙ ap (λ (n : ℕ). cells_sinks fabric f reset (k + 1) cells ++ cell_sinks fabric (f n) reset cell) e)
    ∙ sym (append_assoc (cell_sinks fabric (f k) reset other) (cells_sinks fabric f reset (k + 1) cells) (cell_sinks fabric (f (k + length (other ∷ cells))) reset cell))

outs_push : (fabric : PlainFabric) (f : ℕ → Site) (k : ℕ) (outs : List (List ℕ × NetId)) (out : List ℕ × NetId) → outs_sinks fabric f k (outs ++ out ∷ []) ≡ outs_sinks fabric f k outs ++ out_sinks fabric (f (k + length outs)) out
outs_push fabric f k [] out = let e : k ≡ k + 0 = omega arith in append-none (out_sinks fabric (f k) out) ∙ ap (λ (n : ℕ). out_sinks fabric (f n) out) e
outs_push fabric f k (other ∷ outs) out =
    let e : k + 1 + length outs ≡ k + length (other ∷ outs) = omega arith in
    ap (λ (rest : Sinks). out_sinks fabric (f k) other ++ rest) (outs_push fabric f (k + 1) outs out ∙ ap (λ (n : ℕ). outs_sinks fabric f (k + 1) outs ++ out_sinks fabric (f n) out) e)
    ∙ sym (append_assoc (out_sinks fabric (f k) other) (outs_sinks fabric f (k + 1) outs) (out_sinks fabric (f (k + length (other ∷ outs))) out))

-- what is put behind what was there
pub behind : {X : Type 0} (old now new more rest : List X) → now ≡ old ++ more → new ≡ now ++ rest → new ≡ old ++ (more ++ rest)
behind {X} old now new more rest first second = second ∙ ap (λ (l : List X). l ++ rest) first ∙ append_assoc old more rest

-- ---- the same sinks by names

cells_same : (fabric : PlainFabric) (f g : ℕ → Site) (reset : NetId) (k : ℕ) (cells : List PlainCell) → ((n : ℕ) → n < k + length cells → f n ≡ g n) → cells_sinks fabric f reset k cells ≡ cells_sinks fabric g reset k cells
cells_same fabric f g reset k [] same = refl
cells_same fabric f g reset k (cell ∷ cells) same =
    ap (λ (s : Site). cell_sinks fabric s reset cell ++ cells_sinks fabric f reset (k + 1) cells) (same k (omega arith))
    ∙ ap (λ (rest : Sinks). cell_sinks fabric (g k) reset cell ++ rest) (cells_same fabric f g reset (k + 1) cells (λ n below. same n (omega (arith, below))))

ins_same : (fabric : PlainFabric) (f : List ℕ → Site) (names : List (List ℕ)) (sites : List Site) → length sites ≡ length names →
    ((n : ℕ) (name : List ℕ) (site : Site) → IsAt names n name → IsAt sites n site → f name ≡ site) → flat_map (input_port_sinks fabric f) names ≡ flat_map (in_sinks fabric) sites
ins_same fabric f [] [] many same = refl
ins_same fabric f [] (site ∷ sites) many same = absurd (omega (arith, many))
ins_same fabric f (name ∷ names) [] many same = absurd (omega (arith, many))
ins_same fabric f (name ∷ names) (site ∷ sites) many same =
    ap (λ (s : Site). in_sinks fabric s ++ flat_map (input_port_sinks fabric f) names) (same 0 name site (omega arith, refl) (omega arith, refl))
    ∙ ap (λ (rest : Sinks). in_sinks fabric site ++ rest)
    (ins_same fabric f names sites (omega (arith, many)) (λ n a b first second. same (suc n) a b (omega (arith, first.0), first.1) (omega (arith, second.0), second.1)))

outs_same : (fabric : PlainFabric) (f : List ℕ → Site) (g : ℕ → Site) (k : ℕ) (outs : List (List ℕ × NetId)) → ((n : ℕ) (out : List ℕ × NetId) → IsAt outs n out → f out.0 ≡ g (k + n)) →
    flat_map (output_port_sinks fabric f) outs ≡ outs_sinks fabric g k outs
outs_same fabric f g k [] same = refl
outs_same fabric f g k (out ∷ outs) same =
    let e : k + 0 ≡ k = omega arith in
    ap (λ (s : Site). out_sinks fabric s out ++ flat_map (output_port_sinks fabric f) outs) (same 0 out (omega arith, refl) ∙ ap g e)
    ∙ ap (λ (rest : Sinks). out_sinks fabric (g k) out ++ rest)
    (outs_same fabric f g (k + 1) outs (λ n o at. same (suc n) o (omega (arith, at.0), at.1) ∙ ap g (next n)))
  where
    next : (n : ℕ) → k + suc n ≡ k + 1 + n
    next n = omega arith

module _ (fabric : PlainFabric) (packed : PlainPacked) (i : PlainImplementation) (placed : Placed) (made : IsWellMadePacked packed) (kept : AreKept packed i placed)
    (cells : CellsHaveSites fabric packed i) (ports : PortsHavePads fabric packed i) where
  cell_site : (n : ℕ) → n < length packed.cells → site_of nat_eq i.cells n ≡ site_at placed.cells.items n
  cell_site n below =
      site_is nat_eq Decides-eqb fabric kinds.Lut4c (IsCell packed) i.cells cells n (site_at placed.cells.items n) (kept.cells.each n (record { x = 0; y = 0; bel = 0 }) below)

  in_site : (n : ℕ) (name : List ℕ) (site : Site) → IsAt packed.inputs n name → IsAt placed.ins.sites.items n site → site_of bytes_eq i.ins name ≡ site
  in_site n name site at there =
      let number : port_number packed.inputs name ≡ n = own_number packed.inputs name n (differ_left packed.inputs (output_ports packed) made.ports_differ) at in
      let line : Contains i.ins (name, get_or placed.ins.sites.items (port_number packed.inputs name) site) =
      line_of_port fabric packed.inputs i.ins placed.ins.sites.items (name, site) ports.ins kept.ins.sites_are name site (omega (arith, number, at.0)) in
      site_is bytes_eq bytes_eq-Decides fabric kinds.Io (IsInput packed) i.ins ports.ins name _ line ∙ ap (λ (m : ℕ). get_or placed.ins.sites.items m site) number ∙ there.1

  out_site : (n : ℕ) (out : List ℕ × NetId) → IsAt packed.outputs n out → site_of bytes_eq i.outs out.0 ≡ site_at placed.outs.sites.items n
  out_site n out at =
      let name_at : IsAt (output_ports packed) n out.0 = at_mapped output_name packed.outputs n out at in
      let number : port_number (output_ports packed) out.0 ≡ n = own_number (output_ports packed) out.0 n (differ_right packed.inputs (output_ports packed) made.ports_differ) name_at in
      let d : Site = record { x = 0; y = 0; bel = 0 } in
      let line : Contains i.outs (out.0, get_or placed.outs.sites.items (port_number (output_ports packed) out.0) d) =
      line_of_port fabric (output_ports packed) i.outs placed.outs.sites.items (out.0, d) ports.outs kept.outs.sites_are out.0 d (omega (arith, number, name_at.0)) in
      site_is bytes_eq bytes_eq-Decides fabric kinds.Io (IsOutput packed) i.outs ports.outs out.0 _ line ∙ ap (λ (m : ℕ). get_or placed.outs.sites.items m d) number

  pub sinks_are : sinks_by fabric packed placed ≡ sinks fabric packed i
  sinks_are =
      let reset = reset_id packed.reset in
      let first : cells_sinks fabric (site_at placed.cells.items) reset 0 packed.cells ≡ cells_sinks fabric (site_of nat_eq i.cells) reset 0 packed.cells =
      cells_same fabric (site_at placed.cells.items) (site_of nat_eq i.cells) reset 0 packed.cells (λ n below. sym (cell_site n (omega (arith, below)))) in
      let second : flat_map (in_sinks fabric) placed.ins.sites.items ≡ flat_map (input_port_sinks fabric (site_of bytes_eq i.ins)) packed.inputs =
      sym (ins_same fabric (site_of bytes_eq i.ins) packed.inputs placed.ins.sites.items kept.ins.sites_are.as_many in_site) in
      let third : outs_sinks fabric (site_at placed.outs.sites.items) 0 packed.outputs ≡ flat_map (output_port_sinks fabric (site_of bytes_eq i.outs)) packed.outputs =
      sym (outs_same fabric (site_of bytes_eq i.outs) (site_at placed.outs.sites.items) 0 packed.outputs (λ n out at. out_site n out at ∙ ap (site_at placed.outs.sites.items) (plus n))) in
      ap (λ (l : Sinks). l ++ (flat_map (in_sinks fabric) placed.ins.sites.items ++ outs_sinks fabric (site_at placed.outs.sites.items) 0 packed.outputs)) first
      ∙ ap (λ (l : Sinks). cells_sinks fabric (site_of nat_eq i.cells) reset 0 packed.cells ++ (l ++ outs_sinks fabric (site_at placed.outs.sites.items) 0 packed.outputs)) second
      ∙ ap (λ (l : Sinks). cells_sinks fabric (site_of nat_eq i.cells) reset 0 packed.cells ++ (flat_map (input_port_sinks fabric (site_of bytes_eq i.ins)) packed.inputs ++ l)) third
    where
      plus : (n : ℕ) → n ≡ 0 + n
      plus n = omega arith

-- ---- loops

pub cells_step : (fabric : PlainFabric) (f : ℕ → Site) (reset : NetId) (cells : List PlainCell) (n : ℕ) (cell : PlainCell) (old now new : Sinks) → IsAt cells n cell → now ≡ old ++ cells_sinks fabric f reset 0 (take n cells) →
    new ≡ now ++ cell_sinks fabric (f n) reset cell → new ≡ old ++ cells_sinks fabric f reset 0 (take (n + 1) cells)
cells_step fabric f reset cells n cell old now new at so_far is =
    let count : 0 + length (take n cells) ≡ n = omega (arith, at.0, length-take-le n cells (omega (arith, at.0))) in
    behind old now new (cells_sinks fabric f reset 0 (take n cells)) (cell_sinks fabric (f n) reset cell) so_far is
    ∙ ap (λ (l : Sinks). old ++ l)
    (sym (ap (cells_sinks fabric f reset 0) (taken_more cells n cell at) ∙ cells_push fabric f reset 0 (take n cells) cell
    ∙ ap (λ (m : ℕ). cells_sinks fabric f reset 0 (take n cells) ++ cell_sinks fabric (f m) reset cell) count))

pub outs_step : (fabric : PlainFabric) (f : ℕ → Site) (outs : List (List ℕ × NetId)) (n : ℕ) (out : List ℕ × NetId) (old now first new : Sinks) → IsAt outs n out → now ≡ old ++ outs_sinks fabric f 0 (take n outs) →
    first ≡ now ++ (out.1, pin_wire fabric (f n) 0) ∷ [] → new ≡ first ++ (ids.One, pin_wire fabric (f n) 1) ∷ [] → new ≡ old ++ outs_sinks fabric f 0 (take (n + 1) outs)
outs_step fabric f outs n out old now first new at so_far one two =
    let count : 0 + length (take n outs) ≡ n = omega (arith, at.0, length-take-le n outs (omega (arith, at.0))) in
    let both : new ≡ now ++ out_sinks fabric (f n) out = behind now first new ((out.1, pin_wire fabric (f n) 0) ∷ []) ((ids.One, pin_wire fabric (f n) 1) ∷ []) one two in
    behind old now new (outs_sinks fabric f 0 (take n outs)) (out_sinks fabric (f n) out) so_far both
    ∙ ap (λ (l : Sinks). old ++ l)
    (sym (ap (outs_sinks fabric f 0) (taken_more outs n out at) ∙ outs_push fabric f 0 (take n outs) out
    ∙ ap (λ (m : ℕ). outs_sinks fabric f 0 (take n outs) ++ out_sinks fabric (f m) out) count))

-- ---- kinds

kind_of_line : {X : Type 0} (fabric : PlainFabric) (kind : Kind) (IsKnown : X → Type 0) (lines : List (X × Site)) (line : X × Site) → HaveSites fabric kind IsKnown lines → Contains lines line → kind_at fabric line.1 ≡ Some kind
kind_of_line fabric kind IsKnown lines line have here = (have.lines_right here.0 line here.1 (here.1, here.2)).of_kind

pad_kinds : (fabric : PlainFabric) (declared : List (List ℕ)) (lines : List Pad) (sites : List Site) → HaveSites fabric kinds.Io (Contains declared) lines → AreSites (map (numbered_pad declared) lines) (length declared) sites →
    All (λ site. kind_at fabric site ≡ Some kinds.Io) sites
pad_kinds fabric declared lines sites have are = λ k d inside.
    let line = from_mapped (numbered_pad declared) lines (k, get_or sites k d) (are.each k d (omega (arith, inside, are.as_many))) in
    subst (λ (s : Site). kind_at fabric s ≡ Some kinds.Io) (ap (λ (l : ℕ × Site). l.1) line.2) (kind_of_line fabric kinds.Io (Contains declared) lines line.0 have line.1)

pub have_kinds : (fabric : PlainFabric) (packed : PlainPacked) (i : PlainImplementation) (placed : Placed) → AreKept packed i placed → CellsHaveSites fabric packed i → PortsHavePads fabric packed i →
    HasKinds fabric packed placed
have_kinds fabric packed i placed kept cells ports = record {
  luts = λ k d inside. kind_of_line fabric kinds.Lut4c (IsCell packed) i.cells (k, get_or placed.cells.items k d) cells (kept.cells.each k d (omega (arith, inside, kept.cells.as_many)));
  in_pads = pad_kinds fabric packed.inputs i.ins placed.ins.sites.items ports.ins kept.ins.sites_are;
  out_pads = pad_kinds fabric (output_ports packed) i.outs placed.outs.sites.items ports.outs kept.outs.sites_are;
  all_cells = kept.cells.as_many;
  all_outs = omega (arith, kept.outs.sites_are.as_many, length-map packed.outputs output_name);
}
