-- The lines of an implementation in which items stand on sites, by their places.
use Rattle.std.proofs.Common.{◌≡◌, ℕ, ◌+◌, ◌<◌, ◌≤◌, List, [], ◌++◌, map, length, get_or, take, Some, sym, ◌∙◌, ap, subst, arith}
use Rattle.std.specs.List.{Contains}
use Rattle.std.proofs.lemmas.List.{get_or-map, get_or-take, take-map, length-map, length-take-le, get_or_append_left, get_or-append-add}
use Rattle.fab_kinds.specs.declared.kind.Kind.{Kind}
use Rattle.fab_model.specs.Tiles.{counted}
use Rattle.fab_model.specs.Grid.{PlainFabric}
use Rattle.fab_fabric.specs.declared.wire.Site.{Site}
use Rattle.fab_netlist.specs.declared.net_id.NetId.{NetId}
use Rattle.fab_netlist.specs.declared.net_id.NetId.TheVariants as ids
use Rattle.fab_netlist.specs.Plain.{IsAt}
use Rattle.fab_netlist.specs.Packed.{PlainPacked}
use Rattle.fab_implementation.specs.Plain.{Pad}
use Rattle.fab_implementation.specs.OnFabric.{kind_at}
use Rattle.fab_ways_laws.specs.fab_legal_Turns.{AreRight}
use Rattle.fab_ways_laws.specs.fab_legal_WellMade.{output_name, output_ports, ports}
use Rattle.fab_ways_laws.specs.fab_legal_Lines.{named, sited, HaveSites, IsNew, sites as all_sites}
use Rattle.fab_ways_laws.proofs.Lists.{from_counted, in_counted}
use Rattle.fab_place.specs.Pins.{item_total}
use Rattle.fab_place.specs.Standing.{site_at, input_lines, output_lines, standing}
use Rattle.fab_place.proofs.Counting.{map_counted, counted_same, counted_split, counted_list, numbered_counted}
use Rattle.fab_place.proofs.Once.{Once, once_at}

-- ---- lists in which nothing stands twice

-- what stands at a place does not stand before it
pub new_at : {X : Type 0} (xs : List X) (place : ℕ) (x : X) → Once xs → IsAt xs place x → Contains (take place xs) x → ⊥
new_at xs place x once at h =
    let short : place ≤ length xs = omega (arith, at.0) in
    let before : h.0 < place = omega (arith, h.1, length-take-le place xs short) in
    let same = once_at xs h.0 place x once (omega (arith, before, at.0)) at.0 (sym (get_or-take place xs h.0 x before) ∙ h.2 ∙ sym at.1) in
    omega (arith, same, before)

pub all_new : {X : Type 0} (xs : List X) → Once xs → AreRight IsNew xs
all_new xs once = λ place x below at. new_at xs place x once at

-- ---- lines that name known things on sites of a kind

module _ {X : Type 0} (fabric : PlainFabric) (kind : Kind) (IsKnown : X → Type 0) (lines : List (X × Site)) where
  pub have_sites : Once (named lines) → ((line : X × Site) → Contains lines line → IsKnown line.0) → ((line : X × Site) → Contains lines line → kind_at fabric line.1 ≡ Some kind) → ((thing : X) → IsKnown thing → Contains (named lines) thing)
      → HaveSites fabric kind IsKnown lines
  have_sites once known of_kind all = record {
    lines_right = λ place line below at. record {
      known = known line (place, at.0, at.1);
      first = λ h. new_at (named lines) place line.0 once
          (omega (arith, at.0, length-map lines (λ (l : X × Site). l.0)), get_or-map (λ (l : X × Site). l.0) lines place line line.0 at.0 ∙ ap (λ (l : X × Site). l.0) at.1)
          (subst (λ (things : List X). Contains things line.0) (sym (take-map (λ (l : X × Site). l.0) place lines)) h);
      of_kind = of_kind line (place, at.0, at.1);
    };
    all_named = all;
  }

-- ---- lines by place

abbrev pub no_output : List ℕ × NetId
no_output = ([], ids.Zero)

pub ins_counted : (all : List Site) (numbers : List ℕ) (first : ℕ) (inputs : List (List ℕ)) → input_lines all numbers first inputs ≡ counted (length inputs) (λ k. (get_or inputs k [], site_at all numbers (first + k)))
ins_counted all numbers first inputs =
    let line : ℕ × List ℕ → Pad = λ input. (input.1, site_at all numbers (first + input.0)) in
    ap (map line) (numbered_counted inputs []) ∙ map_counted line (length inputs) (λ k. (k, get_or inputs k []))

pub outs_counted : (all : List Site) (numbers : List ℕ) (first : ℕ) (outputs : List (List ℕ × NetId)) → output_lines all numbers first outputs ≡ counted (length outputs) (λ k. (get_or (map output_name outputs) k [], site_at all numbers (first + k)))
outs_counted all numbers first outputs =
    let line : ℕ × (List ℕ × NetId) → Pad = λ output. (output.1.0, site_at all numbers (first + output.0)) in
    let made : ℕ → Pad = λ k. ((get_or outputs k no_output).0, site_at all numbers (first + k)) in
    ap (map line) (numbered_counted outputs no_output) ∙ map_counted line (length outputs) (λ k. (k, get_or outputs k no_output))
    ∙ counted_same (length outputs) made (λ k. (get_or (map output_name outputs) k [], site_at all numbers (first + k)))
    (λ k low. ap (λ (name : List ℕ). (name, site_at all numbers (first + k))) (sym (get_or-map output_name outputs k no_output [] low)))

module _ (packed : PlainPacked) (all : List Site) (numbers : List ℕ) where
  abbrev Cells : ℕ
  Cells = length packed.cells

  abbrev Ins : ℕ
  Ins = length packed.inputs

  abbrev Outs : ℕ
  Outs = length packed.outputs

  abbrev S : ℕ → Site
  S item = site_at all numbers item

  -- the line of a port, inputs first
  abbrev pub port_line : ℕ → Pad
  port_line place = (get_or (ports packed) place [], site_at all numbers (length packed.cells + place))

  left_port : (k : ℕ) → k < Ins → get_or packed.inputs k [] ≡ get_or (ports packed) k []
  left_port k low = sym (get_or_append_left packed.inputs (output_ports packed) [] k low)

  right_port : (k : ℕ) → get_or (output_ports packed) k [] ≡ get_or (ports packed) (Ins + k) []
  right_port k = sym (get_or-append-add packed.inputs (output_ports packed) k [])

  pub ports_counted : (standing packed all numbers).ins ++ (standing packed all numbers).outs ≡ counted (Ins + Outs) port_line
  ports_counted =
      let outs_made : ℕ → Pad = λ k. (get_or (output_ports packed) k [], S ((Cells + Ins) + k)) in
      ap (λ (front : List Pad). front ++ (standing packed all numbers).outs) (ins_counted all numbers Cells packed.inputs ∙ counted_same Ins (λ k. (get_or packed.inputs k [], S (Cells + k))) port_line (λ k low. ap (λ (name : List ℕ). (name, S (Cells + k))) (left_port k low)))
      ∙ ap (λ (back : List Pad). counted Ins port_line ++ back) (outs_counted all numbers (Cells + Ins) packed.outputs
      ∙ counted_same Outs outs_made (λ k. port_line (Ins + k)) (λ k low. ap (λ (name : List ℕ). (name, S ((Cells + Ins) + k))) (right_port k) ∙ ap (λ n. (get_or (ports packed) (Ins + k) [], S n)) (let e : (Cells + Ins) + k ≡ Cells + (Ins + k) = omega arith in e)))
      ∙ sym (counted_split Ins Outs port_line)

  -- a port has its line
  pub has_port : (place : ℕ) → place < Ins + Outs → Contains ((standing packed all numbers).ins ++ (standing packed all numbers).outs) (port_line place)
  has_port place low = subst (λ (lines : List Pad). Contains lines (port_line place)) (sym ports_counted) (in_counted (Ins + Outs) port_line place low)

  pub from_port : (pad : Pad) → Contains ((standing packed all numbers).ins ++ (standing packed all numbers).outs) pad → (place : ℕ) × (place < Ins + Outs) × (port_line place ≡ pad)
  from_port pad h = from_counted (Ins + Outs) port_line pad (subst (λ (lines : List Pad). Contains lines pad) ports_counted h)

  -- the sites of all lines
  pub sites_counted : all_sites (standing packed all numbers) ≡ counted (item_total packed) S
  sites_counted =
      let ins_made : ℕ → Pad = λ k. (get_or packed.inputs k [], S (Cells + k)) in
      let outs_made : ℕ → Pad = λ k. (get_or (output_ports packed) k [], S ((Cells + Ins) + k)) in
      let front : sited (standing packed all numbers).cells ≡ counted Cells S = map_counted (λ (line : ℕ × Site). line.1) Cells (λ k. (k, S k)) in
      let middle : sited (standing packed all numbers).ins ≡ counted Ins (λ k. S (Cells + k)) =
      ap sited (ins_counted all numbers Cells packed.inputs) ∙ map_counted (λ (line : Pad). line.1) Ins ins_made in
      let back : sited (standing packed all numbers).outs ≡ counted Outs (λ k. S (Cells + (Ins + k))) =
      ap sited (outs_counted all numbers (Cells + Ins) packed.outputs) ∙ map_counted (λ (line : Pad). line.1) Outs outs_made
      ∙ counted_same Outs (λ k. S ((Cells + Ins) + k)) (λ k. S (Cells + (Ins + k))) (λ k low. ap S (let e : (Cells + Ins) + k ≡ Cells + (Ins + k) = omega arith in e)) in
      ap (λ (sites : List Site). sites ++ (sited (standing packed all numbers).ins ++ sited (standing packed all numbers).outs)) front
      ∙ ap (λ (sites : List Site). counted Cells S ++ (sites ++ sited (standing packed all numbers).outs)) middle
      ∙ ap (λ (sites : List Site). counted Cells S ++ (counted Ins (λ k. S (Cells + k)) ++ sites)) back
      ∙ ap (λ (sites : List Site). counted Cells S ++ sites) (sym (counted_split Ins Outs (λ k. S (Cells + k))))
      ∙ sym (counted_split Cells (Ins + Outs) S)

  pub cells_named : named (standing packed all numbers).cells ≡ counted Cells (λ number. number)
  cells_named = map_counted (λ (line : ℕ × Site). line.0) Cells (λ k. (k, S k))

  pub ins_named : named (standing packed all numbers).ins ≡ packed.inputs
  ins_named =
      ap named (ins_counted all numbers Cells packed.inputs) ∙ map_counted (λ (line : Pad). line.0) Ins (λ k. (get_or packed.inputs k [], S (Cells + k)))
      ∙ sym (counted_list packed.inputs [])

  pub outs_named : named (standing packed all numbers).outs ≡ output_ports packed
  outs_named =
      ap named (outs_counted all numbers (Cells + Ins) packed.outputs) ∙ map_counted (λ (line : Pad). line.0) Outs (λ k. (get_or (output_ports packed) k [], S ((Cells + Ins) + k)))
      ∙ ap (λ n. counted n (λ k. get_or (output_ports packed) k [])) (sym (length-map packed.outputs output_name)) ∙ sym (counted_list (output_ports packed) [])
