-- The lines that name input ports.
use Rattle.std.proofs.Common.{◌≡◌, ◌≢◌, ℕ, ◌<◌, ◌≤◌, true, false, List, [], map, take, length, get_or, AllPairs, Contains, Some, eqb, sym, ap, ◌∙◌, subst, inl, inr, arith}
use Rattle.std.specs.List.{list_any}
use Rattle.std.proofs.lemmas.Bool.{eqb-true}
use Rattle.std.proofs.lemmas.Bool.Decides.{eqb_tells}
use Rattle.std.proofs.lemmas.List.{length-map, get_or_default}
use Rattle.std.proofs.lemmas.Map.Keys.{IsDistinct-from_apart}
use Rattle.std.proofs.lemmas.Map.Steps.{length-le_from_distinct_below}
use Rattle.fab_kinds.specs.declared.kind.Kind.TheVariants as kinds
use Rattle.fab_model.specs.Grid.{PlainFabric}
use Rattle.fab_fabric.specs.declared.wire.Site.{Site}
use Rattle.fab_netlist.specs.Packed.{PlainPacked}
use Rattle.fab_netlist.proofs.Members.{mapped_in, any_gives}
use Rattle.fab_implementation.specs.Plain.{Pad, PlainImplementation}
use Rattle.fab_legal.specs.inner.Keeping.{port_number}
use Rattle.fab_legal.specs.Legal.{ArePlaced}
use Rattle.fab_legal.specs.Lines.{named, IsRightLine}
use Rattle.fab_legal.specs.Turns.{AreRight}
use Rattle.fab_legal.specs.WellMade.{IsWellMadePacked}
use Rattle.fab_legal.proofs.Lists.{at_default, at_from_mapped}
use Rattle.fab_legal.proofs.Members.{from_mapped}
use Rattle.fab_legal.proofs.Once.{before_in, known_thing}
use Rattle.fab_legal.proofs.PortNumbers.{known_number, name_at, same_name}
use Rattle.fab_implementation.specs.OnFabric.{kind_at}
use Rattle.fab_ways_laws.proofs.InputPins.{kind_of_line}
use Rattle.fab_nodes_laws.proofs.NetSinks.{mapped_at}
use Rattle.fab_route.specs.inner.Wanted.{input_lines}

abbrev name_of : Pad → List ℕ
name_of pad = pad.0

module _ (fabric : PlainFabric) (packed : PlainPacked) (placement : PlainImplementation) (placed : ArePlaced fabric packed placement) where
  abbrev IsKnown : List ℕ → Type 0
  IsKnown port = Contains packed.inputs port

  right : AreRight (IsRightLine fabric kinds.Io IsKnown) placement.ins
  right = placed.ports.ins.lines_right

  -- no name stands in two lines
  pub names_apart : AllPairs (λ first second. first ≢ second) (named placement.ins)
  names_apart i j d less inside same =
      let first = at_from_mapped name_of placement.ins i (get_or (named placement.ins) i d) (at_default (named placement.ins) i d (omega (arith, less, inside))) in
      let second = at_from_mapped name_of placement.ins j (get_or (named placement.ins) j d) (at_default (named placement.ins) j d inside) in
      let before = before_in placement.ins i j first.0 less (omega (arith, second.1.0)) first.1 in
      (right j second.0 second.1.0 second.1).first
      (subst (λ (name : List ℕ). Contains (named (take j placement.ins)) name) (first.2 ∙ same ∙ sym second.2) (mapped_in name_of (take j placement.ins) first.0 before))

  name_known : (name : List ℕ) → Contains (named placement.ins) name → IsKnown name
  name_known name here =
      let line = from_mapped name_of placement.ins name here in subst IsKnown line.2 (known_thing IsKnown fabric kinds.Io placement.ins line.0 right line.1)

  -- the number of a port among those of the design
  abbrev in_order : List ℕ → ℕ
  in_order name = port_number packed.inputs name

  abbrev in_orders : List ℕ
  in_orders = map in_order (named placement.ins)

  orders_apart : (i j d : ℕ) → i < j → j < length in_orders → eqb (get_or in_orders i d) (get_or in_orders j d) ≡ false
  orders_apart i j d less inside =
      let long : j < length (named placement.ins) = omega (arith, inside, length-map (named placement.ins) in_order) in
      let first = at_from_mapped in_order (named placement.ins) i (get_or in_orders i d) (at_default in_orders i d (omega (arith, less, inside))) in
      let second = at_from_mapped in_order (named placement.ins) j (get_or in_orders j d) (at_default in_orders j d inside) in
      elim (eqb_tells (get_or in_orders i d) (get_or in_orders j d)) [
        | inl holds ↦ (
            let known = known_number packed.inputs first.0 (name_known first.0 (i, first.1.0, first.1.1)) in
            let same : first.0 ≡ second.0 = same_name packed.inputs first.0 second.0 known (first.2 ∙ holds.1 ∙ sym second.2) in
            absurd (names_apart i j [] less long
            (get_or_default (named placement.ins) i [] first.0 first.1.0 ∙ first.1.1 ∙ same ∙ sym (get_or_default (named placement.ins) j [] second.0 second.1.0 ∙ second.1.1))))
        | inr fails ↦ fails.0
      ]

  order_low : (q : ℕ) → list_any (eqb q) in_orders ≡ true → q < length packed.inputs
  order_low q any =
      let found = any_gives (eqb q) in_orders any in
      let name = from_mapped in_order (named placement.ins) found.0 found.1 in
      let known = known_number packed.inputs name.0 (name_known name.0 name.1) in
      omega (arith, known, name.2, eqb-true q found.0 found.2)

  pub few_lines : IsWellMadePacked packed → length (named placement.ins) ≤ 16384
  few_lines made =
      omega (
        arith,
        length-le_from_distinct_below in_orders (length packed.inputs) (IsDistinct-from_apart eqb in_orders orders_apart) order_low,
        length-map (named placement.ins) in_order,
        made.few_ports,
      )

  -- the line of a port
  pub line_low : (port : List ℕ) → IsKnown port → port_number (named placement.ins) port < length placement.ins
  line_low port known = omega (arith, known_number (named placement.ins) port (placed.ports.ins.all_named port known), length-map placement.ins name_of)

  pub line_there : (port : List ℕ) (pad : Pad) → IsKnown port → pad ≡ get_or placement.ins (port_number (named placement.ins) port) pad → Contains placement.ins (port, pad.1)
  line_there port pad known read =
      let line = port_number (named placement.ins) port in
      let low = line_low port known in
      let name = at_from_mapped name_of placement.ins line (get_or (named placement.ins) line port) (at_default (named placement.ins) line port (omega (arith, low, length-map placement.ins name_of))) in
      let name_is : name.0.0 ≡ port = name.2 ∙ name_at (named placement.ins) port port (omega (arith, low, length-map placement.ins name_of)) in
      let same : name.0 ≡ pad = sym name.1.1 ∙ get_or_default placement.ins line name.0 pad low ∙ sym read in
      let whole : pad ≡ (port, pad.1) = ap (λ (n : List ℕ). (n, pad.1)) (sym (ap name_of same) ∙ name_is) in
      subst (λ (p : Pad). Contains placement.ins p) whole (line, low, sym read)

  -- the kind of the site of a port
  pub pad_kind : (port : List ℕ) (site : Site) → Contains placement.ins (port, site) → kind_at fabric site ≡ Some kinds.Io
  pad_kind port site here = kind_of_line fabric kinds.Io IsKnown placement.ins port site right here

-- the line of an input by its number
pub line_listed : (packed : PlainPacked) (placement : PlainImplementation) (lines : List ℕ) (number d : ℕ) → lines ≡ input_lines packed placement → number < length packed.inputs →
    get_or lines number d ≡ port_number (named placement.ins) (get_or packed.inputs number [])
line_listed packed placement lines number d are low =
    ap (λ (l : List ℕ). get_or l number d) are ∙ mapped_at (port_number (named placement.ins)) packed.inputs number (get_or packed.inputs number []) d (at_default packed.inputs number [] low)
