-- No two sinks of a placed design are one pin.
use Rattle.std.proofs.Common.{◌≡◌, ◌≢◌, ℕ, ◌+◌, ◌<◌, ◌≤◌, List, [], ◌∷◌, ◌++◌, map, length, take, get_or, AllPairs, Contains, Option, Some, None, nat_eq, refl, sym, ap, ◌∙◌, subst, inl, inr, arith}
use Rattle.std.specs.List.{flat_map}
use Rattle.std.specs.Str.{bytes_eq}
use Rattle.std.proofs.lemmas.Bool.Decides.{Decides-eqb}
use Rattle.std.proofs.lemmas.Slice.Eq.{bytes_eq-Decides}
use Rattle.std.proofs.lemmas.List.{length-take-le, get_or-take, get_or_default}
use Rattle.std.proofs.lemmas.List.Kept.{AllPairs-cons}
use Rattle.fab_kinds.specs.declared.kind.Kind.{Kind}
use Rattle.fab_kinds.specs.declared.kind.Kind.TheVariants as kinds
use Rattle.fab_model.specs.Wires.{pin_of}
use Rattle.fab_model.specs.Grid.{PlainFabric}
use Rattle.fab_fabric.specs.Wires.{IsIndexOf}
use Rattle.fab_fabric.specs.declared.wire.Site.{Site}
use Rattle.fab_fabric.specs.declared.wire.Wire.{Wire}
use Rattle.fab_fabric.proofs.Numbered.{one_wire}
use Rattle.fab_netlist.specs.declared.net_id.NetId.{NetId}
use Rattle.fab_netlist.specs.declared.net_id.NetId.TheVariants as ids
use Rattle.fab_netlist.specs.Plain.{IsAt}
use Rattle.fab_netlist.specs.Packed.{PlainCell, PlainPacked}
use Rattle.fab_netlist.proofs.Members.{in_none, first_or_later, first_in, later_in, mapped_in, in_left, in_right}
use Rattle.fab_netlist.proofs.Stepping.{all_of}
use Rattle.fab_implementation.specs.Plain.{PlainImplementation}
use Rattle.fab_implementation.specs.OnFabric.{kind_at}
use Rattle.fab_legal.specs.Turns.{AreRight}
use Rattle.fab_legal.specs.WellMade.{IsWellMadePacked, IsWellMadeCell, output_name, output_ports}
use Rattle.fab_legal.specs.Lines.{sited, IsNew, HaveSites}
use Rattle.fab_legal.specs.Legal.{ArePlaced}
use Rattle.fab_legal.specs.Steps.{pin_wire, HasPin}
use Rattle.fab_legal.specs.Sinks.{Sinks, reset_id, site_of, input_sinks, latch_sinks, cell_sinks, cells_sinks, input_port_sinks, output_port_sinks, sinks}
use Rattle.fab_legal.proofs.Bindings.{differ_left, differ_right}
use Rattle.fab_legal.proofs.Members.{in_either}
use Rattle.fab_legal.proofs.SinkLaw.{in_flat, known_site}
use Rattle.fab_ways_laws.proofs.Lists.{pairs_head, pairs_tail, pairs_joined}
use Rattle.fab_ways_laws.proofs.InputPins.{pin_index}

-- ---- pairs of items

no_pairs : {X : Type 0} (R : X → X → Type 0) → AllPairs R []
no_pairs R = λ i j d less inside. absurd (omega (arith, inside))

pairs_across : {X : Type 0} (R : X → X → Type 0) (xs ys : List X) → AllPairs R (xs ++ ys) → (x y : X) → Contains xs x → Contains ys y → R x y
pairs_across R [] ys apart x y first second = absurd (in_none x first)
pairs_across {X} R (z ∷ zs) ys apart x y first second = elim (first_or_later z zs x first) [
  | inl same ↦ subst (λ (w : X). R w y) same (pairs_head R z (zs ++ ys) apart y (in_right zs ys y second))
  | inr later ↦ pairs_across R zs ys (pairs_tail R z (zs ++ ys) apart) x y later second
]

unmapped : {X Y : Type 0} (R : Y → Y → Type 0) (f : X → Y) (xs : List X) → AllPairs R (map f xs) → AllPairs (λ (a b : X). R (f a) (f b)) xs
unmapped {X} R f [] apart = no_pairs (λ (a b : X). R (f a) (f b))
unmapped {X} R f (x ∷ xs) apart =
    AllPairs-cons (λ (a b : X). R (f a) (f b)) x xs
    (all_of (λ (b : X). R (f x) (f b)) xs (λ b here. pairs_head R (f x) (map f xs) apart (f b) (mapped_in f xs b here)))
    (unmapped R f xs (pairs_tail R (f x) (map f xs) apart))

module _ {X Y : Type 0} (Q : X → X → Type 0) (R : Y → Y → Type 0) (f : X → List Y) where
  -- the items of different lists differ, and those of each list do
  flat_apart : (xs : List X) → AllPairs Q xs → ((x : X) → Contains xs x → AllPairs R (f x)) → ((x z : X) → Contains xs x → Contains xs z → Q x z → (a b : Y) → Contains (f x) a → Contains (f z) b → R a b) →
      AllPairs R (flat_map f xs)
  flat_apart [] apart own across = no_pairs R
  flat_apart (x ∷ xs) apart own across =
      pairs_joined R (f x) (flat_map f xs) (own x (first_in x xs x refl))
      (flat_apart xs (pairs_tail Q x xs apart) (λ z here. own z (later_in x xs z here)) (λ z w first second q. across z w (later_in x xs z first) (later_in x xs w second) q))
      (λ a b first second.
      let found = in_flat f xs b second in
      across x found.0 (first_in x xs x refl) (later_in x xs found.0 found.1) (pairs_head Q x xs apart found.0 found.1) a b first found.2)

-- items that are new where they stand differ
new_apart : {X : Type 0} (xs : List X) → AreRight IsNew xs → AllPairs (λ a b. a ≢ b) xs
new_apart {X} xs new = λ i j d less inside same.
    let x = get_or xs j d in
    let at : IsAt xs j x = (inside, get_or_default xs j x d inside) in
    let short : length (take j xs) ≡ j = length-take-le j xs (omega (arith, inside)) in
    new j x inside at (i, omega (arith, less, short), get_or-take j xs i x less ∙ get_or_default xs i x d (omega (arith, less, inside)) ∙ same)

-- different things have different sites
one_line : {X : Type 0} (lines : List (X × Site)) → AllPairs (λ a b. a ≢ b) (sited lines) → (a b : X) (site : Site) → Contains lines (a, site) → Contains lines (b, site) → a ≡ b
one_line [] apart a b site first second = absurd (in_none (a, site) first)
one_line {X} (line ∷ lines) apart a b site first second = elim (first_or_later line lines (a, site) first) [
  | inl now ↦ elim (first_or_later line lines (b, site) second) [
    | inl too ↦ sym (ap (λ (l : X × Site). l.0) now) ∙ ap (λ (l : X × Site). l.0) too
    | inr later ↦ absurd (clash now b later)
  ]
  | inr before ↦ elim (first_or_later line lines (b, site) second) [
    | inl too ↦ absurd (clash too a before)
    | inr later ↦ one_line lines (pairs_tail (λ x y. x ≢ y) line.1 (sited lines) apart) a b site before later
  ]
]
  where
    clash : {c : X} → line ≡ (c, site) → (other : X) → Contains lines (other, site) → ⊥
    clash now other later = pairs_head (λ x y. x ≢ y) line.1 (sited lines) apart site (mapped_in (λ (l : X × Site). l.1) lines (other, site) later) (ap (λ (l : X × Site). l.1) now)

-- ---- pins

module _ (fabric : PlainFabric) where
  abbrev pub AreApart : NetId × Wire → NetId × Wire → Type 0
  AreApart a b = a.1 ≡ b.1 → ⊥

  -- the wire of a sink is a pin of a site
  record IsPinAt (site : Site) (low high : ℕ) (sink : NetId × Wire) : Type 0 where
    pub pin : ℕ
    pub above : low ≤ pin
    pub below : pin < high
    pub wire_is : sink.1 ≡ pin_wire fabric site pin

  same_bel : (a b p q : ℕ) → pin_of a p ≡ pin_of b q → a ≡ b
  same_bel a b p q e = cc

  same_pin : (a b p q : ℕ) → pin_of a p ≡ pin_of b q → p ≡ q
  same_pin a b p q e = cc

  one_pin : (a b : Site) (p q : ℕ) → HasPin fabric a p → HasPin fabric b q → pin_wire fabric a p ≡ pin_wire fabric b q → (a ≡ b) × (p ≡ q)
  one_pin a b p q has other same =
      let at : IsIndexOf fabric (pin_wire fabric a p).0 b.x b.y (pin_of b.bel q) =
      subst (λ (w : Wire). IsIndexOf fabric w.0 b.x b.y (pin_of b.bel q)) (sym same) (pin_index fabric b q other) in
      let one = one_wire fabric (pin_wire fabric a p).0 a.x a.y b.x b.y (pin_of a.bel p) (pin_of b.bel q) (pin_index fabric a p has) at in (
        ap (λ (x : ℕ). record { x = x; y = a.y; bel = a.bel }) one.0 ∙ ap (λ (y : ℕ). record { x = b.x; y = y; bel = a.bel }) one.1
            ∙ ap (λ (l : ℕ). record { x = b.x; y = b.y; bel = l }) (same_bel a.bel b.bel p q one.2),
        same_pin a.bel b.bel p q one.2,
      )

  module _ (kind : Kind) (pins : ℕ) (all : (site : Site) (pin : ℕ) → kind_at fabric site ≡ Some kind → pin < pins → HasPin fabric site pin) where
    -- pins of one site with different numbers differ
    pins_apart : (site : Site) (a b : NetId × Wire) (low middle high : ℕ) → kind_at fabric site ≡ Some kind → middle ≤ pins → high ≤ pins →
        IsPinAt site low middle a → IsPinAt site middle high b → AreApart a b
    pins_apart site a b low middle high is few more first second same =
        let one = one_pin site site first.pin second.pin (all site first.pin is (omega (arith, first.below, few))) (all site second.pin is (omega (arith, second.below, more)))
        (sym first.wire_is ∙ same ∙ second.wire_is) in
        omega (arith, one.1, first.below, second.above)

  -- pins of different sites differ
  sites_apart : (site other : Site) (p q : ℕ) (a b : NetId × Wire) → HasPin fabric site p → HasPin fabric other q → a.1 ≡ pin_wire fabric site p → b.1 ≡ pin_wire fabric other q →
      (site ≡ other → ⊥) → AreApart a b
  sites_apart site other p q a b has too first second differ same = differ (one_pin site other p q has too (sym first ∙ same ∙ second)).0

  lut_has : (site : Site) (pin : ℕ) → kind_at fabric site ≡ Some kinds.Lut4c → pin < 7 → HasPin fabric site pin
  lut_has site pin is low = (kinds.Lut4c, is, omega (arith, low))

  pad_has : (site : Site) (pin : ℕ) → kind_at fabric site ≡ Some kinds.Io → pin < 2 → HasPin fabric site pin
  pad_has site pin is low = (kinds.Io, is, omega (arith, low))

  -- ---- cells

  input_at : (site : Site) (pin : ℕ) (nets : List NetId) (sink : NetId × Wire) → Contains (input_sinks fabric site pin nets) sink → IsPinAt site pin (pin + length nets) sink
  input_at site pin [] sink here = absurd (in_none sink here)
  input_at site pin (net ∷ nets) sink here = elim (first_or_later (net, pin_wire fabric site pin) (input_sinks fabric site (pin + 1) nets) sink here) [
    | inl now ↦ record { pin = pin; above = omega arith; below = omega arith; wire_is = sym (ap (λ (s : NetId × Wire). s.1) now) }
    | inr later ↦ (
        let found = input_at site (pin + 1) nets sink later in
        record { pin = found.pin; above = omega (arith, found.above); below = omega (arith, found.below); wire_is = found.wire_is })
  ]

  inputs_apart : (site : Site) (pin : ℕ) (nets : List NetId) → kind_at fabric site ≡ Some kinds.Lut4c → pin + length nets ≤ 7 → AllPairs AreApart (input_sinks fabric site pin nets)
  inputs_apart site pin [] is few = no_pairs AreApart
  inputs_apart site pin (net ∷ nets) is few =
      AllPairs-cons AreApart (net, pin_wire fabric site pin) (input_sinks fabric site (pin + 1) nets)
      (all_of (AreApart (net, pin_wire fabric site pin)) (input_sinks fabric site (pin + 1) nets) (λ sink here.
      pins_apart kinds.Lut4c 7 lut_has site (net, pin_wire fabric site pin) sink pin (pin + 1) (pin + 1 + length nets) is (omega (arith, few)) (omega (arith, few))
      (record { pin = pin; above = omega arith; below = omega arith; wire_is = refl }) (input_at site (pin + 1) nets sink here)))
      (inputs_apart site (pin + 1) nets is (omega (arith, few)))

  latch_at : (site : Site) (reset : NetId) (latch : Option ℕ) (sink : NetId × Wire) → Contains (latch_sinks fabric site reset latch) sink → IsPinAt site 5 7 sink
  latch_at site reset None sink here = absurd (in_none sink here)
  latch_at site reset (Some init) sink here = elim (first_or_later (ids.One, pin_wire fabric site 6) ((reset, pin_wire fabric site 5) ∷ []) sink here) [
    | inl now ↦ record { pin = 6; above = omega arith; below = omega arith; wire_is = sym (ap (λ (s : NetId × Wire). s.1) now) }
    | inr later ↦ elim (first_or_later (reset, pin_wire fabric site 5) [] sink later) [
      | inl last ↦ record { pin = 5; above = omega arith; below = omega arith; wire_is = sym (ap (λ (s : NetId × Wire). s.1) last) }
      | inr none ↦ absurd (in_none sink none)
    ]
  ]

  latch_apart : (site : Site) (reset : NetId) (latch : Option ℕ) → kind_at fabric site ≡ Some kinds.Lut4c → AllPairs AreApart (latch_sinks fabric site reset latch)
  latch_apart site reset None is = no_pairs AreApart
  latch_apart site reset (Some init) is =
      let enable : NetId × Wire = (ids.One, pin_wire fabric site 6) in
      let resets : NetId × Wire = (reset, pin_wire fabric site 5) in
      pairs_joined AreApart (enable ∷ []) (resets ∷ []) (one_item enable) (one_item resets) (λ a b first second same.
      let left : enable ≡ a = only enable a first in
      let right : resets ≡ b = only resets b second in
      let one = one_pin site site 6 5 (lut_has site 6 is (omega arith)) (lut_has site 5 is (omega arith)) (ap (λ (s : NetId × Wire). s.1) left ∙ same ∙ sym (ap (λ (s : NetId × Wire). s.1) right)) in
      omega (arith, one.1))
    where
      one_item : (s : NetId × Wire) → AllPairs AreApart (s ∷ [])
      one_item s = AllPairs-cons AreApart s [] (all_of (AreApart s) [] (λ x here. absurd (in_none x here))) (no_pairs AreApart)

      only : (s a : NetId × Wire) → Contains (s ∷ []) a → s ≡ a
      only s a here = elim (first_or_later s [] a here) [ inl same ↦ same | inr none ↦ absurd (in_none a none) ]

  cell_at : (site : Site) (reset : NetId) (cell : PlainCell) (sink : NetId × Wire) → length cell.inputs ≤ 4 → Contains (cell_sinks fabric site reset cell) sink → IsPinAt site 0 7 sink
  cell_at site reset cell sink few here = elim (in_either (input_sinks fabric site 0 cell.inputs) (latch_sinks fabric site reset cell.latch) sink here) [
    | inl input ↦ (
        let at = input_at site 0 cell.inputs sink input in
        record { pin = at.pin; above = omega arith; below = omega (arith, at.below, few); wire_is = at.wire_is })
    | inr latch ↦ (
        let at = latch_at site reset cell.latch sink latch in
        record { pin = at.pin; above = omega arith; below = at.below; wire_is = at.wire_is })
  ]

  cell_apart : (site : Site) (reset : NetId) (cell : PlainCell) → kind_at fabric site ≡ Some kinds.Lut4c → length cell.inputs ≤ 4 → AllPairs AreApart (cell_sinks fabric site reset cell)
  cell_apart site reset cell is few =
      pairs_joined AreApart (input_sinks fabric site 0 cell.inputs) (latch_sinks fabric site reset cell.latch) (inputs_apart site 0 cell.inputs is (omega (arith, few))) (latch_apart site reset cell.latch is)
      (λ a b first second.
      let low = input_at site 0 cell.inputs a first in
      let high = latch_at site reset cell.latch b second in
      pins_apart kinds.Lut4c 7 lut_has site a b 0 5 7 is (omega arith) (omega arith)
      (record { pin = low.pin; above = omega arith; below = omega (arith, low.below, few); wire_is = low.wire_is }) high)

  module _ (site_at : ℕ → Site) (total : ℕ) (luts : (n : ℕ) → n < total → kind_at fabric (site_at n) ≡ Some kinds.Lut4c)
      (differ : (n m : ℕ) → n < m → m < total → site_at n ≡ site_at m → ⊥) where
    -- the sinks of cells from a number on
    cells_at : (reset : NetId) (number : ℕ) (cells : List PlainCell) (sink : NetId × Wire) → ((cell : PlainCell) → Contains cells cell → length cell.inputs ≤ 4) → Contains (cells_sinks fabric site_at reset number cells) sink →
        (n : ℕ) × (number ≤ n) × (n < number + length cells) × IsPinAt (site_at n) 0 7 sink
    cells_at reset number [] sink few here = absurd (in_none sink here)
    cells_at reset number (cell ∷ cells) sink few here = elim (in_either (cell_sinks fabric (site_at number) reset cell) (cells_sinks fabric site_at reset (number + 1) cells) sink here) [
      | inl now ↦ (number, omega arith, omega arith, cell_at (site_at number) reset cell sink (few cell (first_in cell cells cell refl)) now)
      | inr later ↦ (
          let found = cells_at reset (number + 1) cells sink (λ c there. few c (later_in cell cells c there)) later in
          (found.0, omega (arith, found.1), omega (arith, found.2), found.3))
    ]

    cells_apart : (reset : NetId) (number : ℕ) (cells : List PlainCell) → number + length cells ≤ total → ((cell : PlainCell) → Contains cells cell → length cell.inputs ≤ 4) → AllPairs AreApart (cells_sinks fabric site_at reset number cells)
    cells_apart reset number [] low few = no_pairs AreApart
    cells_apart reset number (cell ∷ cells) low few =
        let few_here = few cell (first_in cell cells cell refl) in
        let is = luts number (omega (arith, low)) in
        pairs_joined AreApart (cell_sinks fabric (site_at number) reset cell) (cells_sinks fabric site_at reset (number + 1) cells) (cell_apart (site_at number) reset cell is few_here)
        (cells_apart reset (number + 1) cells (omega (arith, low)) (λ c there. few c (later_in cell cells c there)))
        (λ a b first second.
        let one = cell_at (site_at number) reset cell a few_here first in
        let other = cells_at reset (number + 1) cells b (λ c there. few c (later_in cell cells c there)) second in
        sites_apart (site_at number) (site_at other.0) one.pin other.3.pin a b (lut_has (site_at number) one.pin is one.below)
        (lut_has (site_at other.0) other.3.pin (luts other.0 (omega (arith, other.2, low))) other.3.below) one.wire_is other.3.wire_is
        (differ number other.0 (omega (arith, other.1)) (omega (arith, other.2, low))))

  -- ---- all

  module _ (packed : PlainPacked) (placement : PlainImplementation) (made : IsWellMadePacked packed) (placed : ArePlaced fabric packed placement) where
    abbrev cell_at_site : ℕ → Site
    cell_at_site = site_of nat_eq placement.cells

    abbrev in_site : List ℕ → Site
    in_site = site_of bytes_eq placement.ins

    abbrev out_site : List ℕ → Site
    out_site = site_of bytes_eq placement.outs

    abbrev all_sites : List Site
    all_sites = sited placement.cells ++ (sited placement.ins ++ sited placement.outs)

    all_apart : AllPairs (λ a b. a ≢ b) all_sites
    all_apart = new_apart all_sites placed.sites

    ports_apart : AllPairs (λ a b. a ≢ b) (sited placement.ins ++ sited placement.outs)
    ports_apart = differ_right (sited placement.cells) (sited placement.ins ++ sited placement.outs) all_apart

    cell_line : (n : ℕ) → n < length packed.cells → Contains placement.cells (n, cell_at_site n)
    cell_line n low = known_site nat_eq Decides-eqb fabric kinds.Lut4c (λ m. m < length packed.cells) placement.cells placed.cells n low

    in_line : (port : List ℕ) → Contains packed.inputs port → Contains placement.ins (port, in_site port)
    in_line port here = known_site bytes_eq bytes_eq-Decides fabric kinds.Io (λ p. Contains packed.inputs p) placement.ins placed.ports.ins port here

    out_line : (port : List ℕ) → Contains (output_ports packed) port → Contains placement.outs (port, out_site port)
    out_line port here = known_site bytes_eq bytes_eq-Decides fabric kinds.Io (λ p. Contains (output_ports packed) p) placement.outs placed.ports.outs port here

    kind_of : {X : Type 0} (kind : Kind) (IsKnown : X → Type 0) (lines : List (X × Site)) (thing : X) (site : Site) → HaveSites fabric kind IsKnown lines → Contains lines (thing, site) → kind_at fabric site ≡ Some kind
    kind_of kind IsKnown lines thing site have here = (have.lines_right here.0 (thing, site) here.1 (here.1, here.2)).of_kind

    luts : (n : ℕ) → n < length packed.cells → kind_at fabric (cell_at_site n) ≡ Some kinds.Lut4c
    luts n low = kind_of kinds.Lut4c (λ m. m < length packed.cells) placement.cells n (cell_at_site n) placed.cells (cell_line n low)

    in_pad : (port : List ℕ) → Contains packed.inputs port → kind_at fabric (in_site port) ≡ Some kinds.Io
    in_pad port here = kind_of kinds.Io (λ p. Contains packed.inputs p) placement.ins port (in_site port) placed.ports.ins (in_line port here)

    out_pad : (port : List ℕ) → Contains (output_ports packed) port → kind_at fabric (out_site port) ≡ Some kinds.Io
    out_pad port here = kind_of kinds.Io (λ p. Contains (output_ports packed) p) placement.outs port (out_site port) placed.ports.outs (out_line port here)

    cells_differ : (n m : ℕ) → n < m → m < length packed.cells → cell_at_site n ≡ cell_at_site m → ⊥
    cells_differ n m less low same =
        let one = one_line placement.cells (differ_left (sited placement.cells) (sited placement.ins ++ sited placement.outs) all_apart) n m (cell_at_site m)
        (subst (λ (s : Site). Contains placement.cells (n, s)) same (cell_line n (omega (arith, less, low)))) (cell_line m low) in
        omega (arith, one, less)

    few_inputs : (cell : PlainCell) → Contains packed.cells cell → length cell.inputs ≤ 4
    few_inputs cell here = (subst (λ (c : PlainCell). IsWellMadeCell packed c) here.2 (made.cells here.0 cell here.1)).few_inputs

    abbrev cell_part : Sinks
    cell_part = cells_sinks fabric cell_at_site (reset_id packed.reset) 0 packed.cells

    abbrev in_part : Sinks
    in_part = flat_map (input_port_sinks fabric in_site) packed.inputs

    abbrev out_part : Sinks
    out_part = flat_map (output_port_sinks fabric out_site) packed.outputs

    -- ---- ports

    in_at : (port : List ℕ) (sink : NetId × Wire) → Contains (input_port_sinks fabric in_site port) sink → sink.1 ≡ pin_wire fabric (in_site port) 1
    in_at port sink here = elim (first_or_later (ids.Zero, pin_wire fabric (in_site port) 1) [] sink here) [
      | inl now ↦ sym (ap (λ (s : NetId × Wire). s.1) now)
      | inr none ↦ absurd (in_none sink none)
    ]

    out_at : (output : List ℕ × NetId) (sink : NetId × Wire) → Contains (output_port_sinks fabric out_site output) sink → IsPinAt (out_site output.0) 0 2 sink
    out_at output sink here = elim (first_or_later (output.1, pin_wire fabric (out_site output.0) 0) ((ids.One, pin_wire fabric (out_site output.0) 1) ∷ []) sink here) [
      | inl now ↦ record { pin = 0; above = omega arith; below = omega arith; wire_is = sym (ap (λ (s : NetId × Wire). s.1) now) }
      | inr later ↦ elim (first_or_later (ids.One, pin_wire fabric (out_site output.0) 1) [] sink later) [
        | inl last ↦ record { pin = 1; above = omega arith; below = omega arith; wire_is = sym (ap (λ (s : NetId × Wire). s.1) last) }
        | inr none ↦ absurd (in_none sink none)
      ]
    ]

    out_named : (output : List ℕ × NetId) → Contains packed.outputs output → Contains (output_ports packed) output.0
    out_named output here = mapped_in output_name packed.outputs output here

    one_item : (s : NetId × Wire) → AllPairs AreApart (s ∷ [])
    one_item s = AllPairs-cons AreApart s [] (all_of (AreApart s) [] (λ x here. absurd (in_none x here))) (no_pairs AreApart)

    in_apart : AllPairs AreApart in_part
    in_apart =
        flat_apart (λ (a b : List ℕ). a ≢ b) AreApart (input_port_sinks fabric in_site) packed.inputs (differ_left packed.inputs (output_ports packed) made.ports_differ)
        (λ port here. one_item (ids.Zero, pin_wire fabric (in_site port) 1))
        (λ port other first second differ a b at too.
        sites_apart (in_site port) (in_site other) 1 1 a b (pad_has (in_site port) 1 (in_pad port first) (omega arith)) (pad_has (in_site other) 1 (in_pad other second) (omega arith))
        (in_at port a at) (in_at other b too)
        (λ same. differ (one_line placement.ins (differ_left (sited placement.ins) (sited placement.outs) ports_apart) port other (in_site other)
        (subst (λ (s : Site). Contains placement.ins (port, s)) same (in_line port first)) (in_line other second))))

    two_apart : (output : List ℕ × NetId) → Contains packed.outputs output → AllPairs AreApart (output_port_sinks fabric out_site output)
    two_apart output here =
        let shown : NetId × Wire = (output.1, pin_wire fabric (out_site output.0) 0) in
        let driven : NetId × Wire = (ids.One, pin_wire fabric (out_site output.0) 1) in
        let is = out_pad output.0 (out_named output here) in
        pairs_joined AreApart (shown ∷ []) (driven ∷ []) (one_item shown) (one_item driven) (λ a b first second same.
        let left : shown ≡ a = only shown a first in
        let right : driven ≡ b = only driven b second in
        let one = one_pin (out_site output.0) (out_site output.0) 0 1 (pad_has (out_site output.0) 0 is (omega arith)) (pad_has (out_site output.0) 1 is (omega arith))
        (ap (λ (s : NetId × Wire). s.1) left ∙ same ∙ sym (ap (λ (s : NetId × Wire). s.1) right)) in
        omega (arith, one.1))
      where
        only : (s a : NetId × Wire) → Contains (s ∷ []) a → s ≡ a
        only s a here2 = elim (first_or_later s [] a here2) [ inl same ↦ same | inr none ↦ absurd (in_none a none) ]

    out_apart : AllPairs AreApart out_part
    out_apart =
        flat_apart (λ (a b : List ℕ × NetId). a.0 ≢ b.0) AreApart (output_port_sinks fabric out_site) packed.outputs
        (unmapped (λ (a b : List ℕ). a ≢ b) output_name packed.outputs (differ_right packed.inputs (output_ports packed) made.ports_differ))
        two_apart
        (λ output other first second differ a b at too.
        let one = out_at output a at in
        let two = out_at other b too in
        sites_apart (out_site output.0) (out_site other.0) one.pin two.pin a b (pad_has (out_site output.0) one.pin (out_pad output.0 (out_named output first)) one.below)
        (pad_has (out_site other.0) two.pin (out_pad other.0 (out_named other second)) two.below) one.wire_is two.wire_is
        (λ same. differ (one_line placement.outs (differ_right (sited placement.ins) (sited placement.outs) ports_apart) output.0 other.0 (out_site other.0)
        (subst (λ (s : Site). Contains placement.outs (output.0, s)) same (out_line output.0 (out_named output first))) (out_line other.0 (out_named other second)))))

    sited_in : {X : Type 0} (lines : List (X × Site)) (thing : X) (site : Site) → Contains lines (thing, site) → Contains (sited lines) site
    sited_in {X} lines thing site here = mapped_in (λ (l : X × Site). l.1) lines (thing, site) here

    ports_sinks_apart : AllPairs AreApart (in_part ++ out_part)
    ports_sinks_apart = pairs_joined AreApart in_part out_part in_apart out_apart (λ a b first second.
        let port = in_flat (input_port_sinks fabric in_site) packed.inputs a first in
        let output = in_flat (output_port_sinks fabric out_site) packed.outputs b second in
        let named = out_named output.0 output.1 in
        let two = out_at output.0 b output.2 in
        sites_apart (in_site port.0) (out_site output.0.0) 1 two.pin a b (pad_has (in_site port.0) 1 (in_pad port.0 port.1) (omega arith))
        (pad_has (out_site output.0.0) two.pin (out_pad output.0.0 named) two.below) (in_at port.0 a port.2) two.wire_is
        (pairs_across (λ x y. x ≢ y) (sited placement.ins) (sited placement.outs) ports_apart (in_site port.0) (out_site output.0.0)
        (sited_in placement.ins port.0 (in_site port.0) (in_line port.0 port.1)) (sited_in placement.outs output.0.0 (out_site output.0.0) (out_line output.0.0 named))))

    cells_across : (site : Site) → Contains (sited placement.ins ++ sited placement.outs) site → (n : ℕ) → n < length packed.cells → cell_at_site n ≡ site → ⊥
    cells_across site here n low =
        pairs_across (λ x y. x ≢ y) (sited placement.cells) (sited placement.ins ++ sited placement.outs) all_apart (cell_at_site n) site
        (sited_in placement.cells n (cell_at_site n) (cell_line n low)) here

    pub sinks_apart : AllPairs AreApart (sinks fabric packed placement)
    sinks_apart =
        pairs_joined AreApart cell_part (in_part ++ out_part) (cells_apart cell_at_site (length packed.cells) luts cells_differ (reset_id packed.reset) 0 packed.cells (omega arith) few_inputs) ports_sinks_apart
        (λ a b first second.
        let cell = cells_at cell_at_site (length packed.cells) luts cells_differ (reset_id packed.reset) 0 packed.cells a few_inputs first in
        let low : cell.0 < length packed.cells = omega (arith, cell.2) in
        elim (in_either in_part out_part b second) [
          | inl input ↦ (
              let port = in_flat (input_port_sinks fabric in_site) packed.inputs b input in
              sites_apart (cell_at_site cell.0) (in_site port.0) cell.3.pin 1 a b (lut_has (cell_at_site cell.0) cell.3.pin (luts cell.0 low) cell.3.below) (pad_has (in_site port.0) 1 (in_pad port.0 port.1) (omega arith))
              cell.3.wire_is (in_at port.0 b port.2)
              (cells_across (in_site port.0) (in_left (sited placement.ins) (sited placement.outs) (in_site port.0) (sited_in placement.ins port.0 (in_site port.0) (in_line port.0 port.1))) cell.0 low))
          | inr shown ↦ (
              let output = in_flat (output_port_sinks fabric out_site) packed.outputs b shown in
              let named = out_named output.0 output.1 in
              let two = out_at output.0 b output.2 in
              sites_apart (cell_at_site cell.0) (out_site output.0.0) cell.3.pin two.pin a b (lut_has (cell_at_site cell.0) cell.3.pin (luts cell.0 low) cell.3.below)
              (pad_has (out_site output.0.0) two.pin (out_pad output.0.0 named) two.below) cell.3.wire_is two.wire_is
              (cells_across (out_site output.0.0) (in_right (sited placement.ins) (sited placement.outs) (out_site output.0.0) (sited_in placement.outs output.0.0 (out_site output.0.0) (out_line output.0.0 named))) cell.0 low))
        ])
