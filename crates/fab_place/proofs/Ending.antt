-- Items that no exchange betters make a good placement.
use Rattle.std.proofs.Common.{◌≡◌, ◌⊎◌, ℕ, ◌+◌, ◌-◌, ◌<◌, ◌≤◌, Bool, true, false, List, [], ◌++◌, map, length, get_or, replicate, is_some, Option, Some, None, nat_eq, refl, sym, ◌∙◌, ap, subst, inl, inr, arith}
use Rattle.std.specs.List.{All, Contains}
use Rattle.std.specs.Prelude.{nat_le}
use Rattle.std.proofs.lemmas.Bool.{cases_Bool, cases_lt, false≢true}
use Rattle.std.proofs.lemmas.Bool.Decides.{leb_tells}
use Rattle.std.proofs.lemmas.List.{get_or_append_left, get_or-append_right, get_or-append-add, get_or-map, get_or_default, get_or-replicate, length-map, length-append, length-replicate}
use Rattle.std.proofs.lemmas.List.Elements.{All-map, Contains-get_or}
use Rattle.fab_kinds.specs.declared.kind.Kind.{Kind}
use Rattle.fab_kinds.specs.declared.kind.Kind.TheVariants as kinds
use Rattle.fab_annealing.specs.Boards.{is_locked, column, row, site_count, site_after as number_after, exchanged as exchanged_numbers, MayExchange as MayExchangeNumbers, cost as board_cost}
use Rattle.fab_model.specs.Grid.{PlainFabric}
use Rattle.fab_fabric.specs.declared.wire.Site.{Site}
use Rattle.fab_netlist.specs.Packed.{PlainPacked}
use Rattle.fab_netlist.proofs.Members.{mapped_in}
use Rattle.fab_implementation.specs.Plain.{Pad, PlainImplementation}
use Rattle.fab_implementation.specs.OnFabric.{IsSite, kind_at, IsOnFabric}
use Rattle.fab_ways_laws.specs.fab_legal_WellMade.{output_name, output_ports, ports}
use Rattle.fab_ways_laws.specs.fab_legal_Lines.{IsCell, IsInput, IsOutput, HaveSites, sites as all_sites, ConstraintsHold}
use Rattle.fab_ways_laws.specs.fab_legal_Legal.{ArePlaced}
use Rattle.fab_ways_laws.proofs.fab_legal_Bindings.{differ_left, differ_right}
use Rattle.fab_fabric.specs.Sites.{sites_of_kind}
use Rattle.fab_ways_laws.specs.Sites.{same_site}
use Rattle.fab_ways_laws.specs.Placing.{no_site, site_after, exchanged, MayExchange, IsGoodPlacement, cost, placement_in_order}
use Rattle.fab_ways_laws.proofs.Lists.{in_counted, from_counted}
use Rattle.fab_place.specs.Fixings.{AreFixed, Fits}
use Rattle.fab_place.specs.Pins.{item_total}
use Rattle.fab_place.specs.Standing.{site_at, standing}
use Rattle.fab_place.specs.inner.BoardOf.{IsSettled}
use Rattle.fab_place.proofs.Costs.{cost_is}
use Rattle.fab_place.proofs.Finding.{after_item, site_tells}
use Rattle.fab_place.proofs.Lines.{all_new, have_sites, ins_counted, outs_counted, port_line, has_port, sites_counted, cells_named, ins_named, outs_named}
use Rattle.fab_place.proofs.Maps.{differs}
use Rattle.fab_place.proofs.Matching.{port_of, pad_of, none_or_some}
use Rattle.fab_place.proofs.Moved.{all_moved}
use Rattle.fab_place.proofs.Once.{Once, once_append, once_at, once_counted, once_pairs}
use Rattle.fab_place.proofs.Sited.{in_sites, into_sites, once_sites}
use Rattle.fab_place.proofs.Starting.{Start, constrained_length, start_length, start_cell, start_port, order_given, start_inside, start_in_order, sites_are}

same_kinds : (a b : Kind) → Some a ≡ Some b → a ≡ b
same_kinds a b e = cc

lut_no_pad : ◌≡◌ {A = Option Kind} (Some kinds.Lut4c) (Some kinds.Io) → ⊥
lut_no_pad e = cc

lut_no_mux : ◌≡◌ {A = Option Kind} (Some kinds.Lut4c) (Some kinds.Mux8) → ⊥
lut_no_mux e = cc

pad_no_mux : ◌≡◌ {A = Option Kind} (Some kinds.Io) (Some kinds.Mux8) → ⊥
pad_no_mux e = cc

module _ (fabric : PlainFabric) (packed : PlainPacked) (fixed : List Pad) (numbers : List ℕ) (fits : Fits fabric packed) (are_fixed : AreFixed fabric packed fixed)
    (settled : IsSettled packed fixed (sites_of_kind fabric kinds.Lut4c) (sites_of_kind fabric kinds.Io) numbers) where
  abbrev Luts : List Site
  Luts = sites_of_kind fabric kinds.Lut4c

  abbrev Pads : List Site
  Pads = sites_of_kind fabric kinds.Io

  abbrev Sites : List Site
  Sites = sites_of_kind fabric kinds.Lut4c ++ sites_of_kind fabric kinds.Io

  abbrev Cells : ℕ
  Cells = length packed.cells

  abbrev Ports : ℕ
  Ports = length packed.inputs + length packed.outputs

  abbrev Now : PlainImplementation
  Now = standing packed (sites_of_kind fabric kinds.Lut4c ++ sites_of_kind fabric kinds.Io) numbers

  abbrev S : ℕ → Site
  S item = site_at (sites_of_kind fabric kinds.Lut4c ++ sites_of_kind fabric kinds.Io) numbers item

  abbrev First : List ℕ
  First = Start fabric packed fixed settled.constrained fits are_fixed settled.are

  pub count : length numbers ≡ item_total packed
  count = settled.placed.items ∙ settled.board_is.items

  counted_sites : site_count settled.board ≡ length Sites
  counted_sites = sites_are fabric packed fixed settled.constrained fits are_fixed settled.are settled.board settled.board_is

  low_number : (k : ℕ) → k < item_total packed → get_or numbers k 0 < length Sites
  low_number k low = omega (arith, settled.placed.inside k 0 (omega (arith, low, count)), counted_sites)

  first_length : length First ≡ item_total packed
  first_length = start_length fabric packed fixed settled.constrained fits are_fixed settled.are

  -- ---- the kinds of sites

  kept_kind : (k : ℕ) → k < item_total packed → nat_le (length Luts) (get_or numbers k 0) ≡ nat_le (length Luts) (get_or First k 0)
  kept_kind k low =
      ap (λ n. nat_le n (get_or numbers k 0)) (sym settled.board_is.second) ∙ settled.keeps.kinds k (omega (arith, low, first_length)) ∙ ap (λ n. nat_le n (get_or First k 0)) settled.board_is.second

  is_below : (m n : ℕ) → n < m → nat_le m n ≡ false
  is_below m n less = elim (leb_tells m n) [ inl t ↦ absurd (omega (arith, t.1, less)) | inr f ↦ f.0 ]

  is_above : (m n : ℕ) → m ≤ n → nat_le m n ≡ true
  is_above m n more = elim (leb_tells m n) [ inl t ↦ t.0 | inr f ↦ absurd (omega (arith, f.1, more)) ]

  from_below : (m n : ℕ) → nat_le m n ≡ false → n < m
  from_below m n is = elim (leb_tells m n) [ inl t ↦ absurd (false≢true (sym is ∙ t.0)) | inr f ↦ f.1 ]

  from_above : (m n : ℕ) → nat_le m n ≡ true → m ≤ n
  from_above m n is = elim (leb_tells m n) [ inl t ↦ t.1 | inr f ↦ absurd (false≢true (sym f.0 ∙ is)) ]

  cell_low : (k : ℕ) → k < Cells → get_or numbers k 0 < length Luts
  cell_low k low =
      let at = start_cell fabric packed fixed settled.constrained fits are_fixed settled.are k low in
      from_below (length Luts) (get_or numbers k 0) (kept_kind k (omega (arith, low)) ∙ is_below (length Luts) (get_or First k 0) (omega (arith, at, low, fits.cells)))

  port_high : (place : ℕ) → place < Ports → length Luts ≤ get_or numbers (Cells + place) 0
  port_high place low =
      let at = start_port fabric packed fixed settled.constrained fits are_fixed settled.are place low in
      from_above (length Luts) (get_or numbers (Cells + place) 0) (kept_kind (Cells + place) (omega (arith, low)) ∙ is_above (length Luts) (get_or First (Cells + place) 0) (omega (arith, at)))

  lut_kind : (number : ℕ) → number < length Luts → kind_at fabric (get_or Sites number no_site) ≡ Some kinds.Lut4c
  lut_kind number low =
      ap (kind_at fabric) (get_or_append_left Luts Pads no_site number low) ∙ (in_sites fabric kinds.Lut4c (get_or Luts number no_site) (Contains-get_or Luts number no_site low)).of_kind

  pad_kind : (number : ℕ) → length Luts ≤ number → number < length Sites → kind_at fabric (get_or Sites number no_site) ≡ Some kinds.Io
  pad_kind number high low =
      ap (kind_at fabric) (get_or-append_right Luts Pads (length Luts) number no_site refl high)
      ∙ (in_sites fabric kinds.Io (get_or Pads (number - length Luts) no_site) (Contains-get_or Pads (number - length Luts) no_site (omega (arith, high, low, length-append Luts Pads)))).of_kind

  cell_kind : (k : ℕ) → k < Cells → kind_at fabric (S k) ≡ Some kinds.Lut4c
  cell_kind k low = lut_kind (get_or numbers k 0) (cell_low k low)

  port_kind : (place : ℕ) → place < Ports → kind_at fabric (S (Cells + place)) ≡ Some kinds.Io
  port_kind place low = pad_kind (get_or numbers (Cells + place) 0) (port_high place low) (low_number (Cells + place) (omega (arith, low)))

  -- ---- sites once

  once_all : Once Sites
  once_all = once_append Luts Pads (once_sites fabric kinds.Lut4c) (once_sites fabric kinds.Io)
      (λ site a b. lut_no_pad (sym (in_sites fabric kinds.Lut4c site a).of_kind ∙ (in_sites fabric kinds.Io site b).of_kind))

  places_apart : (i j : ℕ) → i < item_total packed → j < item_total packed → S i ≡ S j → i ≡ j
  places_apart i j li lj e =
      settled.placed.apart i j (omega (arith, li, count)) (omega (arith, lj, count)) (once_at Sites (get_or numbers i 0) (get_or numbers j 0) no_site once_all (low_number i li) (low_number j lj) e)

  -- ---- the rules of sites

  from_cells : (line : ℕ × Site) → Contains Now.cells line → (k : ℕ) × (k < Cells) × ((k, S k) ≡ line)
  from_cells line h = from_counted Cells (λ k. (k, S k)) line h

  from_ins : (line : Pad) → Contains Now.ins line → (k : ℕ) × (k < length packed.inputs) × ((get_or packed.inputs k [], S (Cells + k)) ≡ line)
  from_ins line h = from_counted (length packed.inputs) (λ k. (get_or packed.inputs k [], S (Cells + k))) line (subst (λ (lines : List Pad). Contains lines line) (ins_counted Sites numbers Cells packed.inputs) h)

  from_outs : (line : Pad) → Contains Now.outs line → (k : ℕ) × (k < length packed.outputs) × ((get_or (output_ports packed) k [], S ((Cells + length packed.inputs) + k)) ≡ line)
  from_outs line h =
      from_counted (length packed.outputs) (λ k. (get_or (output_ports packed) k [], S ((Cells + length packed.inputs) + k))) line
      (subst (λ (lines : List Pad). Contains lines line) (outs_counted Sites numbers (Cells + length packed.inputs) packed.outputs) h)

  out_kind : (k : ℕ) → k < length packed.outputs → kind_at fabric (S ((Cells + length packed.inputs) + k)) ≡ Some kinds.Io
  out_kind k low =
      ap (λ n. kind_at fabric (S n)) (let e : (Cells + length packed.inputs) + k ≡ Cells + (length packed.inputs + k) = omega arith in e) ∙ port_kind (length packed.inputs + k) (omega (arith, low))

  cells_right : HaveSites fabric kinds.Lut4c (IsCell packed) Now.cells
  cells_right = have_sites fabric kinds.Lut4c (IsCell packed) Now.cells
      (subst (λ (names : List ℕ). Once names) (sym (cells_named packed Sites numbers)) (once_counted Cells (λ k. k) (λ i j li lj e. e)))
      (λ line h. let found = from_cells line h in subst (λ (l : ℕ × Site). l.0 < Cells) found.2 found.1)
      (λ line h. let found = from_cells line h in subst (λ (l : ℕ × Site). kind_at fabric l.1 ≡ Some kinds.Lut4c) found.2 (cell_kind found.0 found.1))
      (λ number low. subst (λ (names : List ℕ). Contains names number) (sym (cells_named packed Sites numbers)) (in_counted Cells (λ k. k) number low))

  ins_right : HaveSites fabric kinds.Io (IsInput packed) Now.ins
  ins_right = have_sites fabric kinds.Io (IsInput packed) Now.ins
      (subst (λ (names : List (List ℕ)). Once names) (sym (ins_named packed Sites numbers)) (once_pairs packed.inputs (differ_left packed.inputs (output_ports packed) fits.made.ports_differ)))
      (λ line h. subst (λ (names : List (List ℕ)). Contains names line.0) (ins_named packed Sites numbers) (mapped_in (λ (l : Pad). l.0) Now.ins line h))
      (λ line h. let found = from_ins line h in subst (λ (l : Pad). kind_at fabric l.1 ≡ Some kinds.Io) found.2 (port_kind found.0 (omega (arith, found.1))))
      (λ port h. subst (λ (names : List (List ℕ)). Contains names port) (sym (ins_named packed Sites numbers)) h)

  outs_right : HaveSites fabric kinds.Io (IsOutput packed) Now.outs
  outs_right = have_sites fabric kinds.Io (IsOutput packed) Now.outs
      (subst (λ (names : List (List ℕ)). Once names) (sym (outs_named packed Sites numbers)) (once_pairs (output_ports packed) (differ_right packed.inputs (output_ports packed) fits.made.ports_differ)))
      (λ line h. subst (λ (names : List (List ℕ)). Contains names line.0) (outs_named packed Sites numbers) (mapped_in (λ (l : Pad). l.0) Now.outs line h))
      (λ line h. let found = from_outs line h in subst (λ (l : Pad). kind_at fabric l.1 ≡ Some kinds.Io) found.2 (out_kind found.0 found.1))
      (λ port h. subst (λ (names : List (List ℕ)). Contains names port) (sym (outs_named packed Sites numbers)) h)

  pub placed : ArePlaced fabric packed Now
  placed = record {
    cells = cells_right;
    sites = all_new (all_sites Now) (subst (λ (sites : List Site). Once sites) (sym (sites_counted packed Sites numbers)) (once_counted (item_total packed) S places_apart));
    ports = record { ins = ins_right; outs = outs_right };
  }

  is_site : (site : Site) (kind : Kind) → kind_at fabric site ≡ Some kind → IsSite fabric site
  is_site site kind is = (kind, is)

  pub on_fabric : IsOnFabric fabric Now
  on_fabric = record {
    cells = λ k d low. (kinds.Lut4c, (let found = from_cells (get_or Now.cells k d) (Contains-get_or Now.cells k d low) in subst (λ (l : ℕ × Site). kind_at fabric l.1 ≡ Some kinds.Lut4c) found.2 (cell_kind found.0 found.1)));
    ins = λ k d low. (kinds.Io, (let found = from_ins (get_or Now.ins k d) (Contains-get_or Now.ins k d low) in subst (λ (l : Pad). kind_at fabric l.1 ≡ Some kinds.Io) found.2 (port_kind found.0 (omega (arith, found.1)))));
    outs = λ k d low. (kinds.Io, (let found = from_outs (get_or Now.outs k d) (Contains-get_or Now.outs k d low) in subst (λ (l : Pad). kind_at fabric l.1 ≡ Some kinds.Io) found.2 (out_kind found.0 found.1)));
    wires = λ k d low. absurd (omega (arith, low));
  }

  -- ---- constraints

  -- whether a port stays is whether it has a constraint
  locked_is : (place : ℕ) → place < Ports → is_locked settled.board (Cells + place) ≡ is_some (get_or settled.constrained place None)
  locked_is place low =
      let fronts = replicate Cells false in
      let back = map is_some settled.constrained in
      let inside : place < length settled.constrained = omega (arith, low, constrained_length fabric packed fixed settled.constrained fits are_fixed settled.are) in
      ap (λ (locked : List Bool). get_or locked (Cells + place) true) settled.board_is.locked
      ∙ ap (λ n. get_or (fronts ++ back) (n + place) true) (sym (length-replicate Cells false)) ∙ get_or-append-add fronts back place true
      ∙ get_or-map is_some settled.constrained place None true inside

  cell_free : (k : ℕ) → k < Cells → is_locked settled.board k ≡ false
  cell_free k low =
      ap (λ (locked : List Bool). get_or locked k true) settled.board_is.locked
      ∙ get_or_append_left (replicate Cells false) (map is_some settled.constrained) true k (omega (arith, low, length-replicate Cells false)) ∙ get_or-replicate Cells k false true low

  -- a constrained port stands on its pad
  stays : (place number : ℕ) → place < Ports → get_or settled.constrained place None ≡ Some number → S (Cells + place) ≡ get_or Pads number no_site
  stays place number low given =
      let locked : is_locked settled.board (Cells + place) ≡ true = locked_is place low ∙ ap is_some given in
      let same : get_or numbers (Cells + place) 0 ≡ get_or First (Cells + place) 0 = settled.keeps.locked (Cells + place) (omega (arith, low, first_length)) locked in
      let at : get_or First (Cells + place) 0 ≡ length Luts + number =
      start_port fabric packed fixed settled.constrained fits are_fixed settled.are place low ∙ ap (λ n. length Luts + n) (order_given fabric packed fixed settled.constrained fits are_fixed settled.are place number given) in
      ap (λ n. get_or Sites n no_site) (same ∙ at) ∙ get_or-append-add Luts Pads number no_site

  ports_length : length (ports packed) ≡ Ports
  ports_length = omega (arith, length-append packed.inputs (output_ports packed), length-map packed.outputs output_name)

  pub constraints : ConstraintsHold fixed Now
  constraints place pad below at =
      let port = port_of fabric packed fixed settled.constrained fits.made are_fixed settled.are pad (place, at.0, at.1) in
      let low : port.place < Ports = omega (arith, port.low, ports_length) in
      let site : S (Cells + port.place) ≡ pad.1 = stays port.place port.number low port.given ∙ get_or_default Pads port.number no_site pad.1 port.is_at.0 ∙ port.is_at.1 in
      let line : port_line packed Sites numbers port.place ≡ pad = ap (λ (name : List ℕ). (name, S (Cells + port.place))) port.port ∙ ap (λ (s : Site). (pad.0, s)) site in
      subst (λ (p : Pad). Contains (Now.ins ++ Now.outs) p) line (has_port packed Sites numbers port.place low)

  -- ---- cost

  pub all_inside : All (λ number. number < length Sites) numbers
  all_inside = λ k d low. omega (arith, settled.placed.inside k d low, counted_sites)

  cost_now : cost packed Now ≡ board_cost settled.board numbers
  cost_now = cost_is packed fits.made Sites (length Luts) settled.constrained settled.board settled.board_is numbers count all_inside

  pub low : cost packed Now ≤ cost packed (placement_in_order fabric packed fixed)
  low =
      let first = cost_is packed fits.made Sites (length Luts) settled.constrained settled.board settled.board_is First first_length (start_inside fabric packed fixed settled.constrained fits are_fixed settled.are) in
      let same = ap (cost packed) (start_in_order fabric packed fixed settled.constrained fits are_fixed settled.are) in
      omega (arith, cost_now, first, same, settled.low)

  -- ---- exchanges

  -- where nothing stands on either site, nothing changes
  module _ (a b : Site) (apart : (k : ℕ) → k < item_total packed → (S k ≡ a) ⊎ (S k ≡ b) → ⊥) where
    unmoved : (k : ℕ) → k < item_total packed → site_after a b (S k) ≡ S k
    unmoved k low =
        let first : same_site (S k) a ≡ false = differs same_site site_tells (S k) a (λ e. apart k low (inl e)) in
        let second : same_site (S k) b ≡ false = differs same_site site_tells (S k) b (λ e. apart k low (inr e)) in
        rw (first, second) refl

    nothing_moves : exchanged a b Now ≡ Now
    nothing_moves = all_moved packed Sites numbers numbers (site_after a b) unmoved

  -- an exchange of two sites of the board
  module _ (a b : Site) (may : MayExchange fabric fixed Now a b) (i j : ℕ) (i_low : i < length Sites) (j_low : j < length Sites) (i_is : get_or Sites i no_site ≡ a) (j_is : get_or Sites j no_site ≡ b)
      (kinds_same : nat_le (length Luts) j ≡ nat_le (length Luts) i) where
    column_of : (n : ℕ) (site : Site) → n < length Sites → get_or Sites n no_site ≡ site → column settled.board n ≡ site.x
    column_of n site low is = ap (λ (xs : List ℕ). get_or xs n 0) settled.board_is.columns ∙ get_or-map (λ (s : Site). s.x) Sites n no_site 0 low ∙ ap (λ (s : Site). s.x) is

    row_of : (n : ℕ) (site : Site) → n < length Sites → get_or Sites n no_site ≡ site → row settled.board n ≡ site.y
    row_of n site low is = ap (λ (xs : List ℕ). get_or xs n 0) settled.board_is.rows ∙ get_or-map (λ (s : Site). s.y) Sites n no_site 0 low ∙ ap (λ (s : Site). s.y) is

    stands_on : (k : ℕ) → (get_or numbers k 0 ≡ i) ⊎ (get_or numbers k 0 ≡ j) → (S k ≡ a) ⊎ (S k ≡ b)
    stands_on k on = elim on [ inl e ↦ inl (ap (λ n. get_or Sites n no_site) e ∙ i_is) | inr e ↦ inr (ap (λ n. get_or Sites n no_site) e ∙ j_is) ]

    port_loose : (place : ℕ) → place < Ports → (S (Cells + place) ≡ a) ⊎ (S (Cells + place) ≡ b) → is_locked settled.board (Cells + place) ≡ false
    port_loose place low on = locked_is place low ∙ elim (none_or_some (get_or settled.constrained place None)) [
      | inl none ↦ ap is_some none
      | inr some ↦ absurd (
          let pad = pad_of fabric packed fixed settled.constrained fits.made are_fixed settled.are place some.0 some.1 in
          may.unconstrained (port_line packed Sites numbers place) (has_port packed Sites numbers place low) on
          (mapped_in (λ (l : Pad). l.0) fixed (get_or (ports packed) place [], pad.site) pad.constrained))
    ]

    loose : (k : ℕ) → k < length numbers → (get_or numbers k 0 ≡ i) ⊎ (get_or numbers k 0 ≡ j) → is_locked settled.board k ≡ false
    loose k low on = elim (cases_lt k Cells) [
      | inl cell ↦ cell_free k cell
      | inr port ↦ (
          let e : Cells + (k - Cells) ≡ k = omega (arith, port) in
          subst (λ n. is_locked settled.board n ≡ false) e
          (port_loose (k - Cells) (omega (arith, low, port, count)) (subst (λ n. (S n ≡ a) ⊎ (S n ≡ b)) (sym e) (stands_on k on))))
    ]

    may_numbers : MayExchangeNumbers settled.board numbers i j
    may_numbers = record {
      first_in = omega (arith, i_low, counted_sites);
      second_in = omega (arith, j_low, counted_sites);
      same_kind = ap (λ n. nat_le n j) settled.board_is.second ∙ kinds_same ∙ sym (ap (λ n. nat_le n i) settled.board_is.second);
      near = rw (column_of i a i_low i_is, column_of j b j_low j_is, row_of i a i_low i_is, row_of j b j_low j_is) may.near;
      loose = loose;
    }

    same_exchange : exchanged a b Now ≡ standing packed Sites (exchanged_numbers i j numbers)
    same_exchange = all_moved packed Sites numbers (exchanged_numbers i j numbers) (site_after a b)
        (λ k low. after_item Sites i j a b once_all i_low j_low i_is j_is numbers k (omega (arith, low, count)) (low_number k low))

    after_inside : (n : ℕ) → n < length Sites → number_after i j n < length Sites
    after_inside n low = elim (cases_Bool (nat_eq n i)) [
      | inl t ↦ rw t j_low
      | inr f ↦ rw f (elim (cases_Bool (nat_eq n j)) [ inl t ↦ rw t i_low | inr g ↦ rw g low ])
    ]

    exchanged_inside : All (λ number. number < length Sites) (exchanged_numbers i j numbers)
    exchanged_inside = All-map (λ number. number < length Sites) (number_after i j) numbers (λ k d low. after_inside (get_or numbers k d) (all_inside k d low))

    not_lower : cost packed Now ≤ cost packed (exchanged a b Now)
    not_lower =
        let best = settled.optimal i j may_numbers in
        let after = cost_is packed fits.made Sites (length Luts) settled.constrained settled.board settled.board_is (exchanged_numbers i j numbers) (length-map numbers (number_after i j) ∙ count) exchanged_inside in
        let same = ap (cost packed) same_exchange in
        omega (arith, best, after, same, cost_now)

  item_kind : (k : ℕ) → k < item_total packed → (kind_at fabric (S k) ≡ Some kinds.Lut4c) ⊎ (kind_at fabric (S k) ≡ Some kinds.Io)
  item_kind k low = elim (cases_lt k Cells) [
    | inl cell ↦ inl (cell_kind k cell)
    | inr port ↦ (
        let e : Cells + (k - Cells) ≡ k = omega (arith, port) in
        inr (ap (λ n. kind_at fabric (S n)) (sym e) ∙ port_kind (k - Cells) (omega (arith, low, port))))
  ]

  -- multiplexers are not on the board
  no_mux : (k : ℕ) (site : Site) → k < item_total packed → kind_at fabric site ≡ Some kinds.Mux8 → S k ≡ site → ⊥
  no_mux k site low is e = elim (item_kind k low) [
    | inl lut ↦ lut_no_mux (sym lut ∙ ap (kind_at fabric) e ∙ is)
    | inr pad ↦ pad_no_mux (sym pad ∙ ap (kind_at fabric) e ∙ is)
  ]

  by_kind : (a b : Site) (kind : Kind) → MayExchange fabric fixed Now a b → kind_at fabric a ≡ Some kind → kind_at fabric b ≡ Some kind → cost packed Now ≤ cost packed (exchanged a b Now)
  by_kind a b kinds.Lut4c may a_is b_is =
      let i = into_sites fabric kinds.Lut4c a a_is in
      let j = into_sites fabric kinds.Lut4c b b_is in
      not_lower a b may i.0 j.0 (omega (arith, i.1, length-append Luts Pads)) (omega (arith, j.1, length-append Luts Pads))
      (get_or_append_left Luts Pads no_site i.0 i.1 ∙ get_or_default Luts i.0 no_site a i.1 ∙ i.2) (get_or_append_left Luts Pads no_site j.0 j.1 ∙ get_or_default Luts j.0 no_site b j.1 ∙ j.2)
      (is_below (length Luts) j.0 j.1 ∙ sym (is_below (length Luts) i.0 i.1))
  by_kind a b kinds.Io may a_is b_is =
      let i = into_sites fabric kinds.Io a a_is in
      let j = into_sites fabric kinds.Io b b_is in
      not_lower a b may (length Luts + i.0) (length Luts + j.0) (omega (arith, i.1, length-append Luts Pads)) (omega (arith, j.1, length-append Luts Pads))
      (get_or-append-add Luts Pads i.0 no_site ∙ get_or_default Pads i.0 no_site a i.1 ∙ i.2) (get_or-append-add Luts Pads j.0 no_site ∙ get_or_default Pads j.0 no_site b j.1 ∙ j.2)
      (is_above (length Luts) (length Luts + j.0) (omega arith) ∙ sym (is_above (length Luts) (length Luts + i.0) (omega arith)))
  by_kind a b kinds.Mux8 may a_is b_is =
      let same = nothing_moves a b (λ k low on. elim on [ inl e ↦ no_mux k a low a_is e | inr e ↦ no_mux k b low b_is e ]) in
      let costs = ap (cost packed) same in
      omega (arith, costs)

  optimal : (a b : Site) → MayExchange fabric fixed Now a b → cost packed Now ≤ cost packed (exchanged a b Now)
  optimal a b may = by_kind a b may.is_site.0 may may.is_site.1 (may.same_kind ∙ may.is_site.1)

  pub good : IsGoodPlacement fabric packed fixed Now
  good = record {
    placed = placed;
    constraints = constraints;
    unrouted = refl;
    cells = cells_named packed Sites numbers;
    ins = ins_named packed Sites numbers;
    outs = outs_named packed Sites numbers;
    reset = refl;
    optimal = optimal;
    low = low;
  }
