-- The start is a placement: the placement in order.
use Rattle.std.proofs.Common.{◌≡◌, ℕ, ◌+◌, ◌<◌, ◌≤◌, false, not, List, [], ◌++◌, map, length, get_or, take, drop, replicate, is_some, Option, Some, None, sym, ◌∙◌, ap, subst, inl, inr, arith}
use Rattle.std.specs.List.{All, Contains}
use Rattle.std.proofs.lemmas.Bool.{false≢true}
use Rattle.std.proofs.lemmas.List.{get_or_append_left, get_or-append-add, get_or-map, get_or_default, length-map, length-append, length-replicate, take_at, drop_at}
use Rattle.std.proofs.lemmas.List.Elements.{All-append, All-map, All-contains}
use Rattle.fab_kinds.specs.declared.kind.Kind.TheVariants as kinds
use Rattle.fab_annealing.specs.declared.board.Board.{Board}
use Rattle.fab_annealing.specs.Boards.{IsBoard, IsPlaced, site_count}
use Rattle.fab_model.specs.Tiles.{counted}
use Rattle.fab_model.specs.Grid.{PlainFabric}
use Rattle.fab_fabric.specs.Fabric.{IsFabric}
use Rattle.fab_fabric.specs.declared.wire.Site.{Site}
use Rattle.fab_netlist.specs.Packed.{PlainPacked}
use Rattle.fab_implementation.specs.Plain.{Pad, PlainImplementation, reset_name}
use Rattle.fab_ways_laws.specs.fab_legal_WellMade.{output_name, output_ports, ports}
use Rattle.fab_ways_laws.proofs.fab_legal_Members.{from_mapped}
use Rattle.fab_fabric.specs.Sites.{sites_of_kind}
use Rattle.fab_ways_laws.specs.Placing.{no_site, pads_in_order, free_pads, placement_in_order}
use Rattle.fab_ways_laws.proofs.Lists.{from_counted, from_filter}
use Rattle.fab_place.specs.Fixings.{AreFixed, Fits}
use Rattle.fab_place.specs.inner.Constraints.{AreConstrained}
use Rattle.fab_place.specs.inner.Starts.{is_taken, free_numbers, loose, numbers_in_order, start_numbers}
use Rattle.fab_place.specs.Pins.{item_total}
use Rattle.fab_place.specs.Standing.{site_at, standing}
use Rattle.fab_place.specs.inner.BoardOf.{IsBoardOf}
use Rattle.fab_place.proofs.Counting.{length_counted, at_counted, counted_same}
use Rattle.fab_place.proofs.Once.{Once, once_append, once_counted, once_map, once_filter, once_at}
use Rattle.fab_place.proofs.Orders.{pads_of, from_pads, enough, free_low, length_in_order, from_in_order, once_in_order, at_in_order, is_taken_by}
use Rattle.fab_place.proofs.Sited.{in_sites, few_sites}
use Rattle.fab_place.proofs.Matching.{given_apart, pads_once, pad_of, free_same, all_match, in_order, paired_counted}
use Rattle.fab_place.proofs.Lines.{ports_counted, port_line, ins_counted}

module _ (fabric : PlainFabric) (packed : PlainPacked) (fixed : List Pad) (constrained : List (Option ℕ)) (fits : Fits fabric packed) (are_fixed : AreFixed fabric packed fixed)
    (are : AreConstrained fixed (sites_of_kind fabric kinds.Io) (ports packed) constrained) where
  abbrev Luts : List Site
  Luts = sites_of_kind fabric kinds.Lut4c

  abbrev Pads : List Site
  Pads = sites_of_kind fabric kinds.Io

  abbrev Cells : ℕ
  Cells = length packed.cells

  abbrev Ports : ℕ
  Ports = length packed.inputs + length packed.outputs

  -- the numbers of the pads of ports
  abbrev Order : List ℕ
  Order = numbers_in_order (free_numbers constrained (length (sites_of_kind fabric kinds.Io))) constrained

  abbrev pub Start : List ℕ
  Start = start_numbers (length packed.cells) (length (sites_of_kind fabric kinds.Lut4c)) (length (sites_of_kind fabric kinds.Io)) constrained

  ports_length : length (ports packed) ≡ Ports
  ports_length = omega (arith, length-append packed.inputs (output_ports packed), length-map packed.outputs output_name)

  pub constrained_length : length constrained ≡ length packed.inputs + length packed.outputs
  constrained_length = are.count ∙ ports_length

  enough_free : loose constrained ≤ length (free_numbers constrained (length Pads))
  enough_free = enough constrained (length Pads) (omega (arith, constrained_length, fits.ports))

  order_length : length Order ≡ Ports
  order_length = length_in_order constrained (free_numbers constrained (length Pads)) ∙ constrained_length

  front_length : length (counted Cells (λ cell. cell)) ≡ Cells
  front_length = length_counted Cells (λ cell. cell)

  -- ---- the numbers of the start

  pub start_length : length Start ≡ item_total packed
  start_length =
      omega (arith, length-append (counted Cells (λ cell. cell)) (map (λ pad. length Luts + pad) Order), front_length, length-map Order (λ pad. length Luts + pad), order_length)

  pub start_cell : (k : ℕ) → k < Cells → get_or Start k 0 ≡ k
  start_cell k low =
      get_or_append_left (counted Cells (λ cell. cell)) (map (λ pad. length Luts + pad) Order) 0 k (omega (arith, low, front_length)) ∙ at_counted Cells (λ cell. cell) k 0 low

  pub start_port : (place : ℕ) → place < Ports → get_or Start (Cells + place) 0 ≡ length Luts + get_or Order place 0
  start_port place low =
      ap (λ n. get_or Start (n + place) 0) (sym front_length) ∙ get_or-append-add (counted Cells (λ cell. cell)) (map (λ pad. length Luts + pad) Order) place 0
      ∙ get_or-map (λ pad. length Luts + pad) Order place 0 0 (omega (arith, low, order_length))

  pub order_given : (place number : ℕ) → get_or constrained place None ≡ Some number → get_or Order place 0 ≡ number
  order_given place number is = at_in_order constrained (free_numbers constrained (length Pads)) place number is

  pad_low : (number : ℕ) → Contains (pads_of constrained) number → number < length Pads
  pad_low number h =
      let found = from_pads constrained number h in
      let pad = pad_of fabric packed fixed constrained fits.made are_fixed are found.0 number (get_or_default constrained found.0 None (Some number) found.1 ∙ found.2) in
      pad.is_at.0

  order_low : (number : ℕ) → Contains Order number → number < length Pads
  order_low number h = elim (from_in_order constrained (free_numbers constrained (length Pads)) number enough_free h) [
    | inl a ↦ pad_low number a
    | inr b ↦ All-contains (λ (pad : ℕ). pad < length Pads) (free_numbers constrained (length Pads)) number (free_low constrained (length Pads)) b
  ]

  pub pad_inside : (place : ℕ) → place < Ports → get_or Order place 0 < length Pads
  pad_inside place low = order_low (get_or Order place 0) (place, omega (arith, low, order_length), get_or_default Order place (get_or Order place 0) 0 (omega (arith, low, order_length)))

  free_apart : (pad : ℕ) → Contains (free_numbers constrained (length Pads)) pad → Contains constrained (Some pad) → ⊥
  free_apart pad free taken =
      let kept = (from_filter (λ number. not (is_taken constrained number)) (counted (length Pads) (λ i. i)) pad free).1 in
      false≢true (sym (ap not (is_taken_by constrained pad taken)) ∙ kept)

  once_order : Once Order
  once_order =
      once_in_order constrained (free_numbers constrained (length Pads)) enough_free
      (once_filter (λ number. not (is_taken constrained number)) (counted (length Pads) (λ i. i)) (once_counted (length Pads) (λ i. i) (λ i j li lj e. e)))
      (pads_once constrained (given_apart fabric packed fixed constrained fits.made are_fixed are))
      (λ pad free taken. free_apart pad free (from_pads constrained pad taken))

  once_start : Once Start
  once_start =
      once_append (counted Cells (λ cell. cell)) (map (λ pad. length Luts + pad) Order) (once_counted Cells (λ cell. cell) (λ i j li lj e. e))
      (once_map (λ pad. length Luts + pad) Order (λ a b ha hb e. (let same : a ≡ b = omega (arith, e) in same)) once_order)
      (λ number front back.
      let cell = from_counted Cells (λ cell. cell) number front in
      let port = from_mapped (λ pad. length Luts + pad) Order number back in
      omega (arith, cell.1, cell.2, port.2, fits.cells))

  pub start_inside : All (λ number. number < length (Luts ++ Pads)) Start
  start_inside =
      All-append (λ number. number < length (Luts ++ Pads)) (counted Cells (λ cell. cell)) (map (λ pad. length Luts + pad) Order)
      (λ k d low.
      let cell = at_counted Cells (λ cell. cell) k d (omega (arith, low, front_length)) in
      omega (arith, cell, low, front_length, fits.cells, length-append Luts Pads))
      (All-map (λ number. number < length (Luts ++ Pads)) (λ pad. length Luts + pad) Order (λ k d low.
      let pad = order_low (get_or Order k d) (k, low, get_or_default Order k (get_or Order k d) d low) in
      omega (arith, pad, length-append Luts Pads)))

  -- ---- the board

  abbrev pub All_sites : List Site
  All_sites = sites_of_kind fabric kinds.Lut4c ++ sites_of_kind fabric kinds.Io

  module _ (board : Board) (is : IsBoardOf packed (sites_of_kind fabric kinds.Lut4c ++ sites_of_kind fabric kinds.Io) (length (sites_of_kind fabric kinds.Lut4c)) constrained board) where
    pub sites_are : site_count board ≡ length All_sites
    sites_are = ap length is.columns ∙ length-map All_sites (λ (site : Site). site.x)

    near_all : IsFabric fabric → All (λ (site : Site). (site.x ≤ 31) × (site.y ≤ 31)) All_sites
    near_all good =
        All-append (λ (site : Site). (site.x ≤ 31) × (site.y ≤ 31)) Luts Pads
        (λ k d low. let listed = in_sites fabric kinds.Lut4c (get_or Luts k d) (k, low, get_or_default Luts k (get_or Luts k d) d low) in
        (omega (arith, listed.column, good.few_columns), omega (arith, listed.row, good.few_rows)))
        (λ k d low. let listed = in_sites fabric kinds.Io (get_or Pads k d) (k, low, get_or_default Pads k (get_or Pads k d) d low) in
        (omega (arith, listed.column, good.few_columns), omega (arith, listed.row, good.few_rows)))

    pub is_board : IsFabric fabric → IsBoard board
    is_board good = record {
      good_nets = is.good_nets;
      locks = omega (arith, ap length is.locked, length-append (replicate Cells false) (map is_some constrained), length-replicate Cells false, length-map constrained is_some, constrained_length, is.items);
      rows_count = omega (arith, ap length is.rows, length-map All_sites (λ (site : Site). site.y), sites_are);
      near_columns = subst (λ (xs : List ℕ). All (λ place. place ≤ 31) xs) (sym is.columns) (All-map (λ place. place ≤ 31) (λ (site : Site). site.x) All_sites (λ k d low. (near_all good k d low).0));
      near_rows = subst (λ (xs : List ℕ). All (λ place. place ≤ 31) xs) (sym is.rows) (All-map (λ place. place ≤ 31) (λ (site : Site). site.y) All_sites (λ k d low. (near_all good k d low).1));
      few_sites = omega (arith, sites_are, length-append Luts Pads, few_sites fabric kinds.Lut4c good, few_sites fabric kinds.Io good);
    }

    pub is_placed : IsPlaced board Start
    is_placed = record {
      items = start_length ∙ sym is.items;
      inside = λ k d low. omega (arith, start_inside k d low, sites_are);
      apart = λ first second low_first low_second same. once_at Start first second 0 once_start low_first low_second same;
    }

  -- ---- the placement in order

  front_site : (number : ℕ) → number < length Luts → get_or All_sites number no_site ≡ get_or Luts number no_site
  front_site number low = get_or_append_left Luts Pads no_site number low

  back_site : (number : ℕ) → get_or All_sites (length Luts + number) no_site ≡ get_or Pads number no_site
  back_site number = get_or-append-add Luts Pads number no_site

  cells_in_order : (standing packed All_sites Start).cells ≡ (placement_in_order fabric packed fixed).cells
  cells_in_order =
      counted_same Cells (λ k. (k, site_at All_sites Start k)) (λ k. (k, get_or Luts k no_site))
      (λ k low. ap (λ (site : Site). (k, site)) (ap (λ n. get_or All_sites n no_site) (start_cell k low) ∙ front_site k (omega (arith, low, fits.cells))))

  lines_in_order : pads_in_order fixed (free_pads fabric fixed) (ports packed) ≡ (standing packed All_sites Start).ins ++ (standing packed All_sites Start).outs
  lines_in_order =
      let at : ℕ → Site = λ number. get_or Pads number no_site in
      let same : length (ports packed) ≡ length (map at Order) = omega (arith, ports_length, order_length, length-map Order at) in
      ap (λ (free : List Site). pads_in_order fixed free (ports packed)) (sym (free_same fabric packed fixed constrained fits.made are_fixed are))
      ∙ in_order fabric packed fixed constrained fits.made are_fixed are (ports packed) constrained (free_numbers constrained (length Pads)) (all_match fabric packed fixed constrained fits.made are_fixed are) enough_free
      ∙ paired_counted fabric packed fixed constrained fits.made are_fixed are (ports packed) (map at Order) same
      ∙ ap (λ n. counted n (λ k. (get_or (ports packed) k [], get_or (map at Order) k no_site))) ports_length
      ∙ counted_same Ports (λ k. (get_or (ports packed) k [], get_or (map at Order) k no_site)) (port_line packed All_sites Start)
      (λ k low. ap (λ (site : Site). (get_or (ports packed) k [], site))
      (get_or-map at Order k 0 no_site (omega (arith, low, order_length)) ∙ sym (back_site (get_or Order k 0)) ∙ ap (λ n. get_or All_sites n no_site) (sym (start_port k low))))
      ∙ sym (ports_counted packed All_sites Start)

  ins_length : length (standing packed All_sites Start).ins ≡ length packed.inputs
  ins_length = ap length (ins_counted All_sites Start Cells packed.inputs) ∙ length_counted (length packed.inputs) (λ k. (get_or packed.inputs k [], site_at All_sites Start (Cells + k)))

  -- the start is the placement in order
  pub start_in_order : standing packed All_sites Start ≡ placement_in_order fabric packed fixed
  start_in_order =
      let now = standing packed All_sites Start in
      let lines = pads_in_order fixed (free_pads fabric fixed) (ports packed) in
      let ins : now.ins ≡ take (length packed.inputs) lines = sym (ap (take (length packed.inputs)) lines_in_order ∙ take_at now.ins now.outs (length packed.inputs) ins_length) in
      let outs : now.outs ≡ drop (length packed.inputs) lines = sym (ap (drop (length packed.inputs)) lines_in_order ∙ drop_at now.ins now.outs (length packed.inputs) ins_length) in
      let ordered = placement_in_order fabric packed fixed in
      let first : ◌≡◌ {A = PlainImplementation} now (record { cells = ordered.cells; ins = now.ins; outs = now.outs; trees = []; reset = reset_name packed }) =
      ap (λ (cells : List (ℕ × Site)). record { cells = cells; ins = now.ins; outs = now.outs; trees = []; reset = reset_name packed }) cells_in_order in
      let second : ◌≡◌ {A = PlainImplementation} (record { cells = ordered.cells; ins = now.ins; outs = now.outs; trees = []; reset = reset_name packed }) (record { cells = ordered.cells; ins = ordered.ins; outs = now.outs; trees = []; reset = reset_name packed }) =
      ap (λ (lines : List Pad). record { cells = ordered.cells; ins = lines; outs = now.outs; trees = []; reset = reset_name packed }) ins in
      first ∙ second ∙ ap (λ (lines : List Pad). record { cells = ordered.cells; ins = ordered.ins; outs = lines; trees = []; reset = reset_name packed }) outs
