-- The cost of a placement by the numbers of sites.
use Rattle.std.proofs.Common.{◌≡◌, ℕ, ◌+◌, ◌-◌, ◌<◌, List, [], ◌∷◌, Vec, Global, map, length, get_or, Option, None, zero, suc, refl, sym, ◌∙◌, ap, subst, inl, inr, arith}
use Rattle.std.specs.List.{All, Contains, enumerate_from, slice_get, sum_by}
use Rattle.std.specs.Prelude.{slice_index}
use Rattle.std.specs.Str.{bytes_eq}
use Rattle.std.proofs.lemmas.List.{get_or-map, length-map}
use Rattle.std.proofs.lemmas.List.Sums.{sum_by-append, sum_by-cons}
use Rattle.fab_annealing.specs.declared.board.Board.{Board}
use Rattle.fab_annealing.specs.Boards.{column, row, cost as board_cost}
use Rattle.fab_annealing.specs.Measured.{numbers_of, items_of}
use Rattle.fab_annealing.specs.Spans.{spread as item_spread, least, greatest}
use Rattle.fab_annealing.proofs.Extremes.{least_same, greatest_same}
use Rattle.fab_model.specs.Tiles.{counted}
use Rattle.fab_fabric.specs.declared.wire.Site.{Site}
use Rattle.fab_netlist.specs.declared.net_id.NetId.{NetId}
use Rattle.fab_netlist.specs.declared.net_id.NetId.TheVariants as ids
use Rattle.fab_netlist.specs.Packed.{PlainCell, PlainPacked}
use Rattle.fab_netlist.proofs.Members.{first_in, later_in, first_or_later}
use Rattle.fab_ways_laws.specs.fab_legal_WellMade.{IsNetId, IsWellMadePacked}
use Rattle.fab_ways_laws.specs.fab_legal_Sinks.{site_of}
use Rattle.fab_ways_laws.specs.Placing.{no_site, half_perimeter, cell_site, reader_sites, cost}
use Rattle.fab_place.specs.Pins.{item_total, net_total, pin}
use Rattle.fab_place.specs.Standing.{site_at, standing}
use Rattle.fab_place.specs.inner.BoardOf.{IsBoardOf}
use Rattle.fab_place.proofs.Counting.{counted_list, counted_same, counted_split, numbered_counted, sum_counted, sum_two}
use Rattle.fab_place.proofs.Found.{cell_found}
use Rattle.fab_place.proofs.Readers.{IsNumber, driver, Reads, from_pins, into_pins, input_found, reader_here, from_here}
use Rattle.fab_place.proofs.Spreads.{half_same}

members_same : (place other : ℕ → ℕ) (items : List ℕ) → ((x : ℕ) → Contains items x → place x ≡ other x) → item_spread place items ≡ item_spread other items
members_same place other items same =
    ap (λ high. high - least place items) (greatest_same place other items same) ∙ ap (λ low. greatest other items - low) (least_same place other items same)

items_at : (lists : List (Vec ℕ Global)) (k : ℕ) → get_or (map (λ (list : Vec ℕ Global). list.items) lists) k [] ≡ numbers_of (slice_get lists k)
items_at [] k = refl
items_at (list ∷ lists) zero = refl
items_at (list ∷ lists) (suc k) = items_at lists k

sum_mapped : {X Y : Type 0} (f : Y → ℕ) (g : X → Y) (xs : List X) → sum_by (λ x. f (g x)) xs ≡ sum_by f (map g xs)
sum_mapped f g [] = refl
sum_mapped {X} {Y} f g (x ∷ xs) = sum_by-cons (λ (z : X). f (g z)) x xs ∙ ap (λ n. f (g x) + n) (sum_mapped f g xs) ∙ sym (sum_by-cons f (g x) (map g xs))

abbrev no_cell : PlainCell
no_cell = record { table = 0; inputs = []; latch = None }

module _ (packed : PlainPacked) (made : IsWellMadePacked packed) (all : List Site) (luts : ℕ) (constrained : List (Option ℕ)) (board : Board) (is : IsBoardOf packed all luts constrained board) (numbers : List ℕ)
    (count : length numbers ≡ item_total packed) (inside : All (λ number. number < length all) numbers) where
  abbrev Cells : ℕ
  Cells = length packed.cells

  abbrev Ins : ℕ
  Ins = length packed.inputs

  abbrev Items : ℕ → List ℕ
  Items net = items_of board.nets net

  -- the spread of some items, in columns and in rows
  abbrev Half : List ℕ → ℕ
  Half items = item_spread (λ item. column board (slice_index numbers item)) items + item_spread (λ item. row board (slice_index numbers item)) items

  column_is : (item : ℕ) → item < item_total packed → column board (slice_index numbers item) ≡ (site_at all numbers item).x
  column_is item low =
      ap (λ (xs : List ℕ). get_or xs (get_or numbers item 0) 0) is.columns
      ∙ get_or-map (λ (site : Site). site.x) all (get_or numbers item 0) no_site 0 (inside item 0 (omega (arith, low, count)))

  row_is : (item : ℕ) → item < item_total packed → row board (slice_index numbers item) ≡ (site_at all numbers item).y
  row_is item low =
      ap (λ (xs : List ℕ). get_or xs (get_or numbers item 0) 0) is.rows
      ∙ get_or-map (λ (site : Site). site.y) all (get_or numbers item 0) no_site 0 (inside item 0 (omega (arith, low, count)))

  module _ (k : ℕ) (net : NetId) (good : IsNetId packed net) (number : IsNumber (length packed.inputs) net k) (low : k < net_total packed) where
    abbrev At : List Site
    At = site_at all numbers (driver (length packed.cells) net) ∷ reader_sites packed (standing packed all numbers) net

    among : Contains (Items k) (driver Cells net)
    among = is.pins.whole (pin k (driver Cells net)) (into_pins packed made net k good number (driver Cells net) (inl refl))

    into : (item : ℕ) → Contains (Items k) item → Contains At (site_at all numbers item)
    into item h =
        let found = is.pins.sound k item h in
        elim (from_pins packed made net k good number found.0 found.1 found.2) [
          | inl e ↦ first_in (site_at all numbers (driver Cells net)) (reader_sites packed (standing packed all numbers) net) (site_at all numbers item) (ap (site_at all numbers) (e ∙ found.3))
          | inr reads ↦ later_in (site_at all numbers (driver Cells net)) (reader_sites packed (standing packed all numbers) net) (site_at all numbers item)
              (reader_here packed made all numbers net (subst (λ i. Reads packed net i) found.3 reads))
        ]

    from : (site : Site) → Contains At site → (item : ℕ) × Contains (Items k) item × (site_at all numbers item ≡ site)
    from site h = elim (first_or_later (site_at all numbers (driver Cells net)) (reader_sites packed (standing packed all numbers) net) site h) [
      | inl e ↦ (driver Cells net, among, e)
      | inr later ↦ (
          let found = from_here packed made all numbers net site later in
          (found.0, is.pins.whole (pin k found.0) (into_pins packed made net k good number found.0 (inr found.1)), found.2))
    ]

    inner : (item : ℕ) → Contains (Items k) item → item < item_total packed
    inner item h =
        let all_low = is.good_nets.inside k (omega (arith, low, is.nets)) h.0 item h.1 in
        omega (arith, all_low, h.2, is.items)

    half_is : Half (Items k) ≡ half_perimeter At
    half_is =
        ap (λ n. n + item_spread (λ item. row board (slice_index numbers item)) (Items k)) (members_same (λ item. column board (slice_index numbers item)) (λ item. (site_at all numbers item).x) (Items k) (λ item h. column_is item (inner item h)))
        ∙ ap (λ n. item_spread (λ item. (site_at all numbers item).x) (Items k) + n) (members_same (λ item. row board (slice_index numbers item)) (λ item. (site_at all numbers item).y) (Items k) (λ item h. row_is item (inner item h)))
        ∙ half_same (site_at all numbers) (Items k) At (driver Cells net) among into from

  -- ---- sums

  abbrev InputHalf : ℕ × List ℕ → ℕ
  InputHalf port = half_perimeter (site_of bytes_eq (standing packed all numbers).ins port.1 ∷ reader_sites packed (standing packed all numbers) (ids.In port.0))

  abbrev CellHalf : ℕ × PlainCell → ℕ
  CellHalf cell = half_perimeter (cell_site (standing packed all numbers) cell.0 ∷ reader_sites packed (standing packed all numbers) (ids.Cell cell.0))

  input_half : (k : ℕ) → k < Ins → InputHalf (k, get_or packed.inputs k []) ≡ Half (Items k)
  input_half k low =
      ap (λ (site : Site). half_perimeter (site ∷ reader_sites packed (standing packed all numbers) (ids.In k))) (input_found packed made all numbers k low)
      ∙ sym (half_is k (ids.In k) low refl (omega (arith, low)))

  cell_half : (k : ℕ) → k < Cells → CellHalf (k, get_or packed.cells k no_cell) ≡ Half (Items (Ins + k))
  cell_half k low =
      ap (λ (site : Site). half_perimeter (site ∷ reader_sites packed (standing packed all numbers) (ids.Cell k))) (cell_found packed all numbers k low)
      ∙ sym (half_is (Ins + k) (ids.Cell k) low refl (omega (arith, low)))

  inputs_sum : sum_by InputHalf (enumerate_from 0 packed.inputs) ≡ sum_by Half (counted Ins Items)
  inputs_sum = ap (sum_by InputHalf) (numbered_counted packed.inputs []) ∙ sum_counted Ins InputHalf (λ k. (k, get_or packed.inputs k [])) Half Items input_half

  cells_sum : sum_by CellHalf (enumerate_from 0 packed.cells) ≡ sum_by Half (counted Cells (λ k. Items (Ins + k)))
  cells_sum = ap (sum_by CellHalf) (numbered_counted packed.cells no_cell) ∙ sum_counted Cells CellHalf (λ k. (k, get_or packed.cells k no_cell)) Half (λ k. Items (Ins + k)) cell_half

  abbrev Lists : List (List ℕ)
  Lists = map (λ (list : Vec ℕ Global). list.items) board.nets.items.items

  lists_counted : Lists ≡ counted (Ins + Cells) Items
  lists_counted =
      counted_list Lists [] ∙ counted_same (length Lists) (λ k. get_or Lists k []) Items (λ k low. items_at board.nets.items.items k)
      ∙ ap (λ n. counted n Items) (length-map board.nets.items.items (λ (list : Vec ℕ Global). list.items) ∙ is.nets)

  pub cost_is : cost packed (standing packed all numbers) ≡ board_cost board numbers
  cost_is =
      let across : Vec ℕ Global → ℕ = λ list. item_spread (λ item. column board (slice_index numbers item)) list.items in
      let down : Vec ℕ Global → ℕ = λ list. item_spread (λ item. row board (slice_index numbers item)) list.items in
      let both : board_cost board numbers ≡ sum_by Half Lists =
      sum_two across down board.nets.items.items ∙ sum_mapped Half (λ (list : Vec ℕ Global). list.items) board.nets.items.items in
      let parts : sum_by Half Lists ≡ sum_by Half (counted Ins Items) + sum_by Half (counted Cells (λ k. Items (Ins + k))) =
      ap (sum_by Half) (lists_counted ∙ counted_split Ins Cells Items) ∙ sum_by-append Half (counted Ins Items) (counted Cells (λ k. Items (Ins + k))) in
      omega (arith, both, parts, inputs_sum, cells_sum)
