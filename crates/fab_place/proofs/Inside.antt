-- The pins of a well-made design are on nets and of items that there are.
use Rattle.std.proofs.Common.{◌≡◌, ℕ, ◌+◌, ◌<◌, ◌≤◌, ◌++◌, List, [], ◌∷◌, length, get_or, zero, suc, Bool, true, false, cond, Option, Some, None, is_some, refl, sym, ◌∙◌, ap, arith}
use Rattle.std.proofs.lemmas.List.{get_or_default}
use Rattle.std.proofs.lemmas.List.Elements.{All-append, All-contains}
use Rattle.std.proofs.lemmas.List.FromFn.{length-enumerate_from, get_or-enumerate_from}
use Rattle.std.specs.List.{All, Contains, flat_map, enumerate_from}
use Rattle.fab_model.specs.Tiles.{counted}
use Rattle.fab_netlist.specs.declared.net_id.NetId.{NetId}
use Rattle.fab_netlist.specs.declared.net_id.NetId.TheVariants as ids
use Rattle.fab_netlist.specs.Packed.{PlainCell, PlainPacked}
use Rattle.fab_ways_laws.specs.fab_legal_WellMade.{IsNetId, IsWellMadeCell, IsWellMadePacked}
use Rattle.fab_ways_laws.specs.fab_legal_Sinks.{reset_id}
use Rattle.fab_place.specs.declared.nets.Pin.{Pin}
use Rattle.fab_place.specs.Pins.{IsNear, pin, pin_on, net_total, item_total, input_pins, cell_pins, reading_pins, reset_pins, output_pins, pins}

-- ---- what holds of the members of lists

all_members : {X : Type 0} (P : X → Type 0) (xs : List X) → ((x : X) → Contains xs x → P x) → All P xs
all_members P xs each k d low = each (get_or xs k d) (k, low, get_or_default xs k (get_or xs k d) d low)

all_pieces : {X Y : Type 0} (P : Y → Type 0) (g : X → List Y) (xs : List X) → ((x : X) → Contains xs x → All P (g x)) → All P (flat_map g xs)
all_pieces P g [] each = λ k d low. absurd (omega (arith, low))
all_pieces P g (x ∷ xs) each = All-append P (g x) (flat_map g xs) (each x (0, omega arith, refl)) (all_pieces P g xs (λ y h. each y (suc h.0, omega (arith, h.1), h.2)))

all_counted : {X : Type 0} (P : X → Type 0) (n : ℕ) (f : ℕ → X) → ((i : ℕ) → i < n → P (f i)) → All P (counted n f)
unfolding counted
all_counted P zero f each k d low = absurd (omega (arith, low))
all_counted P (suc n) f each zero d low = each 0 (omega arith)
all_counted P (suc n) f each (suc k) d low = all_counted P n (λ i. f (suc i)) (λ i l. each (suc i) (omega (arith, l))) k d (omega (arith, low))

all_one : {X : Type 0} (P : X → Type 0) (x : X) → P x → All P (x ∷ [])
all_one P x h zero d low = h
all_one P x h (suc k) d low = absurd (omega (arith, low))

numbered_in : {X : Type 0} (xs : List X) (entry : ℕ × X) → Contains (enumerate_from 0 xs) entry → (entry.0 < length xs) × Contains xs entry.1
numbered_in {X} xs entry h =
    let low : h.0 < length xs = omega (arith, h.1, length-enumerate_from 0 xs) in
    let is = sym h.2 ∙ get_or-enumerate_from 0 xs h.0 entry low in
    (omega (arith, low, ap (λ (e : ℕ × X). e.0) is), (h.0, low, sym (ap (λ (e : ℕ × X). e.1) is)))

-- ---- nets

pub near_net : (packed : PlainPacked) (net : NetId) → length packed.inputs ≤ 16384 → length packed.cells ≤ 16384 → IsNetId packed net → IsNear net
near_net packed ids.Zero few few_cells is = is
near_net packed ids.One few few_cells is = is
near_net packed (ids.In number) few few_cells is = omega (arith, few, is)
near_net packed (ids.Cell number) few few_cells is = omega (arith, few_cells, is)

-- the net that resets is one of the design
pub reset_is_net : (packed : PlainPacked) (reset : Option ℕ) → ((place : ℕ) → reset ≡ Some place → place < length packed.inputs) → IsNetId packed (reset_id reset)
reset_is_net packed None below = tt
reset_is_net packed (Some place) below = below place refl

module _ (packed : PlainPacked) (made : IsWellMadePacked packed) where
  few_inputs : length packed.inputs ≤ 16384
  few_inputs = omega (arith, made.few_ports)

  pub near_readings : All (λ (cell : PlainCell). All IsNear cell.inputs) packed.cells
  near_readings k d low = λ m e within. near_net packed (get_or (get_or packed.cells k d).inputs m e) few_inputs made.few_cells ((made.cells k d low).nets m e within)

  pub near_reset : IsNear (reset_id packed.reset)
  near_reset = near_net packed (reset_id packed.reset) few_inputs made.few_cells (reset_is_net packed packed.reset made.reset_below)

  pub near_outputs : All (λ (output : List ℕ × NetId). IsNear output.1) packed.outputs
  near_outputs k d low = near_net packed (get_or packed.outputs k d).1 few_inputs made.few_cells (made.nets k d low)

-- ---- pins

module _ (packed : PlainPacked) (made : IsWellMadePacked packed) where
  abbrev pub IsInside : Pin → Type 0
  IsInside one = (one.net < net_total packed) × (one.item < item_total packed)

  on_inside : (item : ℕ) (net : NetId) → IsNetId packed net → item < item_total packed → All IsInside (pin_on (length packed.inputs) item net)
  on_inside item ids.Zero is low = λ k d within. absurd (omega (arith, within))
  on_inside item ids.One is low = λ k d within. absurd (omega (arith, within))
  on_inside item (ids.In number) is low = all_one IsInside (pin number item) (omega (arith, is), low)
  on_inside item (ids.Cell number) is low = all_one IsInside (pin (length packed.inputs + number) item) (omega (arith, is), low)

  inputs_inside : All IsInside (input_pins (length packed.inputs) (length packed.cells))
  inputs_inside = all_counted IsInside (length packed.inputs) (λ number. pin number (length packed.cells + number)) (λ i low. (omega (arith, low), omega (arith, low)))

  cells_inside : All IsInside (cell_pins (length packed.inputs) (length packed.cells))
  cells_inside = all_counted IsInside (length packed.cells) (λ number. pin (length packed.inputs + number) number) (λ i low. (omega (arith, low), omega (arith, low)))

  readings_inside : All IsInside (reading_pins (length packed.inputs) packed.cells)
  readings_inside = all_pieces IsInside (λ (cell : ℕ × PlainCell). flat_map (pin_on (length packed.inputs) cell.0) cell.1.inputs) (enumerate_from 0 packed.cells)
      (λ cell h.
      let found = numbered_in packed.cells cell h in
      let right = All-contains (IsWellMadeCell packed) packed.cells cell.1 made.cells found.1 in
      all_pieces IsInside (pin_on (length packed.inputs) cell.0) cell.1.inputs
      (λ net among. on_inside cell.0 net (All-contains (IsNetId packed) cell.1.inputs net right.nets among) (omega (arith, found.0))))

  latch_inside : (latch : Bool) (pins : List Pin) → All IsInside pins → All IsInside (cond latch pins [])
  latch_inside true pins inside = inside
  latch_inside false pins inside = λ k d low. absurd (omega (arith, low))

  resets_inside : All IsInside (reset_pins (length packed.inputs) (reset_id packed.reset) packed.cells)
  resets_inside = all_pieces IsInside (λ (cell : ℕ × PlainCell). cond (is_some cell.1.latch) (pin_on (length packed.inputs) cell.0 (reset_id packed.reset)) []) (enumerate_from 0 packed.cells)
      (λ cell h.
      latch_inside (is_some cell.1.latch) (pin_on (length packed.inputs) cell.0 (reset_id packed.reset))
      (on_inside cell.0 (reset_id packed.reset) (reset_is_net packed packed.reset made.reset_below) (omega (arith, (numbered_in packed.cells cell h).0))))

  outputs_inside : All IsInside (output_pins (length packed.inputs) (length packed.cells + length packed.inputs) packed.outputs)
  outputs_inside = all_pieces IsInside (λ (output : ℕ × (List ℕ × NetId)). pin_on (length packed.inputs) ((length packed.cells + length packed.inputs) + output.0) output.1.1) (enumerate_from 0 packed.outputs)
      (λ output h.
      let found = numbered_in packed.outputs output h in
      on_inside ((length packed.cells + length packed.inputs) + output.0) output.1.1 (All-contains (λ (o : List ℕ × NetId). IsNetId packed o.1) packed.outputs output.1 made.nets found.1) (omega (arith, found.0)))

  pub pins_inside : All IsInside (pins packed)
  pins_inside =
      let inputs = input_pins (length packed.inputs) (length packed.cells) in
      let cells = cell_pins (length packed.inputs) (length packed.cells) in
      let readings = reading_pins (length packed.inputs) packed.cells in
      let resets = reset_pins (length packed.inputs) (reset_id packed.reset) packed.cells in
      let outputs = output_pins (length packed.inputs) (length packed.cells + length packed.inputs) packed.outputs in
      All-append IsInside inputs (cells ++ (readings ++ (resets ++ outputs))) inputs_inside
      (All-append IsInside cells (readings ++ (resets ++ outputs)) cells_inside
      (All-append IsInside readings (resets ++ outputs) readings_inside (All-append IsInside resets outputs resets_inside outputs_inside)))
