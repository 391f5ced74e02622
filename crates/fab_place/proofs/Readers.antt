-- Which items have a pin on a net, and where they stand.
use Rattle.std.proofs.Common.{◌≡◌, ◌⊎◌, ℕ, ◌+◌, ◌<◌, Bool, true, false, ◌&&◌, ◌||◌, cond, is_some, List, [], ◌∷◌, ◌++◌, map, filter, length, get_or, Some, refl, sym, ◌∙◌, ap, subst, inl, inr, arith}
use Rattle.std.specs.List.{Contains, flat_map, enumerate_from, list_any}
use Rattle.std.specs.Str.{bytes_eq}
use Rattle.std.proofs.lemmas.Bool.{false≢true}
use Rattle.std.proofs.lemmas.Bool.Decides.{Decides-eqb}
use Rattle.std.proofs.lemmas.List.{get_or-map}
use Rattle.std.proofs.lemmas.List.Elements.{All-contains, Contains-append_cases}
use Rattle.std.proofs.lemmas.Option.{slice_get-get_or}
use Rattle.std.proofs.lemmas.Slice.Eq.{bytes_eq-Decides}
use Rattle.fab_fabric.specs.declared.wire.Site.{Site}
use Rattle.fab_netlist.specs.declared.net_id.NetId.{NetId}
use Rattle.fab_netlist.specs.declared.net_id.NetId.TheVariants as ids
use Rattle.fab_netlist.specs.Plain.{IsAt}
use Rattle.fab_netlist.specs.Packed.{PlainCell, PlainPacked}
use Rattle.fab_netlist.proofs.Members.{first_in, first_or_later, in_none, in_left, in_right, mapped_in, either_true, both_true, parts_true, any_by, any_gives}
use Rattle.fab_implementation.specs.Plain.{Pad}
use Rattle.fab_ways_laws.specs.fab_legal_WellMade.{output_name, output_ports, IsNetId, IsWellMadeCell, IsWellMadePacked}
use Rattle.fab_ways_laws.specs.fab_legal_Lines.{named}
use Rattle.fab_ways_laws.specs.fab_legal_Sinks.{reset_id, site_of}
use Rattle.fab_ways_laws.proofs.fab_legal_Bindings.{differ_left, differ_right}
use Rattle.fab_ways_laws.proofs.fab_legal_Members.{from_mapped}
use Rattle.fab_ways_laws.proofs.fab_legal_SinkLaw.{in_flat, into_flat}
use Rattle.fab_ways_laws.specs.Placing.{same_net, cell_site, reads_net, reader_sites}
use Rattle.fab_ways_laws.proofs.Lists.{from_filter, into_filter, in_counted, from_counted}
use Rattle.fab_place.specs.declared.nets.Pin.{Pin}
use Rattle.fab_place.specs.Pins.{pin, pin_on, input_pins, cell_pins, reading_pins, reset_pins, output_pins, pins}
use Rattle.fab_place.specs.Standing.{site_at, standing}
use Rattle.fab_place.proofs.Found.{cell_found}
use Rattle.fab_place.proofs.Finding.{site_found}
use Rattle.fab_place.proofs.Inside.{reset_is_net}
use Rattle.fab_place.proofs.Lines.{ins_counted, outs_counted, ins_named, outs_named}
use Rattle.fab_place.proofs.Once.{Once, once_pairs}
use Rattle.fab_place.proofs.Sited.{numbered_at, at_numbered}

-- ---- numbers of nets

abbrev pub IsNumber : (inputs : ℕ) → NetId → (number : ℕ) → Type 0
IsNumber inputs ids.Zero number = ⊥
IsNumber inputs ids.One number = ⊥
IsNumber inputs (ids.In input) number = number ≡ input
IsNumber inputs (ids.Cell cell) number = number ≡ inputs + cell

-- the item that drives a net
abbrev pub driver : (cells : ℕ) → NetId → ℕ
driver cells ids.Zero = 0
driver cells ids.One = 0
driver cells (ids.In input) = cells + input
driver cells (ids.Cell cell) = cell

net_apart : (packed : PlainPacked) (a b : NetId) (number : ℕ) → IsNetId packed a → IsNetId packed b → IsNumber (length packed.inputs) a number → IsNumber (length packed.inputs) b number → a ≡ b
net_apart packed ids.Zero b number is_a is_b na nb = absurd na
net_apart packed ids.One b number is_a is_b na nb = absurd na
net_apart packed (ids.In i) ids.Zero number is_a is_b na nb = absurd nb
net_apart packed (ids.In i) ids.One number is_a is_b na nb = absurd nb
net_apart packed (ids.In i) (ids.In j) number is_a is_b na nb = ap (λ n. ids.In n) (sym na ∙ nb)
net_apart packed (ids.In i) (ids.Cell j) number is_a is_b na nb = absurd (omega (arith, is_a, na, nb))
net_apart packed (ids.Cell i) ids.Zero number is_a is_b na nb = absurd nb
net_apart packed (ids.Cell i) ids.One number is_a is_b na nb = absurd nb
net_apart packed (ids.Cell i) (ids.In j) number is_a is_b na nb = absurd (omega (arith, is_b, na, nb))
net_apart packed (ids.Cell i) (ids.Cell j) number is_a is_b na nb = ap (λ n. ids.Cell n) (let e : i ≡ j = omega (arith, na, nb) in e)

same_is : (a b : NetId) → same_net a b ≡ true → a ≡ b
same_is ids.Zero ids.Zero t = refl
same_is ids.Zero ids.One t = absurd (false≢true t)
same_is ids.Zero (ids.In j) t = absurd (false≢true t)
same_is ids.Zero (ids.Cell j) t = absurd (false≢true t)
same_is ids.One ids.Zero t = absurd (false≢true t)
same_is ids.One ids.One t = refl
same_is ids.One (ids.In j) t = absurd (false≢true t)
same_is ids.One (ids.Cell j) t = absurd (false≢true t)
same_is (ids.In i) ids.Zero t = absurd (false≢true t)
same_is (ids.In i) ids.One t = absurd (false≢true t)
same_is (ids.In i) (ids.In j) t = ap (λ n. ids.In n) ((Decides-eqb i j).0 t)
same_is (ids.In i) (ids.Cell j) t = absurd (false≢true t)
same_is (ids.Cell i) ids.Zero t = absurd (false≢true t)
same_is (ids.Cell i) ids.One t = absurd (false≢true t)
same_is (ids.Cell i) (ids.In j) t = absurd (false≢true t)
same_is (ids.Cell i) (ids.Cell j) t = ap (λ n. ids.Cell n) ((Decides-eqb i j).0 t)

same_self : (a : NetId) → same_net a a ≡ true
same_self ids.Zero = refl
same_self ids.One = refl
same_self (ids.In i) = (Decides-eqb i i).1 refl
same_self (ids.Cell i) = (Decides-eqb i i).1 refl

either_of : (a b : Bool) → (a || b) ≡ true → (a ≡ true) ⊎ (b ≡ true)
either_of true b is = inl refl
either_of false b is = inr is

from_one : (p q : Pin) → Contains (p ∷ []) q → p ≡ q
from_one p q h = elim (first_or_later p [] q h) [ inl e ↦ e | inr later ↦ absurd (in_none q later) ]

from_pin_on : (inputs item : ℕ) (net : NetId) (p : Pin) → Contains (pin_on inputs item net) p → (p.item ≡ item) × IsNumber inputs net p.net
from_pin_on inputs item ids.Zero p h = absurd (in_none p h)
from_pin_on inputs item ids.One p h = absurd (in_none p h)
from_pin_on inputs item (ids.In number) p h = let e = from_one (pin number item) p h in (sym (ap (λ (q : Pin). q.item) e), sym (ap (λ (q : Pin). q.net) e))
from_pin_on inputs item (ids.Cell number) p h = let e = from_one (pin (inputs + number) item) p h in (sym (ap (λ (q : Pin). q.item) e), sym (ap (λ (q : Pin). q.net) e))

into_pin_on : (inputs item : ℕ) (net : NetId) (number : ℕ) → IsNumber inputs net number → Contains (pin_on inputs item net) (pin number item)
into_pin_on inputs item ids.Zero number is = absurd is
into_pin_on inputs item ids.One number is = absurd is
into_pin_on inputs item (ids.In input) number is = first_in (pin input item) [] (pin number item) (ap (λ n. pin n item) (sym is))
into_pin_on inputs item (ids.Cell cell) number is = first_in (pin (inputs + cell) item) [] (pin number item) (ap (λ n. pin n item) (sym is))

-- ---- readers

-- a cell reads a net, also as the one that resets its latch, or an output port does
pub data Reads (packed : PlainPacked) (net : NetId) : ℕ → Type 0 where
  by_cell : {number : ℕ} {cell : PlainCell} → IsAt packed.cells number cell → Contains cell.inputs net → Reads packed net number
  by_reset : {number : ℕ} {cell : PlainCell} → IsAt packed.cells number cell → is_some cell.latch ≡ true → reset_id packed.reset ≡ net → Reads packed net number
  by_output : {place : ℕ} {output : List ℕ × NetId} → IsAt packed.outputs place output → output.1 ≡ net → Reads packed net ((length packed.cells + length packed.inputs) + place)

numbered_is : {X : Type 0} (xs : List X) (entry : ℕ × X) → Contains (enumerate_from 0 xs) entry → IsAt xs entry.0 entry.1
numbered_is xs entry h = numbered_at xs entry h

is_numbered : {X : Type 0} (xs : List X) (k : ℕ) (x : X) → IsAt xs k x → Contains (enumerate_from 0 xs) (k, x)
is_numbered xs k x at = at_numbered xs k x (slice_get-get_or xs k x at.0 ∙ ap (λ y. Some y) at.1)

cell_at_is : (packed : PlainPacked) (number : ℕ) (cell : PlainCell) → IsWellMadePacked packed → IsAt packed.cells number cell → IsWellMadeCell packed cell
cell_at_is packed number cell made at = All-contains (IsWellMadeCell packed) packed.cells cell made.cells (number, at.0, at.1)

module _ (packed : PlainPacked) (made : IsWellMadePacked packed) (net : NetId) (number : ℕ) (is_net : IsNetId packed net) (is : IsNumber (length packed.inputs) net number) where
  abbrev Cells : ℕ
  Cells = length packed.cells

  abbrev Ins : ℕ
  Ins = length packed.inputs

  abbrev Outputs : List Pin
  Outputs = output_pins (length packed.inputs) (length packed.cells + length packed.inputs) packed.outputs

  abbrev Resets : List Pin
  Resets = reset_pins (length packed.inputs) (reset_id packed.reset) packed.cells

  -- the pins of readers
  abbrev Readings : List Pin
  Readings = reading_pins (length packed.inputs) packed.cells ++ (reset_pins (length packed.inputs) (reset_id packed.reset) packed.cells ++ output_pins (length packed.inputs) (length packed.cells + length packed.inputs) packed.outputs)

  abbrev Has : ℕ → Type 0
  Has item = (driver (length packed.cells) net ≡ item) ⊎ Reads packed net item

  has_input : (id : NetId) (m : ℕ) (p : Pin) → IsNumber Ins id number → m < Ins → pin m (Cells + m) ≡ p → p.net ≡ number → driver Cells id ≡ p.item
  has_input ids.Zero m p n low e same = absurd n
  has_input ids.One m p n low e same = absurd n
  has_input (ids.In input) m p n low e same = omega (arith, n, same, ap (λ (q : Pin). q.net) e, ap (λ (q : Pin). q.item) e)
  has_input (ids.Cell cell) m p n low e same = absurd (omega (arith, n, low, same, ap (λ (q : Pin). q.net) e))

  has_cell : (id : NetId) (m : ℕ) (p : Pin) → IsNetId packed id → IsNumber Ins id number → pin (Ins + m) m ≡ p → p.net ≡ number → driver Cells id ≡ p.item
  has_cell ids.Zero m p is n e same = absurd n
  has_cell ids.One m p is n e same = absurd n
  has_cell (ids.In input) m p is n e same = absurd (omega (arith, is, n, same, ap (λ (q : Pin). q.net) e))
  has_cell (ids.Cell cell) m p is n e same = omega (arith, n, same, ap (λ (q : Pin). q.net) e, ap (λ (q : Pin). q.item) e)

  from_reading : (p : Pin) → Contains (reading_pins Ins packed.cells) p → p.net ≡ number → Reads packed net p.item
  from_reading p h same =
      let found = in_flat (λ (cell : ℕ × PlainCell). flat_map (pin_on Ins cell.0) cell.1.inputs) (enumerate_from 0 packed.cells) p h in
      let cell = found.0 in
      let at = numbered_is packed.cells cell found.1 in
      let input = in_flat (pin_on Ins cell.0) cell.1.inputs p found.2 in
      let on = from_pin_on Ins cell.0 input.0 p input.2 in
      let good = All-contains (IsNetId packed) cell.1.inputs input.0 (cell_at_is packed cell.0 cell.1 made at).nets input.1 in
      let one : input.0 ≡ net = net_apart packed input.0 net number good is_net (subst (λ n. IsNumber Ins input.0 n) same on.1) is in
      subst (λ item. Reads packed net item) (sym on.0) (by_cell at (subst (λ (id : NetId). Contains cell.1.inputs id) one input.1))

  abbrev Reset : NetId
  Reset = reset_id packed.reset

  -- the pins of a cell on the net that resets
  abbrev Resetting : ℕ × PlainCell → List Pin
  Resetting cell = cond (is_some cell.1.latch) (pin_on Ins cell.0 Reset) []

  from_latch : (latch : Bool) (ps : List Pin) (p : Pin) → Contains (cond latch ps []) p → (latch ≡ true) × Contains ps p
  from_latch true ps p h = (refl, h)
  from_latch false ps p h = absurd (in_none p h)

  from_reset : (p : Pin) → Contains (reset_pins Ins Reset packed.cells) p → p.net ≡ number → Reads packed net p.item
  from_reset p h same =
      let found = in_flat Resetting (enumerate_from 0 packed.cells) p h in
      let cell = found.0 in
      let kept = from_latch (is_some cell.1.latch) (pin_on Ins cell.0 Reset) p found.2 in
      let on = from_pin_on Ins cell.0 Reset p kept.1 in
      let good = reset_is_net packed packed.reset made.reset_below in
      let one : Reset ≡ net = net_apart packed Reset net number good is_net (subst (λ n. IsNumber Ins Reset n) same on.1) is in
      subst (λ item. Reads packed net item) (sym on.0) (by_reset (numbered_is packed.cells cell found.1) kept.0 one)

  from_output : (p : Pin) → Contains (output_pins Ins (Cells + Ins) packed.outputs) p → p.net ≡ number → Reads packed net p.item
  from_output p h same =
      let found = in_flat (λ (output : ℕ × (List ℕ × NetId)). pin_on Ins ((Cells + Ins) + output.0) output.1.1) (enumerate_from 0 packed.outputs) p h in
      let output = found.0 in
      let at = numbered_is packed.outputs output found.1 in
      let on = from_pin_on Ins ((Cells + Ins) + output.0) output.1.1 p found.2 in
      let good = All-contains (λ (o : List ℕ × NetId). IsNetId packed o.1) packed.outputs output.1 made.nets (output.0, at.0, at.1) in
      let one : output.1.1 ≡ net = net_apart packed output.1.1 net number good is_net (subst (λ n. IsNumber Ins output.1.1 n) same on.1) is in
      subst (λ item. Reads packed net item) (sym on.0) (by_output at one)

  -- a pin of the net is that of its driver or of a reader
  pub from_pins : (p : Pin) → Contains (pins packed) p → p.net ≡ number → Has p.item
  from_pins p h same =
      elim (Contains-append_cases (input_pins Ins Cells) (cell_pins Ins Cells ++ Readings) p h) [
        | inl a ↦ (let found = from_counted Ins (λ m. pin m (Cells + m)) p a in inl (has_input net found.0 p is found.1 found.2 same))
        | inr later ↦ elim (Contains-append_cases (cell_pins Ins Cells) Readings p later) [
          | inl b ↦ (let found = from_counted Cells (λ m. pin (Ins + m) m) p b in inl (has_cell net found.0 p is_net is found.2 same))
          | inr last ↦ elim (Contains-append_cases (reading_pins Ins packed.cells) (Resets ++ Outputs) p last) [
            | inl c ↦ inr (from_reading p c same)
            | inr d ↦ elim (Contains-append_cases Resets Outputs p d) [ inl e ↦ inr (from_reset p e same) | inr f ↦ inr (from_output p f same) ]
          ]
        ]
      ]

  driver_pin : (id : NetId) → IsNetId packed id → IsNumber Ins id number → Contains (pins packed) (pin number (driver Cells id))
  driver_pin ids.Zero good n = absurd n
  driver_pin ids.One good n = absurd n
  driver_pin (ids.In input) good n =
      in_left (input_pins Ins Cells) (cell_pins Ins Cells ++ Readings) (pin number (Cells + input))
      (subst (λ (p : Pin). Contains (input_pins Ins Cells) p) (ap (λ m. pin m (Cells + input)) (sym n)) (in_counted Ins (λ m. pin m (Cells + m)) input good))
  driver_pin (ids.Cell cell) good n =
      in_right (input_pins Ins Cells) (cell_pins Ins Cells ++ Readings) (pin number cell)
      (in_left (cell_pins Ins Cells) Readings (pin number cell)
      (subst (λ (p : Pin). Contains (cell_pins Ins Cells) p) (ap (λ m. pin m cell) (sym n)) (in_counted Cells (λ m. pin (Ins + m) m) cell good)))

  reading_there : (p : Pin) → Contains Readings p → Contains (pins packed) p
  reading_there p h = in_right (input_pins Ins Cells) (cell_pins Ins Cells ++ Readings) p (in_right (cell_pins Ins Cells) Readings p h)

  reader_pin : {item : ℕ} → Reads packed net item → Contains (pins packed) (pin number item)
  reader_pin (by_cell {number = place} {cell} at input) =
      let reading : ℕ × PlainCell → List Pin = λ c. flat_map (pin_on Ins c.0) c.1.inputs in
      reading_there (pin number place)
      (in_left (reading_pins Ins packed.cells) (Resets ++ Outputs) (pin number place)
      (into_flat reading (enumerate_from 0 packed.cells) (place, cell) (pin number place) (is_numbered packed.cells place cell at)
      (into_flat (pin_on Ins place) cell.inputs net (pin number place) input (into_pin_on Ins place net number is))))
  reader_pin (by_reset {number = place} {cell} at latch same) =
      let one : Contains (pin_on Ins place Reset) (pin number place) = into_pin_on Ins place Reset number (subst (λ (id : NetId). IsNumber Ins id number) (sym same) is) in
      reading_there (pin number place)
      (in_right (reading_pins Ins packed.cells) (Resets ++ Outputs) (pin number place)
      (in_left Resets Outputs (pin number place)
      (into_flat Resetting (enumerate_from 0 packed.cells) (place, cell) (pin number place) (is_numbered packed.cells place cell at) (rw latch one))))
  reader_pin (by_output {place} {output} at same) =
      let reading : ℕ × (List ℕ × NetId) → List Pin = λ o. pin_on Ins ((Cells + Ins) + o.0) o.1.1 in
      reading_there (pin number ((Cells + Ins) + place))
      (in_right (reading_pins Ins packed.cells) (Resets ++ Outputs) (pin number ((Cells + Ins) + place))
      (in_right Resets Outputs (pin number ((Cells + Ins) + place))
      (into_flat reading (enumerate_from 0 packed.outputs) (place, output) (pin number ((Cells + Ins) + place)) (is_numbered packed.outputs place output at)
      (into_pin_on Ins ((Cells + Ins) + place) output.1 number (subst (λ (id : NetId). IsNumber Ins id number) (sym same) is)))))

  pub into_pins : (item : ℕ) → Has item → Contains (pins packed) (pin number item)
  into_pins item (inl e) = subst (λ i. Contains (pins packed) (pin number i)) e (driver_pin net is_net is)
  into_pins item (inr reads) = reader_pin reads

-- ---- where readers stand

module _ (packed : PlainPacked) (made : IsWellMadePacked packed) (all : List Site) (numbers : List ℕ) where
  abbrev Here : ℕ → Site
  Here item = site_at all numbers item

  once_inputs : Once (named (standing packed all numbers).ins)
  once_inputs = subst (λ (names : List (List ℕ)). Once names) (sym (ins_named packed all numbers)) (once_pairs packed.inputs (differ_left packed.inputs (output_ports packed) made.ports_differ))

  once_outputs : Once (named (standing packed all numbers).outs)
  once_outputs = subst (λ (names : List (List ℕ)). Once names) (sym (outs_named packed all numbers)) (once_pairs (output_ports packed) (differ_right packed.inputs (output_ports packed) made.ports_differ))

  -- a port is found on the site of its item
  pub input_found : (k : ℕ) → k < length packed.inputs → site_of bytes_eq (standing packed all numbers).ins (get_or packed.inputs k []) ≡ site_at all numbers (length packed.cells + k)
  input_found k low =
      let line : ℕ → Pad = λ i. (get_or packed.inputs i [], Here (length packed.cells + i)) in
      site_found bytes_eq bytes_eq-Decides (standing packed all numbers).ins (get_or packed.inputs k []) (Here (length packed.cells + k)) once_inputs
      (subst (λ (lines : List Pad). Contains lines (line k)) (sym (ins_counted all numbers (length packed.cells) packed.inputs)) (in_counted (length packed.inputs) line k low))

  pub output_found : (k : ℕ) (output : List ℕ × NetId) → IsAt packed.outputs k output → site_of bytes_eq (standing packed all numbers).outs output.0 ≡ site_at all numbers ((length packed.cells + length packed.inputs) + k)
  output_found k output at =
      let first = length packed.cells + length packed.inputs in
      let line : ℕ → Pad = λ i. (get_or (map output_name packed.outputs) i [], Here (first + i)) in
      let name : get_or (map output_name packed.outputs) k [] ≡ output.0 = get_or-map output_name packed.outputs k output [] at.0 ∙ ap output_name at.1 in
      site_found bytes_eq bytes_eq-Decides (standing packed all numbers).outs output.0 (Here (first + k)) once_outputs
      (subst (λ (n : List ℕ). Contains (standing packed all numbers).outs (n, Here (first + k))) name
      (subst (λ (lines : List Pad). Contains lines (line k)) (sym (outs_counted all numbers first packed.outputs)) (in_counted (length packed.outputs) line k at.0)))

  module _ (net : NetId) where
    abbrev CellReads : ℕ × PlainCell → Bool
    CellReads cell = reads_net (reset_id packed.reset) net cell.1

    abbrev OutputReads : List ℕ × NetId → Bool
    OutputReads output = same_net net output.1

    abbrev CellHere : ℕ × PlainCell → Site
    CellHere cell = cell_site (standing packed all numbers) cell.0

    abbrev OutputHere : List ℕ × NetId → Site
    OutputHere output = site_of bytes_eq (standing packed all numbers).outs output.0

    abbrev CellSites : List Site
    CellSites = map CellHere (filter CellReads (enumerate_from 0 packed.cells))

    abbrev OutputSites : List Site
    OutputSites = map OutputHere (filter OutputReads packed.outputs)

    cell_here : (number : ℕ) (cell : PlainCell) → IsAt packed.cells number cell → reads_net (reset_id packed.reset) net cell ≡ true → Contains (reader_sites packed (standing packed all numbers) net) (site_at all numbers number)
    cell_here number cell at reads =
        in_left CellSites OutputSites (Here number)
        (subst (λ (site : Site). Contains CellSites site) (cell_found packed all numbers number at.0)
        (mapped_in CellHere (filter CellReads (enumerate_from 0 packed.cells)) (number, cell)
        (into_filter CellReads (enumerate_from 0 packed.cells) (number, cell) (is_numbered packed.cells number cell at) reads)))

    pub reader_here : {item : ℕ} → Reads packed net item → Contains (reader_sites packed (standing packed all numbers) net) (site_at all numbers item)
    reader_here (by_cell {number} {cell} at input) =
        cell_here number cell at
        (either_true (list_any (same_net net) cell.inputs) (is_some cell.latch && same_net net (reset_id packed.reset)) (inl (any_by (same_net net) cell.inputs net input (same_self net))))
    reader_here (by_reset {number} {cell} at latch same) =
        cell_here number cell at
        (either_true (list_any (same_net net) cell.inputs) (is_some cell.latch && same_net net (reset_id packed.reset))
        (inr (both_true (is_some cell.latch) (same_net net (reset_id packed.reset)) latch (ap (same_net net) same ∙ same_self net))))
    reader_here (by_output {place} {output} at same) =
        in_right CellSites OutputSites (Here ((length packed.cells + length packed.inputs) + place))
        (subst (λ (site : Site). Contains OutputSites site) (output_found place output at)
        (mapped_in OutputHere (filter OutputReads packed.outputs) output
        (into_filter OutputReads packed.outputs output (place, at.0, at.1) (ap (same_net net) same ∙ same_self net))))

    cell_reads : (number : ℕ) (cell : PlainCell) → IsAt packed.cells number cell → reads_net (reset_id packed.reset) net cell ≡ true → Reads packed net number
    cell_reads number cell at reads = elim (either_of (list_any (same_net net) cell.inputs) (is_some cell.latch && same_net net (reset_id packed.reset)) reads) [
      | inl some ↦ (
          let input = any_gives (same_net net) cell.inputs some in
          by_cell at (subst (λ (id : NetId). Contains cell.inputs id) (sym (same_is net input.0 input.2)) input.1))
      | inr both ↦ (
          let parts = parts_true (is_some cell.latch) (same_net net (reset_id packed.reset)) both in
          by_reset at parts.0 (sym (same_is net (reset_id packed.reset) parts.1)))
    ]

    pub from_here : (site : Site) → Contains (reader_sites packed (standing packed all numbers) net) site → (item : ℕ) × Reads packed net item × (site_at all numbers item ≡ site)
    from_here site h = elim (Contains-append_cases CellSites OutputSites site h) [
      | inl c ↦ (
          let found = from_mapped CellHere (filter CellReads (enumerate_from 0 packed.cells)) site c in
          let kept = from_filter CellReads (enumerate_from 0 packed.cells) found.0 found.1 in
          let at = numbered_is packed.cells found.0 kept.0 in
          (found.0.0, cell_reads found.0.0 found.0.1 at kept.1, sym (cell_found packed all numbers found.0.0 at.0) ∙ found.2))
      | inr o ↦ (
          let found = from_mapped OutputHere (filter OutputReads packed.outputs) site o in
          let kept = from_filter OutputReads packed.outputs found.0 found.1 in
          let at : IsAt packed.outputs kept.0.0 found.0 = (kept.0.1, kept.0.2) in
          ((length packed.cells + length packed.inputs) + kept.0.0, by_output at (sym (same_is net found.0.1 kept.1)), sym (output_found kept.0.0 found.0 at) ∙ found.2))
    ]
