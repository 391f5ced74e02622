-- What holds of a netlist that was read and flattened.
use Rattle.std.specs.Prelude.{◌≡◌, ℕ, ◌+◌, ◌<◌, ◌≤◌, ◌/◌, ◌%◌, ◌^◌, Bool, List, [], ◌∷◌, ◌++◌, map, length, Contains, if◌then◌else◌, nat_eq, Some}
use Rattle.std.specs.List.{flat_map}
use Rattle.fab_netlist.specs.declared.netlist.Latch.{Latch}
use Rattle.fab_netlist.specs.Plain.{PlainCover, PlainNetlist, IsAt, name_of}

-- A netlist has no more nets than this.
abbrev pub most_nets : ℕ
most_nets = 16384

-- how often a net stands in a list
abbrev pub times : ℕ → List ℕ → ℕ
times net [] = 0
times net (other ∷ nets) = (if nat_eq other net then 1 else 0) + times net nets

abbrev pub cover_outputs : List PlainCover → List ℕ
cover_outputs covers = map (λ cover. cover.output) covers

abbrev pub latch_outputs : PlainNetlist → List ℕ
latch_outputs netlist = map (λ latch. latch.output) netlist.latches

abbrev pub latch_inputs : PlainNetlist → List ℕ
latch_inputs netlist = map (λ latch. latch.input) netlist.latches

-- the nets that covers, latches and inputs drive
abbrev pub driven : PlainNetlist → List ℕ
driven netlist = cover_outputs netlist.covers ++ (latch_outputs netlist ++ netlist.inputs)

-- the nets that covers, latches and outputs read
abbrev pub read : PlainNetlist → List ℕ
read netlist = flat_map (λ cover. cover.inputs) netlist.covers ++ (latch_inputs netlist ++ netlist.outputs)

-- the nets of the data ports
abbrev pub ports : PlainNetlist → List ℕ
ports netlist = netlist.inputs ++ netlist.outputs

-- the bit of a table at a place
abbrev pub table_bit : (table place : ℕ) → Bool
table_bit table place = nat_eq (table / 2 ^ place % 2) 1

-- Its wires hold together, however many inputs covers have: nets are few, each that is read is driven, and none is driven twice. That is
-- enough for a meaning.
pub record IsWired (netlist : PlainNetlist) : Type 0 where
  pub small : length netlist.nets ≤ most_nets
  pub driven_below : (net : ℕ) → Contains (driven netlist) net → net < length netlist.nets
  pub read_below : (net : ℕ) → Contains (read netlist) net → net < length netlist.nets
  pub initials : (latch : Latch) → Contains netlist.latches latch → latch.init ≤ 3
  pub driven_once : (net : ℕ) → times net (driven netlist) ≤ 1
  pub read_driven : (net : ℕ) → Contains (read netlist) net → Contains (driven netlist) net
  pub reset_below : (place : ℕ) → netlist.reset ≡ Some place → place < length netlist.inputs
  pub ports_differ : (j k : ℕ) (first second : ℕ) → IsAt (ports netlist) j first → IsAt (ports netlist) k second → name_of netlist first ≡ name_of netlist second → j ≡ k

-- It is wired, and its covers have at most four inputs and tables of 16 bits.
pub record IsWellMade (netlist : PlainNetlist) : Type 0 where
  pub small : length netlist.nets ≤ most_nets
  pub driven_below : (net : ℕ) → Contains (driven netlist) net → net < length netlist.nets
  pub read_below : (net : ℕ) → Contains (read netlist) net → net < length netlist.nets
  pub four_inputs : (cover : PlainCover) → Contains netlist.covers cover → length cover.inputs ≤ 4
  pub repeats : (cover : PlainCover) → Contains netlist.covers cover → (place : ℕ) → place < 16 → table_bit cover.table place ≡ table_bit cover.table (place % 2 ^ length cover.inputs)
  pub initials : (latch : Latch) → Contains netlist.latches latch → latch.init ≤ 3
  pub driven_once : (net : ℕ) → times net (driven netlist) ≤ 1
  pub read_driven : (net : ℕ) → Contains (read netlist) net → Contains (driven netlist) net
  pub reset_below : (place : ℕ) → netlist.reset ≡ Some place → place < length netlist.inputs
  pub ports_differ : (j k : ℕ) (first second : ℕ) → IsAt (ports netlist) j first → IsAt (ports netlist) k second → name_of netlist first ≡ name_of netlist second → j ≡ k
