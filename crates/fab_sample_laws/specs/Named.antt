-- A netlist by the names of its nets.
use Rattle.std.specs.Prelude.{◌≡◌, ℕ, ◌-◌, List, [], ◌∷◌, codes, map}
use Rattle.std.specs.List.{flat_map}
use Rattle.fab_blif_models.specs.Words.{Word}
use Rattle.fab_blif_models.specs.Covers.{cubes_of, is_on_set, rows_on}
use Rattle.fab_bits.specs.Bits.{number, first_bits}
use Rattle.fab_netlist.specs.declared.netlist.Latch.{Latch}
use Rattle.fab_netlist.specs.Plain.{PlainCover, PlainNetlist, name_of}
use Rattle.fab_netlist.specs.Wide.{rows_say}
use Rattle.fab_sample_laws.specs.Items.{Row, Item, cover, wire, latch, pattern_row}
use Rattle.fab_sample.specs.Netlists.{digit}

-- a cover by names: what it reads, what it drives, and its table
pub record NamedCover : Type 0 where
  pub inputs : List Word
  pub output : Word
  pub table : ℕ

-- a latch by names, with what it begins
pub record NamedLatch : Type 0 where
  pub input : Word
  pub output : Word
  pub initial : ℕ

abbrev pub named_cover : PlainNetlist → PlainCover → NamedCover
named_cover netlist it = record { inputs = map (name_of netlist) it.inputs; output = name_of netlist it.output; table = it.table }

abbrev pub named_latch : PlainNetlist → Latch → NamedLatch
named_latch netlist it = record { input = name_of netlist it.input; output = name_of netlist it.output; initial = it.init }

-- ---- what items are

-- the table of a cover with these rows, which has at most four inputs
abbrev pub table_of : (rows : List Row) → ℕ
table_of rows = number (first_bits 16 (rows_say (is_on_set (rows_on rows)) (cubes_of rows)))

abbrev pub item_covers : Item → List NamedCover
item_covers (cover first second third output patterns) = record { inputs = first ∷ second ∷ third ∷ []; output = output; table = table_of (map pattern_row patterns) } ∷ []
item_covers (wire source output) = record { inputs = source ∷ []; output = output; table = table_of ((codes "1" ∷ codes "1" ∷ []) ∷ []) } ∷ []
item_covers (latch input output initial) = []

abbrev pub item_latches : Item → List NamedLatch
item_latches (cover first second third output patterns) = []
item_latches (wire source output) = []
item_latches (latch input output initial) = record { input = input; output = output; initial = digit initial - 48 } ∷ []

-- the netlist has these ports, covers and latches, in their order
pub record IsOfItems (netlist : PlainNetlist) (input_names output_names : List Word) (items : List Item) : Type 0 where
  pub inputs : map (name_of netlist) netlist.inputs ≡ input_names
  pub outputs : map (name_of netlist) netlist.outputs ≡ output_names
  pub covers : map (named_cover netlist) netlist.covers ≡ flat_map item_covers items
  pub latches : map (named_latch netlist) netlist.latches ≡ flat_map item_latches items
