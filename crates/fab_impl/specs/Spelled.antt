-- Which implementation a text spells.
use Rattle.std.specs.Prelude.{◌≡◌, ℕ, ◌≤◌, true, List, [], ◌∷◌, ◌++◌, map, codes, slice_index_or, Option, Some, None}
use Rattle.std.specs.List.{AllByRecursion, flat_map, list_all}
use Rattle.fab_lines.specs.Order.{Format, IsWhole}
use Rattle.fab_model.specs.Grid.{PlainFabric}
use Rattle.fab_fabric.specs.Fabric.{IsFabric, AreTiles}
use Rattle.fab_netlist.specs.declared.net_id.NetId.{NetId}
use Rattle.fab_netlist.specs.declared.net_id.NetId.TheVariants as nets
use Rattle.fab_implementation.specs.Plain.{Edge, Pad, PlainTree, PlainImplementation, ports_of}
use Rattle.fab_implementation.specs.OnFabric.{IsOnFabric}
use Rattle.fab_texts.specs.Rows.{Word, PlainRow, words_of}
use Rattle.fab_fabric.specs.Names.{site_text}
use Rattle.fab_texts.specs.Formats.{text_format}
use Rattle.fab_texts.specs.Sections.{version, ending, cut_short}
use Rattle.fab_texts.specs.Printed.{rows_text, is_row}
use Rattle.fab_impl.specs.Names.{cell_text, wire_text, most_cell}
use Rattle.fab_impl.specs.Lines.{Cell, Known, known, take}
use Rattle.fab_impl.specs.FirstPlaces.{first_place}
use Rattle.fab_impl.specs.Openings.{port_of, reset_version}

-- ---- the lines of an implementation

abbrev pub header : (version : Word) → List Word
header word = codes "fabulous-impl" ∷ word ∷ []

abbrev pub reset_line : (port : Word) → List Word
reset_line port = codes "reset" ∷ port ∷ []

-- the first lines: of version 1, and with a reset port of version 2, where the second line names it
abbrev pub headers : (reset : Option Word) → List (List Word)
headers None = header version ∷ []
headers (Some port) = header reset_version ∷ reset_line port ∷ []

abbrev pub cell_line : Cell → List Word
cell_line cell = codes "cell" ∷ cell_text cell.0 ∷ site_text cell.1 ∷ []

abbrev pub pad_line : (side : Word) → Pad → List Word
pad_line side pad = codes "pad" ∷ side ∷ pad.0 ∷ site_text pad.1 ∷ []

-- the net of a tree; an input's net is written by the port of that item of the inputs
abbrev pub net_line : (ins : List Pad) → NetId → List Word
net_line ins nets.Zero = codes "net" ∷ codes "zero" ∷ []
net_line ins nets.One = codes "net" ∷ codes "one" ∷ []
net_line ins (nets.In place) = codes "net" ∷ codes "in" ∷ slice_index_or (ports_of ins) place [] ∷ []
net_line ins (nets.Cell cell) = codes "net" ∷ codes "cell" ∷ cell_text cell ∷ []

abbrev pub edge_line : PlainFabric → Edge → List Word
edge_line fabric edge = codes "edge" ∷ wire_text fabric edge.0 ∷ wire_text fabric edge.1 ∷ []

abbrev pub tree_lines : PlainFabric → (ins : List Pad) → PlainTree → List (List Word)
tree_lines fabric ins tree = net_line ins tree.net ∷ map (edge_line fabric) tree.edges

abbrev pub inner_lines : PlainFabric → PlainImplementation → List (List Word)
inner_lines fabric it =
    map cell_line it.cells
    ++ map (pad_line (codes "in")) it.ins
    ++ map (pad_line (codes "out")) it.outs
    ++ flat_map (tree_lines fabric it.ins) it.trees

-- the first lines, a line for each cell and each port, for each net a line and those of its edges, and the last line
abbrev pub implementation_lines : PlainFabric → PlainImplementation → List (List Word)
implementation_lines fabric it = headers it.reset ++ (inner_lines fabric it ++ ending ∷ [])

-- the text that is printed
abbrev pub implementation_text : PlainFabric → PlainImplementation → List ℕ
implementation_text fabric it = rows_text (implementation_lines fabric it)

-- ---- the implementations of texts

-- a net that a text can name: the number of a cell is not too great, and the item of an input is the first that names its port
abbrev pub IsNamed : (ins : List Pad) → NetId → Type 0
IsNamed ins nets.Zero = Unit {0}
IsNamed ins nets.One = Unit {0}
IsNamed ins (nets.In place) = first_place ins (slice_index_or (ports_of ins) place []) ≡ Some place
IsNamed ins (nets.Cell cell) = cell ≤ most_cell

-- the fabric has its sites and wires, and its cells and nets can be named
pub record IsNameable (fabric : PlainFabric) (it : PlainImplementation) : Type 0 where
  pub on_fabric : IsOnFabric fabric it
  pub cells : AllByRecursion (λ cell. cell.0 ≤ most_cell) it.cells
  pub nets : AllByRecursion (λ tree. IsNamed it.ins tree.net) it.trees

-- The lines of a text that hold a word are those of the implementation, and its sites, wires, cells and nets can be named.
pub record Spells (fabric : PlainFabric) (rows : List PlainRow) (it : PlainImplementation) : Type 0 where
  pub lines : words_of rows ≡ implementation_lines fabric it
  pub nameable : IsNameable fabric it

-- An implementation that its own text spells: nameable, and each of its lines is a row of words. In an implementation that is
-- made in code a port may have any bytes, and so may a matrix name in a tile.
pub record HasSpelling (fabric : PlainFabric) (it : PlainImplementation) : Type 0 where
  pub nameable : IsNameable fabric it
  pub rows : list_all is_row (implementation_lines fabric it) ≡ true

-- ---- the refusals of texts

abbrev pub implementation_of : Known → PlainImplementation
implementation_of old = record { cells = old.cells; ins = old.ins; outs = old.outs; trees = old.trees; reset = port_of old.opening }

abbrev pub implementation_format : PlainFabric → Format PlainRow
implementation_format fabric = text_format (known fabric) take (λ old. cut_short old.last)

-- ---- what is spelled is read

-- a text is whole, and this is the implementation that its lines say
abbrev pub Says : PlainFabric → List PlainRow → PlainImplementation → Type 0
Says fabric rows it = IsWhole (implementation_format fabric) rows × (it ≡ implementation_of (known fabric (words_of rows)))

abbrev pub SpelledImplementationsAreRead : Type 0
SpelledImplementationsAreRead =
    (fabric : PlainFabric) (rows : List PlainRow) (it : PlainImplementation) → IsFabric fabric → AreTiles fabric → Spells fabric rows it → Says fabric rows it
