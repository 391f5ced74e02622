-- What the lines of an implementation text say, and why a line is refused.
use Rattle.std.specs.Prelude.{ℕ, List, [], ◌∷◌, ◌++◌, fold, Option, Some, None, Result, Ok, Err}
use Rattle.std.specs.Result.{result_unwrap_or}
use Rattle.fab_base.specs.declared.words.Reason.TheVariants as reasons
use Rattle.fab_base.specs.declared.problem.Problem.{Problem}
use Rattle.fab_fabric.specs.declared.wire.Site.{Site}
use Rattle.fab_fabric.specs.declared.wire.Wire.{Wire}
use Rattle.fab_model.specs.Grid.{PlainFabric}
use Rattle.fab_netlist.specs.declared.net_id.NetId.{NetId}
use Rattle.fab_netlist.specs.declared.net_id.NetId.TheVariants as nets
use Rattle.fab_implementation.specs.Plain.{Edge, Pad, PlainTree}
use Rattle.fab_texts.specs.Rows.{Word}
use Rattle.fab_lines.specs.Items.{word_at, with_last}
use Rattle.fab_texts.specs.Formats.{refused}
use Rattle.fab_texts.specs.declared.sections.Part.{Part}
use Rattle.fab_texts.specs.Sections.{in_place}
use Rattle.fab_impl.specs.declared.kind.Kind.{Kind}
use Rattle.fab_impl.specs.declared.kind.Kind.TheVariants as kinds
use Rattle.fab_impl.specs.Names.{cell_of, site_in, wire_of}
use Rattle.fab_impl.specs.FirstPlaces.{first_place}
use Rattle.fab_impl.specs.Kinds.{kind_of, part_of}
use Rattle.fab_impl.specs.Openings.{opening_of, where_due}
use Rattle.fab_impl.specs.declared.opening.Opening.{Opening}
use Rattle.fab_impl.specs.declared.opening.Opening.TheVariants as openings

-- a cell by its number, and its site
abbrev pub Cell : Type 0
Cell = ℕ × Site

-- the fabric, where the last of the lines so far stands, how they begin, and what they say
pub record Known : Type 0 where
  pub fabric : PlainFabric
  pub last : Option Part
  pub opening : Opening
  pub cells : List Cell
  pub ins : List Pad
  pub outs : List Pad
  pub trees : List PlainTree

abbrev pub nothing : PlainFabric → Known
nothing fabric = record { fabric = fabric; last = None; opening = openings.Plain; cells = []; ins = []; outs = []; trees = [] }

-- ---- cells and pads

abbrev pub cell_at : List Cell → Option ℕ → Option Site → Result (List Cell) Problem
cell_at old None site = refused reasons.Number
cell_at old (Some cell) None = refused reasons.Site
cell_at old (Some cell) (Some site) = Ok (old ++ (cell, site) ∷ [])

abbrev pub with_cell : PlainFabric → List Cell → (cell site : Word) → Result (List Cell) Problem
with_cell fabric old cell site = cell_at old (cell_of cell) (site_in fabric site)

abbrev pub pad_at : List Pad → (port : Word) → Option Site → Result (List Pad) Problem
pad_at old port None = refused reasons.Site
pad_at old port (Some site) = Ok (old ++ (port, site) ∷ [])

abbrev pub with_pad : PlainFabric → List Pad → (port site : Word) → Result (List Pad) Problem
with_pad fabric old port site = pad_at old port (site_in fabric site)

-- ---- nets

-- a net without edges comes last
abbrev pub with_net : List PlainTree → NetId → List PlainTree
with_net old net = old ++ record { net = net; edges = [] } ∷ []

abbrev pub input_at : List PlainTree → Option ℕ → Result (List PlainTree) Problem
input_at old None = refused reasons.Port
input_at old (Some place) = Ok (with_net old (nets.In place))

abbrev pub cell_net_at : List PlainTree → Option ℕ → Result (List PlainTree) Problem
cell_net_at old None = refused reasons.Number
cell_net_at old (Some cell) = Ok (with_net old (nets.Cell cell))

abbrev pub with_edge : Edge → PlainTree → PlainTree
with_edge edge tree = record { net = tree.net; edges = tree.edges ++ edge ∷ [] }

abbrev pub edge_at : List PlainTree → Option Wire → Option Wire → Result (List PlainTree) Problem
edge_at old (Some from) (Some to) = Ok (with_last (with_edge (from, to)) old)
edge_at old from to = refused reasons.Wire

-- an edge belongs to the last net, and there has to be one
abbrev pub with_wires : List PlainTree → Option Wire → Option Wire → Result (List PlainTree) Problem
with_wires [] from to = refused reasons.Row
with_wires (tree ∷ more) from to = edge_at (tree ∷ more) from to

-- ---- one line

abbrev pub set_opening : Known → Result Opening Problem → Result Known Problem
set_opening old (Ok opening) = Ok (record old { opening = opening })
set_opening old (Err problem) = Err problem

abbrev pub set_cells : Known → Result (List Cell) Problem → Result Known Problem
set_cells old (Ok cells) = Ok (record old { cells = cells })
set_cells old (Err problem) = Err problem

abbrev pub set_ins : Known → Result (List Pad) Problem → Result Known Problem
set_ins old (Ok pads) = Ok (record old { ins = pads })
set_ins old (Err problem) = Err problem

abbrev pub set_outs : Known → Result (List Pad) Problem → Result Known Problem
set_outs old (Ok pads) = Ok (record old { outs = pads })
set_outs old (Err problem) = Err problem

abbrev pub set_trees : Known → Result (List PlainTree) Problem → Result Known Problem
set_trees old (Ok trees) = Ok (record old { trees = trees })
set_trees old (Err problem) = Err problem

-- what a line of a kind adds to what is known
abbrev pub take_kind : Known → Kind → List Word → Result Known Problem
take_kind old kinds.Header line = set_opening old (opening_of (word_at line 1))
take_kind old kinds.Reset line = set_opening old (Ok (openings.Reset (word_at line 1)))
take_kind old kinds.Cell line = set_cells old (with_cell old.fabric old.cells (word_at line 1) (word_at line 2))
take_kind old kinds.In line = set_ins old (with_pad old.fabric old.ins (word_at line 2) (word_at line 3))
take_kind old kinds.Out line = set_outs old (with_pad old.fabric old.outs (word_at line 2) (word_at line 3))
take_kind old kinds.NetZero line = set_trees old (Ok (with_net old.trees nets.Zero))
take_kind old kinds.NetOne line = set_trees old (Ok (with_net old.trees nets.One))
take_kind old kinds.NetIn line = set_trees old (input_at old.trees (first_place old.ins (word_at line 2)))
take_kind old kinds.NetCell line = set_trees old (cell_net_at old.trees (cell_of (word_at line 2)))
take_kind old kinds.Edge line = set_trees old (with_wires old.trees (wire_of old.fabric (word_at line 1)) (wire_of old.fabric (word_at line 2)))
take_kind old kinds.End line = Ok old
take_kind old kinds.Other line = refused reasons.Row

-- a line of a kind that has its place, and is due where it names the reset port
abbrev pub take_placed : Known → Kind → List Word → Result Known Problem
take_placed old kind line = in_place old.last (part_of kind) (where_due old.opening kind (take_kind (record old { last = Some (part_of kind) }) kind line))

-- what is known after a line more, or why the line is refused
abbrev pub take : Known → List Word → Result Known Problem
take old line = take_placed old (kind_of line) line

-- what lines say, where each that is not refused adds to what those before it say
abbrev pub known : PlainFabric → List (List Word) → Known
known fabric lines = fold (λ old line. result_unwrap_or (take old line) old) (nothing fabric) lines
