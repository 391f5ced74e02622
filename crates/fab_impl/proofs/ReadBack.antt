-- A text whose lines are those of an implementation is read as that implementation.
use Rattle.std.proofs.Common.{◌≡◌, ◌≤◌, false, List, [], ◌∷◌, ◌++◌, map, All, Option, Some, None, Ok, refl, sym, ap, ◌∙◌, arith, append_assoc, append-nil, codes}
use Rattle.std.specs.List.{AllByRecursion, flat_map}
use Rattle.std.proofs.lemmas.List.Concat.{flat_map-cons}
use Rattle.std.proofs.lemmas.List.Elements.{recursion_from_All}
use Rattle.fab_model.specs.Grid.{PlainFabric}
use Rattle.fab_fabric.specs.Fabric.{IsFabric, AreTiles}
use Rattle.fab_netlist.specs.declared.net_id.NetId.{NetId}
use Rattle.fab_netlist.specs.declared.net_id.NetId.TheVariants as nets
use Rattle.fab_implementation.specs.Plain.{Edge, Pad, PlainTree, PlainImplementation}
use Rattle.fab_implementation.specs.OnFabric.{IsSite, HasWires}
use Rattle.fab_lines.specs.Order.{IsWhole}
use Rattle.fab_texts.specs.Rows.{Word, PlainRow, words_of}
use Rattle.fab_texts.specs.declared.sections.Part.{Part}
use Rattle.fab_texts.specs.declared.sections.Part.TheVariants as parts
use Rattle.fab_texts.specs.Sections.{version, ending, cut_short}
use Rattle.fab_texts.proofs.Formats.{taken, taken_none, taken_one, taken_fine}
use Rattle.fab_texts.proofs.InSections.{IsOpen, open_here, open_later, open_end}
use Rattle.fab_impl.specs.Names.{wire_text, wire_of, most_cell}
use Rattle.fab_impl.specs.declared.opening.Opening.{Opening}
use Rattle.fab_impl.specs.declared.opening.Opening.TheVariants as openings
use Rattle.fab_impl.specs.Openings.{is_due, reset_version}
use Rattle.fab_impl.specs.Lines.{Cell, Known, known, take, with_net, with_edge, set_trees}
use Rattle.fab_impl.specs.Spelled.{header, reset_line, headers, cell_line, pad_line, net_line, edge_line, tree_lines, inner_lines, implementation_lines, IsNamed, Spells, implementation_of, implementation_format}
use Rattle.fab_impl.proofs.Follows.{keeps}
use Rattle.fab_impl.proofs.Dues.{opening_with, with_port, with_none_due}
use Rattle.fab_impl.proofs.Edges.{edge_taken}
use Rattle.fab_impl.proofs.CellWords.{cell_again}
use Rattle.fab_impl.proofs.Again.{site_in_again, wire_again}

-- what is known of so many items
abbrev items_of : PlainFabric → Opening → Option Part → List Cell → List Pad → List Pad → List PlainTree → Known
items_of fabric opening last cells ins outs trees = record { fabric = fabric; last = last; opening = opening; cells = cells; ins = ins; outs = outs; trees = trees }

-- the first lines
begun : (fabric : PlainFabric) (reset : Option Word) (rest : List (List Word)) → (last : Option Part) × IsOpen last 1
    × (taken take (known fabric []) (headers reset ++ rest) ≡ taken take (items_of fabric (opening_with reset) last [] [] [] []) rest)
begun fabric None rest = (
  Some parts.Header,
  record { opened = refl; follows = refl },
  taken_one take (known fabric []) (items_of fabric openings.Plain (Some parts.Header) [] [] [] []) (header version) rest refl,
)
begun fabric (Some port) rest =
    let due = items_of fabric openings.ResetDue (Some parts.Header) [] [] [] [] in (
      Some (parts.Section 0),
      record { opened = refl; follows = refl },
      taken_one take (known fabric []) due (header reset_version) (reset_line port ∷ rest) refl
          ∙ taken_one take due (items_of fabric (openings.Reset port) (Some (parts.Section 0)) [] [] [] []) (reset_line port) rest refl,
    )

-- the lines behind them, where no reset port is due
module _ (fabric : PlainFabric) (is : IsFabric fabric) (all : AreTiles fabric) (opening : Opening) (none : is_due opening ≡ false) where
  abbrev of_items : Option Part → List Cell → List Pad → List Pad → List PlainTree → Known
  of_items last cells ins outs trees = items_of fabric opening last cells ins outs trees

  -- ---- one line

  cell_taken : (last : Option Part) (cells : List Cell) (cell : Cell) → IsOpen last 1 → cell.0 ≤ most_cell → IsSite fabric cell.1
      → take (of_items last cells [] [] []) (cell_line cell) ≡ Ok (of_items (Some (parts.Section 1)) (cells ++ cell ∷ []) [] [] [])
  cell_taken last cells cell may few stands = rw (may.opened, none, may.follows, cell_again cell.0 few, site_in_again fabric cell.1 is stands) refl

  in_taken : (last : Option Part) (cells : List Cell) (ins : List Pad) (pad : Pad) → IsOpen last 2 → IsSite fabric pad.1
      → take (of_items last cells ins [] []) (pad_line (codes "in") pad) ≡ Ok (of_items (Some (parts.Section 2)) cells (ins ++ pad ∷ []) [] [])
  in_taken last cells ins pad may stands = rw (may.opened, none, may.follows, site_in_again fabric pad.1 is stands) refl

  out_taken : (last : Option Part) (cells : List Cell) (ins outs : List Pad) (pad : Pad) → IsOpen last 3 → IsSite fabric pad.1
      → take (of_items last cells ins outs []) (pad_line (codes "out") pad) ≡ Ok (of_items (Some (parts.Section 3)) cells ins (outs ++ pad ∷ []) [])
  out_taken last cells ins outs pad may stands = rw (may.opened, none, may.follows, site_in_again fabric pad.1 is stands) refl

  net_taken : (last : Option Part) (cells : List Cell) (ins outs : List Pad) (trees : List PlainTree) (net : NetId) → IsOpen last 4 → IsNamed ins net
      → take (of_items last cells ins outs trees) (net_line ins net) ≡ Ok (of_items (Some (parts.Section 4)) cells ins outs (with_net trees net))
  net_taken last cells ins outs trees nets.Zero may named = rw (may.opened, none, may.follows) refl
  net_taken last cells ins outs trees nets.One may named = rw (may.opened, none, may.follows) refl
  net_taken last cells ins outs trees (nets.In place) may named = rw (may.opened, none, may.follows, named) refl
  net_taken last cells ins outs trees (nets.Cell cell) may named = rw (may.opened, none, may.follows, cell_again cell named) refl

  one_edge : (last : Option Part) (cells : List Cell) (ins outs : List Pad) (front : List PlainTree) (tree : PlainTree) (edge : Edge) → IsOpen last 4 → HasWires fabric edge
      → take (of_items last cells ins outs (front ++ tree ∷ [])) (edge_line fabric edge) ≡ Ok (of_items (Some (parts.Section 4)) cells ins outs (front ++ with_edge edge tree ∷ []))
  one_edge last cells ins outs front tree edge may within =
      let trees = front ++ tree ∷ [] in
      let from = wire_of fabric (wire_text fabric edge.0) in
      let to = wire_of fabric (wire_text fabric edge.1) in
      let longer = with_edge edge tree in
      let more = edge_taken trees front (front ++ longer ∷ []) tree longer from to edge.0 edge.1 refl (wire_again fabric edge.0 is all within.0) (wire_again fabric edge.1 is all within.1) refl refl in
      rw (may.opened, none, may.follows) (ap (set_trees (of_items (Some (parts.Section 4)) cells ins outs trees)) more)

  end_taken : (last : Option Part) (cells : List Cell) (ins outs : List Pad) (trees : List PlainTree) → IsOpen last 4 → take (of_items last cells ins outs trees) ending ≡ Ok (of_items (Some parts.End) cells ins outs trees)
  end_taken last cells ins outs trees may = rw (may.opened, none, open_end last 4 may) refl

  -- ---- lines of a kind, one after the other

  cells_read : (last : Option Part) (before cells : List Cell) (rest : List (List Word)) → IsOpen last 1 → AllByRecursion (λ cell. cell.0 ≤ most_cell) cells → AllByRecursion (λ cell. IsSite fabric cell.1) cells
      → (next : Option Part) × IsOpen next 1 × (taken take (of_items last before [] [] []) (map cell_line cells ++ rest) ≡ taken take (of_items next (before ++ cells) [] [] []) rest)
  cells_read last before [] rest may few stand = (last, may, ap (λ (l : List Cell). taken take (of_items last l [] [] []) rest) (sym (append-nil before)))
  cells_read last before (cell ∷ cells) rest may few stand =
      let step = cell_taken last before cell may few.0 stand.0 in
      let more = cells_read (Some (parts.Section 1)) (before ++ cell ∷ []) cells rest (open_here 1) few.1 stand.1 in (
        more.0,
        more.1,
        taken_one take (of_items last before [] [] []) (of_items (Some (parts.Section 1)) (before ++ cell ∷ []) [] [] []) (cell_line cell) (map cell_line cells ++ rest) step
            ∙ more.2 ∙ ap (λ (l : List Cell). taken take (of_items more.0 l [] [] []) rest) (append_assoc before (cell ∷ []) cells),
      )

  ins_read : (last : Option Part) (cells : List Cell) (before pads : List Pad) (rest : List (List Word)) → IsOpen last 2 → AllByRecursion (λ pad. IsSite fabric pad.1) pads
      → (next : Option Part) × IsOpen next 2 × (taken take (of_items last cells before [] []) (map (pad_line (codes "in")) pads ++ rest) ≡ taken take (of_items next cells (before ++ pads) [] []) rest)
  ins_read last cells before [] rest may stand = (last, may, ap (λ (l : List Pad). taken take (of_items last cells l [] []) rest) (sym (append-nil before)))
  ins_read last cells before (pad ∷ pads) rest may stand =
      let step = in_taken last cells before pad may stand.0 in
      let more = ins_read (Some (parts.Section 2)) cells (before ++ pad ∷ []) pads rest (open_here 2) stand.1 in (
        more.0,
        more.1,
        taken_one take (of_items last cells before [] []) (of_items (Some (parts.Section 2)) cells (before ++ pad ∷ []) [] []) (pad_line (codes "in") pad) (map (pad_line (codes "in")) pads ++ rest) step
            ∙ more.2 ∙ ap (λ (l : List Pad). taken take (of_items more.0 cells l [] []) rest) (append_assoc before (pad ∷ []) pads),
      )

  outs_read : (last : Option Part) (cells : List Cell) (ins before pads : List Pad) (rest : List (List Word)) → IsOpen last 3 → AllByRecursion (λ pad. IsSite fabric pad.1) pads
      → (next : Option Part) × IsOpen next 3 × (taken take (of_items last cells ins before []) (map (pad_line (codes "out")) pads ++ rest) ≡ taken take (of_items next cells ins (before ++ pads) []) rest)
  outs_read last cells ins before [] rest may stand = (last, may, ap (λ (l : List Pad). taken take (of_items last cells ins l []) rest) (sym (append-nil before)))
  outs_read last cells ins before (pad ∷ pads) rest may stand =
      let step = out_taken last cells ins before pad may stand.0 in
      let more = outs_read (Some (parts.Section 3)) cells ins (before ++ pad ∷ []) pads rest (open_here 3) stand.1 in (
        more.0,
        more.1,
        taken_one take (of_items last cells ins before []) (of_items (Some (parts.Section 3)) cells ins (before ++ pad ∷ []) []) (pad_line (codes "out") pad) (map (pad_line (codes "out")) pads ++ rest) step
            ∙ more.2 ∙ ap (λ (l : List Pad). taken take (of_items more.0 cells ins l []) rest) (append_assoc before (pad ∷ []) pads),
      )

  -- a net with edges behind those that it has
  abbrev with_edges : PlainTree → List Edge → PlainTree
  with_edges tree edges = record { net = tree.net; edges = tree.edges ++ edges }

  edges_read : (last : Option Part) (cells : List Cell) (ins outs : List Pad) (front : List PlainTree) (tree : PlainTree) (edges : List Edge) (rest : List (List Word)) → IsOpen last 4 → AllByRecursion (HasWires fabric) edges
      → (next : Option Part) × IsOpen next 4 × (taken take (of_items last cells ins outs (front ++ tree ∷ [])) (map (edge_line fabric) edges ++ rest) ≡ taken take (of_items next cells ins outs (front ++ with_edges tree edges ∷ [])) rest)
  edges_read last cells ins outs front tree [] rest may within =
      (last, may, ap (λ (l : List Edge). taken take (of_items last cells ins outs (front ++ record { net = tree.net; edges = l } ∷ [])) rest) (sym (append-nil tree.edges)))
  edges_read last cells ins outs front tree (edge ∷ edges) rest may within =
      let longer = with_edge edge tree in
      let step = one_edge last cells ins outs front tree edge may within.0 in
      let more = edges_read (Some (parts.Section 4)) cells ins outs front longer edges rest (open_here 4) within.1 in (
        more.0,
        more.1,
        taken_one take (of_items last cells ins outs (front ++ tree ∷ [])) (of_items (Some (parts.Section 4)) cells ins outs (front ++ longer ∷ [])) (edge_line fabric edge) (map (edge_line fabric) edges ++ rest) step
            ∙ more.2 ∙ ap (λ (l : List Edge). taken take (of_items more.0 cells ins outs (front ++ record { net = tree.net; edges = l } ∷ [])) rest) (append_assoc tree.edges (edge ∷ []) edges),
      )

  trees_read : (last : Option Part) (cells : List Cell) (ins outs : List Pad) (before trees : List PlainTree) (rest : List (List Word)) → IsOpen last 4
      → AllByRecursion (λ tree. IsNamed ins tree.net) trees → AllByRecursion (λ tree. All (HasWires fabric) tree.edges) trees
      → (next : Option Part) × IsOpen next 4 × (taken take (of_items last cells ins outs before) (flat_map (tree_lines fabric ins) trees ++ rest) ≡ taken take (of_items next cells ins outs (before ++ trees)) rest)
  trees_read last cells ins outs before [] rest may named within = (last, may, ap (λ (l : List PlainTree). taken take (of_items last cells ins outs l) rest) (sym (append-nil before)))
  trees_read last cells ins outs before (tree ∷ trees) rest may named within =
      let bare : PlainTree = record { net = tree.net; edges = [] } in
      let edges = map (edge_line fabric) tree.edges in
      let others = flat_map (tree_lines fabric ins) trees in
      let shape : flat_map (tree_lines fabric ins) (tree ∷ trees) ++ rest ≡ net_line ins tree.net ∷ (edges ++ (others ++ rest)) =
      ap (λ (l : List (List Word)). l ++ rest) (flat_map-cons (tree_lines fabric ins) tree trees) ∙ append_assoc (net_line ins tree.net ∷ edges) others rest in
      let step = net_taken last cells ins outs before tree.net may named.0 in
      let in_edges = edges_read (Some (parts.Section 4)) cells ins outs before bare tree.edges (others ++ rest) (open_here 4) (recursion_from_All (HasWires fabric) tree.edges within.0) in
      let more = trees_read in_edges.0 cells ins outs (before ++ tree ∷ []) trees rest in_edges.1 named.1 within.1 in (
        more.0,
        more.1,
        ap (taken take (of_items last cells ins outs before)) shape
            ∙ taken_one take (of_items last cells ins outs before) (of_items (Some (parts.Section 4)) cells ins outs (before ++ bare ∷ [])) (net_line ins tree.net) (edges ++ (others ++ rest)) step
            ∙ in_edges.2 ∙ more.2 ∙ ap (λ (l : List PlainTree). taken take (of_items more.0 cells ins outs l) rest) (append_assoc before (tree ∷ []) trees),
      )

-- ---- all lines

module _ (fabric : PlainFabric) (is : IsFabric fabric) (all : AreTiles fabric) where
  abbrev end_of : PlainImplementation → Known
  end_of it = items_of fabric (opening_with it.reset) (Some parts.End) it.cells it.ins it.outs it.trees

  lines_taken : (it : PlainImplementation) (rows : List PlainRow) → Spells fabric rows it → taken take (known fabric []) (implementation_lines fabric it) ≡ Ok (end_of it)
  lines_taken it rows spells =
      let on = spells.nameable.on_fabric in
      let cells = map cell_line it.cells in
      let ins = map (pad_line (codes "in")) it.ins in
      let outs = map (pad_line (codes "out")) it.outs in
      let trees = flat_map (tree_lines fabric it.ins) it.trees in
      let last = ending ∷ [] in
      let shape : inner_lines fabric it ++ last ≡ cells ++ (ins ++ (outs ++ (trees ++ last))) =
      append_assoc (cells ++ ins ++ outs) trees last ∙ append_assoc (cells ++ ins) outs (trees ++ last) ∙ append_assoc cells ins (outs ++ (trees ++ last)) in
      let opening = opening_with it.reset in
      let none = with_none_due it.reset in
      let first = begun fabric it.reset (inner_lines fabric it ++ last) in
      let a = cells_read fabric is all opening none first.0 [] it.cells (ins ++ (outs ++ (trees ++ last))) first.1 spells.nameable.cells (recursion_from_All (λ (cell : Cell). IsSite fabric cell.1) it.cells on.cells) in
      let b = ins_read fabric is all opening none a.0 it.cells [] it.ins (outs ++ (trees ++ last)) (open_later a.0 1 2 (omega arith) a.1) (recursion_from_All (λ (pad : Pad). IsSite fabric pad.1) it.ins on.ins) in
      let c = outs_read fabric is all opening none b.0 it.cells it.ins [] it.outs (trees ++ last) (open_later b.0 2 3 (omega arith) b.1) (recursion_from_All (λ (pad : Pad). IsSite fabric pad.1) it.outs on.outs) in
      let d = trees_read fabric is all opening none c.0 it.cells it.ins it.outs [] it.trees last (open_later c.0 3 4 (omega arith) c.1) spells.nameable.nets (recursion_from_All (λ (tree : PlainTree). All (HasWires fabric) tree.edges) it.trees on.wires) in
      let before = items_of fabric opening d.0 it.cells it.ins it.outs it.trees in
      first.2
      ∙ ap (taken take (items_of fabric opening first.0 [] [] [] [])) shape
      ∙ a.2 ∙ b.2 ∙ c.2 ∙ d.2
      ∙ taken_one take before (end_of it) ending [] (end_taken fabric is all opening none d.0 it.cells it.ins it.outs it.trees d.1)
      ∙ taken_none take (end_of it)

  -- a text that spells an implementation is whole, and says it
  pub spelled_is_read : (rows : List PlainRow) (it : PlainImplementation) → Spells fabric rows it → IsWhole (implementation_format fabric) rows × (it ≡ implementation_of (known fabric (words_of rows)))
  spelled_is_read rows it spells =
      let read = taken_fine (known fabric) take (λ (k : Known). cut_short k.last) (keeps fabric) rows (end_of it) (ap (taken take (known fabric [])) spells.lines ∙ lines_taken it rows spells) in
      let same : it ≡ implementation_of (end_of it) =
      ap (λ (reset : Option Word). let i : PlainImplementation = record { cells = it.cells; ins = it.ins; outs = it.outs; trees = it.trees; reset = reset } in i) (sym (with_port it.reset)) in
      (record { fine = read.0; ends = ap (λ (k : Known). cut_short k.last) (sym read.1) }, same ∙ ap implementation_of read.1)
