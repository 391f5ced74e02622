-- A legal implementation of a packed netlist whose ports are words is spelled by its own text.
use Rattle.std.proofs.Common.{◌≡◌, ℕ, ◌<◌, ◌≤◌, ◌++◌, Bool, true, All, List, [], ◌∷◌, map, take, length, get_or, codes, nat_lt, cond, Contains, Option, Some, None, refl, sym, ap, subst, ◌∙◌, inl, inr, arith, lt-ltb}
use Rattle.std.specs.Prelude.{position}
use Rattle.std.specs.Option.{option_map}
use Rattle.std.specs.List.{AllByRecursion as Each, flat_map}
use Rattle.std.specs.Str.{bytes_eq}
use Rattle.std.proofs.lemmas.Bool.{cases_lt, false≢true}
use Rattle.std.proofs.lemmas.List.{get_or_past}
use Rattle.std.proofs.lemmas.List.Elements.{All-contains}
use Rattle.fab_kinds.specs.declared.kind.Kind.{Kind}
use Rattle.fab_kinds.specs.declared.kind.Kind.TheVariants as kinds
use Rattle.fab_model.specs.Grid.{PlainFabric}
use Rattle.fab_fabric.specs.Fabric.{AreTiles, IsFabric}
use Rattle.fab_fabric.specs.declared.wire.Site.{Site}
use Rattle.fab_netlist.specs.declared.net_id.NetId.{NetId}
use Rattle.fab_netlist.specs.declared.net_id.NetId.TheVariants as nets
use Rattle.fab_netlist.specs.Packed.{PlainPacked}
use Rattle.fab_netlist.proofs.Members.{in_left, in_right, mapped_in}
use Rattle.fab_implementation.specs.OnFabric.{HasSites, HasWires, IsOnFabric}
use Rattle.fab_implementation.specs.Plain.{Edge, Pad, PlainImplementation, PlainTree, reset_name}
use Rattle.fab_legal.specs.Legal.{IsLegal}
use Rattle.fab_legal.specs.Lines.{HaveSites, IsCell, IsInput, IsOutput, named}
use Rattle.fab_legal.specs.Nets.{IsNet, net_among}
use Rattle.fab_legal.specs.WellMade.{IsWellMadePacked, output_ports, ports as design_ports}
use Rattle.fab_legal.proofs.Lists.{at_default, at_from_mapped}
use Rattle.fab_legal.proofs.Once.{before_in, known_thing}
use Rattle.fab_legal.proofs.PortNumbers.{own_number}
use Rattle.fab_ways_laws.proofs.Bounded.{step_from_within, step_within}
use Rattle.fab_designs.specs.fab_impl_Lines.{Cell}
use Rattle.fab_designs.specs.fab_impl_Names.{most_cell}
use Rattle.fab_designs.specs.fab_impl_Spelled.{HasSpelling, IsNameable, IsNamed, cell_line, edge_line, headers, implementation_lines, inner_lines, net_line, pad_line, reset_line, tree_lines}
use Rattle.fab_fabric.specs.Names.{site_text}
use Rattle.fab_texts.specs.Printed.{is_last_word, is_row}
use Rattle.fab_texts.specs.Rows.{Word}
use Rattle.fab_texts.specs.Sections.{ending}
use Rattle.fab_texts.proofs.SiteWords.{site_last_word}
use Rattle.fab_blif.proofs.Each.{each_flat, each_joined, each_mapped}
use Rattle.fab_spelled_designs_laws.proofs.Apart.{Differ, each_from_members, each_tested}
use Rattle.fab_spelled_designs_laws.proofs.Sited.{site_writable}
use Rattle.fab_spelled_designs_laws.proofs.Written.{HasWords, cell_word, row_of, wire_word}

abbrev IsLast : Word → Type 0
IsLast word = is_last_word word ≡ true

abbrev IsRow : List Word → Type 0
IsRow line = is_row line ≡ true

-- the place of a name among names that differ
place_of : (names : List Word) (name : Word) (place : ℕ) → Differ names → place < length names → get_or names place name ≡ name → position (bytes_eq name) names ≡ Some place
place_of names name place differ few at =
    let number = own_number names name place differ (few, at) in
    let inside : nat_lt place (length names) ≡ true = lt-ltb place (length names) few in
    ap (λ (n : ℕ). cond (nat_lt n (length names)) (Some n) None) number ∙ ap (λ (b : Bool). cond b (Some place) None) inside

-- ---- lines that name things

module _ {X : Type 0} (fabric : PlainFabric) (kind : Kind) (IsKnown : X → Type 0) (lines : List (X × Site)) (have : HaveSites fabric kind IsKnown lines) where
  lines_sited : HasSites fabric lines
  lines_sited = λ k line few. (kind, (have.lines_right k (get_or lines k line) few (at_default lines k line few)).of_kind)

  line_known : (line : X × Site) → Contains lines line → IsKnown line.0
  line_known line here = known_thing IsKnown fabric kind lines line have.lines_right here

  site_word : IsFabric fabric → (line : X × Site) → Contains lines line → IsLast (site_text line.1)
  site_word is line here = site_last_word line.1 (site_writable fabric line.1 kind is (have.lines_right here.0 line here.1 (here.1, here.2)).of_kind)

  names_differ : Differ (named lines)
  names_differ = λ i j d less inside same.
      let first = at_from_mapped (λ (line : X × Site). line.0) lines i (get_or (named lines) i d) (at_default (named lines) i d (omega (arith, less, inside))) in
      let second = at_from_mapped (λ (line : X × Site). line.0) lines j (get_or (named lines) j d) (at_default (named lines) j d inside) in
      (have.lines_right j second.0 second.1.0 second.1).first
      (subst (λ (thing : X). Contains (named (take j lines)) thing) (first.2 ∙ same ∙ sym second.2)
      (mapped_in (λ (line : X × Site). line.0) (take j lines) first.0 (before_in lines i j first.0 less (omega (arith, second.1.0)) first.1)))

module _ (fabric : PlainFabric) (is : IsFabric fabric) (tiles : AreTiles fabric) (words : All HasWords fabric.types) (packed : PlainPacked) (made : IsWellMadePacked packed)
    (port_words : All IsLast (design_ports packed)) (fixed : List Pad) (it : PlainImplementation) (legal : IsLegal fabric packed fixed it) where
  -- ---- ports

  input_word : (port : Word) → IsInput packed port → IsLast port
  input_word port here = All-contains IsLast (design_ports packed) port port_words (in_left packed.inputs (output_ports packed) port here)

  output_word : (port : Word) → IsOutput packed port → IsLast port
  output_word port here = All-contains IsLast (design_ports packed) port port_words (in_right packed.inputs (output_ports packed) port here)

  few_cells : (cell : ℕ) → IsCell packed cell → cell ≤ most_cell
  few_cells cell known = omega (arith, known, made.few_cells)

  -- ---- what is named

  edges_there : All (λ (tree : PlainTree). All (HasWires fabric) tree.edges) it.trees
  edges_there = λ k tree few. λ j edge below.
      let found = get_or it.trees k tree in
      let one = get_or found.edges j edge in
      let step = legal.steps k found few (at_default it.trees k tree few) j one below (at_default found.edges j edge below) in
      (step_from_within fabric tiles one.0 one.1 step, step_within fabric tiles one.0 one.1 step)

  on_fabric : IsOnFabric fabric it
  on_fabric = record {
    cells = lines_sited fabric kinds.Lut4c (IsCell packed) it.cells legal.placed.cells;
    ins = lines_sited fabric kinds.Io (IsInput packed) it.ins legal.placed.ports.ins;
    outs = lines_sited fabric kinds.Io (IsOutput packed) it.outs legal.placed.ports.outs;
    wires = edges_there;
  }

  -- the item of an input that a net names
  input_within : (place : ℕ) → IsInput packed (get_or (named it.ins) place []) → place < length (named it.ins)
  input_within place known = elim (cases_lt place (length (named it.ins))) [
    | inl inside ↦ inside
    | inr past ↦ absurd (false≢true (sym (ap is_last_word (get_or_past (named it.ins) place [] past)) ∙ input_word (get_or (named it.ins) place []) known))
  ]

  net_named : (net : NetId) → IsNet packed (net_among (named it.ins) net) → IsNamed it.ins net
  net_named nets.Zero known = tt
  net_named nets.One known = tt
  net_named (nets.In place) known =
      let inside = input_within place known in
      place_of (named it.ins) (get_or (named it.ins) place []) place (names_differ fabric kinds.Io (IsInput packed) it.ins legal.placed.ports.ins) inside
      (at_default (named it.ins) place [] inside).1
  net_named (nets.Cell cell) known = few_cells cell known

  tree_net : (tree : PlainTree) → Contains it.trees tree → IsNet packed (net_among (named it.ins) tree.net)
  tree_net tree here = (legal.nets here.0 tree here.1 (here.1, here.2)).name.exists

  nameable : IsNameable fabric it
  nameable = record {
    on_fabric = on_fabric;
    cells = each_from_members (λ cell. cell.0 ≤ most_cell) it.cells (λ cell here. few_cells cell.0 (line_known fabric kinds.Lut4c (IsCell packed) it.cells legal.placed.cells cell here));
    nets = each_from_members (λ tree. IsNamed it.ins tree.net) it.trees (λ tree here. net_named tree.net (tree_net tree here));
  }

  -- ---- lines of words

  -- the reset port is an input
  header_rows : (reset : Option ℕ) → packed.reset ≡ reset → Each IsRow (headers (option_map (λ place. get_or packed.inputs place []) reset))
  header_rows None is = (refl, tt)
  header_rows (Some place) is =
      let port = get_or packed.inputs place [] in
      let below = made.reset_below place is in
      let word = input_word port (place, below, (at_default packed.inputs place [] below).1) in
      (refl, (row_of (reset_line port) (omega arith) (refl, (word, tt)), tt))

  cell_row : (cell : Cell) → Contains it.cells cell → IsRow (cell_line cell)
  cell_row cell here =
      row_of (cell_line cell) (omega arith) (refl, (cell_word cell.0, (site_word fabric kinds.Lut4c (IsCell packed) it.cells legal.placed.cells is cell here, tt)))

  in_row : (pad : Pad) → Contains it.ins pad → IsRow (pad_line (codes "in") pad)
  in_row pad here =
      let port = input_word pad.0 (line_known fabric kinds.Io (IsInput packed) it.ins legal.placed.ports.ins pad here) in
      row_of (pad_line (codes "in") pad) (omega arith) (refl, (refl, (port, (site_word fabric kinds.Io (IsInput packed) it.ins legal.placed.ports.ins is pad here, tt))))

  out_row : (pad : Pad) → Contains it.outs pad → IsRow (pad_line (codes "out") pad)
  out_row pad here =
      let port = output_word pad.0 (line_known fabric kinds.Io (IsOutput packed) it.outs legal.placed.ports.outs pad here) in
      row_of (pad_line (codes "out") pad) (omega arith) (refl, (refl, (port, (site_word fabric kinds.Io (IsOutput packed) it.outs legal.placed.ports.outs is pad here, tt))))

  net_row : (net : NetId) → IsNet packed (net_among (named it.ins) net) → IsRow (net_line it.ins net)
  net_row nets.Zero known = refl
  net_row nets.One known = refl
  net_row (nets.In place) known = row_of (net_line it.ins (nets.In place)) (omega arith) (refl, (refl, (input_word (get_or (named it.ins) place []) known, tt)))
  net_row (nets.Cell cell) known = row_of (net_line it.ins (nets.Cell cell)) (omega arith) (refl, (refl, (cell_word cell, tt)))

  edge_row : (edge : Edge) → HasWires fabric edge → IsRow (edge_line fabric edge)
  edge_row edge within = row_of (edge_line fabric edge) (omega arith) (refl, (wire_word fabric words edge.0 within.0, (wire_word fabric words edge.1 within.1, tt)))

  tree_rows : (tree : PlainTree) → Contains it.trees tree → Each IsRow (tree_lines fabric it.ins tree)
  tree_rows tree here =
      let edges = All-contains (λ (t : PlainTree). All (HasWires fabric) t.edges) it.trees tree edges_there here in (
        net_row tree.net (tree_net tree here),
        each_mapped IsRow (edge_line fabric) tree.edges (each_from_members (λ edge. IsRow (edge_line fabric edge)) tree.edges (λ edge there.
            edge_row edge (All-contains (HasWires fabric) tree.edges edge edges there))),
      )

  abbrev pad_rows : Word → List Pad → List (List Word)
  pad_rows side pads = map (pad_line side) pads

  inner_rows : Each IsRow (inner_lines fabric it)
  inner_rows =
      let cells = map cell_line it.cells in
      let ins = pad_rows (codes "in") it.ins in
      let outs = pad_rows (codes "out") it.outs in
      let cell_rows = each_mapped IsRow cell_line it.cells (each_from_members (λ cell. IsRow (cell_line cell)) it.cells cell_row) in
      let in_rows = each_mapped IsRow (pad_line (codes "in")) it.ins (each_from_members (λ pad. IsRow (pad_line (codes "in") pad)) it.ins in_row) in
      let out_rows = each_mapped IsRow (pad_line (codes "out")) it.outs (each_from_members (λ pad. IsRow (pad_line (codes "out") pad)) it.outs out_row) in
      let all_trees =
      each_flat (λ tree. Each IsRow (tree_lines fabric it.ins tree)) IsRow (tree_lines fabric it.ins) (λ tree rows. rows) it.trees
      (each_from_members (λ tree. Each IsRow (tree_lines fabric it.ins tree)) it.trees tree_rows) in
      each_joined IsRow (cells ++ ins ++ outs) (flat_map (tree_lines fabric it.ins) it.trees)
      (each_joined IsRow (cells ++ ins) outs (each_joined IsRow cells ins cell_rows in_rows) out_rows) all_trees

  pub implementation_spelled : it.reset ≡ reset_name packed → HasSpelling fabric it
  implementation_spelled is_design = record {
    nameable = nameable;
    rows = each_tested is_row (implementation_lines fabric it)
        (each_joined IsRow (headers it.reset) (inner_lines fabric it ++ ending ∷ []) (subst (λ (reset : Option Word). Each IsRow (headers reset)) (sym is_design) (header_rows packed.reset refl))
        (each_joined IsRow (inner_lines fabric it) (ending ∷ []) inner_rows (refl, tt)));
  }
