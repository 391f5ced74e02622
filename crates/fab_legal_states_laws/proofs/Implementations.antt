-- The text of a legal implementation is short where names are.
use Rattle.std.proofs.Common.{◌≡◌, ℕ, ◌+◌, ◌*◌, ◌<◌, ◌≤◌, List, [], ◌∷◌, ◌++◌, codes, decimal, length, map, take, get_or, slice_index_or, All, Contains, Option, Some, None, refl, sym, ◌∙◌, subst, arith, length-append}
use Rattle.std.specs.List.{flat_map, range_with_len}
use Rattle.std.specs.Option.{option_map}
use Rattle.std.proofs.lemmas.Fmt.{length-decimal-le}
use Rattle.std.proofs.lemmas.List.{length-map}
use Rattle.std.proofs.lemmas.List.Elements.{All-contains_itself}
use Rattle.std.proofs.lemmas.List.FromFn.{length-range_with_len}
use Rattle.fab_base.specs.declared.TheConstants.{MAX_FILE_BYTES}
use Rattle.fab_kinds.specs.declared.kind.Kind.TheVariants as kinds
use Rattle.fab_model.specs.Grid.{PlainFabric}
use Rattle.fab_fabric.specs.Fabric.{IsFabric, AreTiles}
use Rattle.fab_netlist.specs.declared.net_id.NetId.{NetId}
use Rattle.fab_netlist.specs.declared.net_id.NetId.TheVariants as ids
use Rattle.fab_netlist.specs.Packed.{PlainPacked}
use Rattle.fab_netlist.proofs.Members.{first_in, later_in, in_left, in_right, mapped_in}
use Rattle.fab_implementation.specs.Plain.{Edge, Pad, PlainTree, PlainImplementation, ports_of, reset_name}
use Rattle.fab_legal.specs.Legal.{IsLegal}
use Rattle.fab_legal.specs.Lines.{IsCell, IsInput, IsOutput}
use Rattle.fab_legal.specs.Nets.{IsNet, Net, cell_net, net_of, one_net, port_net, zero_net}
use Rattle.fab_legal.specs.WellMade.{IsWellMadePacked, output_name, output_ports}
use Rattle.fab_legal.specs.WellMade as designs
use Rattle.fab_legal.proofs.Lists.{at_default, at_from_mapped}
use Rattle.fab_legal.proofs.Members.{from_mapped}
use Rattle.fab_legal.proofs.Once.{before_in, known_thing}
use Rattle.fab_fabric.specs.Names.{site_text}
use Rattle.fab_texts.specs.Rows.{Word}
use Rattle.fab_texts.specs.Printed.{row_text, rows_text}
use Rattle.fab_texts.specs.Sections.{ending}
use Rattle.fab_impl.specs.Lines.{Cell}
use Rattle.fab_impl.specs.Names.{cell_text, wire_names, wire_text}
use Rattle.fab_impl.specs.Openings.{reset_version}
use Rattle.fab_impl.specs.Spelled.{cell_line, edge_line, header, headers, implementation_text, inner_lines, net_line, pad_line, reset_line, tree_lines}
use Rattle.fab_legal_states_laws.specs.ShortLaws.{IsShortName}
use Rattle.fab_legal_states_laws.proofs.Counting.{Differ, below_there, no_more}
use Rattle.fab_legal_states_laws.proofs.Rows.{name_or_none, row_length, rows_behind, rows_within}
use Rattle.fab_legal_states_laws.proofs.Edges.{few_edges}
use Rattle.fab_legal_states_laws.proofs.Lines.{few_lines, input_short, output_short, short_line}

module _ (fabric : PlainFabric) (is : IsFabric fabric) (tiles : AreTiles fabric) (packed : PlainPacked) (made : IsWellMadePacked packed) (fixed : List Pad)
    (it : PlainImplementation) (legal : IsLegal fabric packed fixed it) (wires : All IsShortName (wire_names fabric)) (names : All IsShortName (designs.ports packed)) where
  -- ---- how many

  few_cells : length it.cells ≤ length packed.cells
  few_cells =
      let numbers = range_with_len 0 (length packed.cells) in
      omega (arith, few_lines fabric kinds.Lut4c (IsCell packed) it.cells legal.placed.cells numbers (below_there (length packed.cells)), length-range_with_len 0 (length packed.cells))

  few_ins : length it.ins ≤ length packed.inputs
  few_ins = few_lines fabric kinds.Io (IsInput packed) it.ins legal.placed.ports.ins packed.inputs (λ port known. known)

  few_outs : length it.outs ≤ length packed.outputs
  few_outs =
      omega (arith, few_lines fabric kinds.Io (IsOutput packed) it.outs legal.placed.ports.outs (output_ports packed) (λ port known. known), length-map packed.outputs output_name)

  -- the nets of the design
  abbrev all_nets : List Net
  all_nets = zero_net ∷ one_net ∷ (map port_net packed.inputs ++ map cell_net (range_with_len 0 (length packed.cells)))

  net_there : (net : Net) → IsNet packed net → Contains all_nets net
  net_there zero_net known = (0, omega arith, refl)
  net_there one_net known = (1, omega arith, refl)
  net_there (port_net port) known =
      let ports = map port_net packed.inputs in
      let cells = map cell_net (range_with_len 0 (length packed.cells)) in
      later_in zero_net (one_net ∷ (ports ++ cells)) (port_net port)
      (later_in one_net (ports ++ cells) (port_net port) (in_left ports cells (port_net port) (mapped_in port_net packed.inputs port known)))
  net_there (cell_net number) known =
      let ports = map port_net packed.inputs in
      let numbers = range_with_len 0 (length packed.cells) in
      later_in zero_net (one_net ∷ (ports ++ map cell_net numbers)) (cell_net number)
      (later_in one_net (ports ++ map cell_net numbers) (cell_net number)
      (in_right ports (map cell_net numbers) (cell_net number) (mapped_in cell_net numbers number (below_there (length packed.cells) number known))))

  abbrev net : PlainTree → Net
  net tree = net_of it tree.net

  tree_known : (tree : PlainTree) → Contains it.trees tree → IsNet packed (net tree)
  tree_known tree here = (legal.nets here.0 tree here.1 (here.1, here.2)).name.exists

  nets_differ : Differ (map net it.trees)
  nets_differ = λ i j d less inside same.
      let first = at_from_mapped net it.trees i (get_or (map net it.trees) i d) (at_default (map net it.trees) i d (omega (arith, less, inside))) in
      let second = at_from_mapped net it.trees j (get_or (map net it.trees) j d) (at_default (map net it.trees) j d inside) in
      (legal.nets j second.0 second.1.0 second.1).name.first
      (subst (λ (n : Net). Contains (map net (take j it.trees)) n) (first.2 ∙ same ∙ sym second.2)
      (mapped_in net (take j it.trees) first.0 (before_in it.trees i j first.0 less (omega (arith, second.1.0)) first.1)))

  few_trees : length it.trees ≤ 2 + (length packed.inputs + length packed.cells)
  few_trees =
      let ports = map port_net packed.inputs in
      let numbers = range_with_len 0 (length packed.cells) in
      omega (
        arith,
        no_more (map net it.trees) all_nets nets_differ (λ n here.
            let tree = from_mapped net it.trees n here in
            net_there n (subst (IsNet packed) tree.2 (tree_known tree.0 tree.1))),
        length-map it.trees net,
        length-append ports (map cell_net numbers),
        length-map packed.inputs port_net,
        length-map numbers cell_net,
        length-range_with_len 0 (length packed.cells),
      )

  -- ---- how long each line is

  short_number : (number : ℕ) → number < length packed.cells → length (decimal number) ≤ 5
  short_number number known = length-decimal-le 5 number (omega arith) (omega (arith, known, made.few_cells)) (omega (arith, known, made.few_cells))

  short_cell : (cell : Cell) → Contains it.cells cell → length (row_text (cell_line cell)) ≤ 48
  short_cell cell here =
      omega (
        arith,
        row_length (codes "cell") (cell_text cell.0 ∷ site_text cell.1 ∷ []),
        short_number cell.0 (known_thing (IsCell packed) fabric kinds.Lut4c it.cells cell legal.placed.cells.lines_right here),
        short_line fabric kinds.Lut4c (IsCell packed) it.cells legal.placed.cells is cell here,
      )

  short_in : (pad : Pad) → Contains it.ins pad → length (row_text (pad_line (codes "in") pad)) ≤ 48
  short_in pad here =
      omega (
        arith,
        row_length (codes "pad") (codes "in" ∷ pad.0 ∷ site_text pad.1 ∷ []),
        input_short packed names pad.0 (known_thing (IsInput packed) fabric kinds.Io it.ins pad legal.placed.ports.ins.lines_right here),
        short_line fabric kinds.Io (IsInput packed) it.ins legal.placed.ports.ins is pad here,
      )

  short_out : (pad : Pad) → Contains it.outs pad → length (row_text (pad_line (codes "out") pad)) ≤ 48
  short_out pad here =
      omega (
        arith,
        row_length (codes "pad") (codes "out" ∷ pad.0 ∷ site_text pad.1 ∷ []),
        output_short packed names pad.0 (known_thing (IsOutput packed) fabric kinds.Io it.outs pad legal.placed.ports.outs.lines_right here),
        short_line fabric kinds.Io (IsOutput packed) it.outs legal.placed.ports.outs is pad here,
      )

  -- the ports that lines of inputs name
  line_names : All IsShortName (ports_of it.ins)
  line_names = λ k d few.
      let port = get_or (ports_of it.ins) k d in
      let line = from_mapped (λ (pad : Pad). pad.0) it.ins port (All-contains_itself (ports_of it.ins) k d few) in
      subst IsShortName line.2 (input_short packed names line.0.0 (known_thing (IsInput packed) fabric kinds.Io it.ins line.0 legal.placed.ports.ins.lines_right line.1))

  short_net : (id : NetId) → IsNet packed (net_of it id) → length (row_text (net_line it.ins id)) ≤ 48
  short_net ids.Zero known = omega (arith, row_length (codes "net") (codes "zero" ∷ []))
  short_net ids.One known = omega (arith, row_length (codes "net") (codes "one" ∷ []))
  short_net (ids.In place) known =
      omega (arith, row_length (codes "net") (codes "in" ∷ slice_index_or (ports_of it.ins) place [] ∷ []), name_or_none (ports_of it.ins) line_names place)
  short_net (ids.Cell cell) known = omega (arith, row_length (codes "net") (codes "cell" ∷ cell_text cell ∷ []), short_number cell known)

  short_edge : (edge : Edge) → length (row_text (edge_line fabric edge)) ≤ 55
  short_edge edge =
      omega (
        arith,
        row_length (codes "edge") (wire_text fabric edge.0 ∷ wire_text fabric edge.1 ∷ []),
        name_or_none (wire_names fabric) wires edge.0.0,
        name_or_none (wire_names fabric) wires edge.1.0,
      )

  -- the first line and, where there is one, that of the reset port, which is an input
  short_headers : (reset : Option ℕ) → packed.reset ≡ reset → length (rows_text (headers (option_map (λ place. get_or packed.inputs place []) reset))) ≤ 48
  short_headers None is = omega arith
  short_headers (Some place) is =
      let port = get_or packed.inputs place [] in
      let below = made.reset_below place is in
      omega (
        arith,
        length-append (row_text (header reset_version)) (rows_text (reset_line port ∷ [])),
        length-append (row_text (reset_line port)) [],
        row_length (codes "reset") (port ∷ []),
        input_short packed names port (place, below, (at_default packed.inputs place [] below).1),
      )

  -- ---- the text

  abbrev edges : List PlainTree → List Edge
  edges trees = flat_map (λ (tree : PlainTree). tree.edges) trees

  trees_within : (trees : List PlainTree) → ((tree : PlainTree) → Contains trees tree → IsNet packed (net tree)) →
      length (rows_text (flat_map (tree_lines fabric it.ins) trees)) ≤ length trees * 48 + length (edges trees) * 55
  trees_within [] known = omega arith
  trees_within (tree ∷ trees) known =
      let lines = map (edge_line fabric) tree.edges in
      omega (
        arith,
        rows_behind (tree_lines fabric it.ins tree) (flat_map (tree_lines fabric it.ins) trees),
        length-append (row_text (net_line it.ins tree.net)) (rows_text lines),
        short_net tree.net (known tree (first_in tree trees tree refl)),
        rows_within (edge_line fabric) 55 tree.edges (λ edge here. short_edge edge),
        length-append tree.edges (edges trees),
        trees_within trees (λ other here. known other (later_in tree trees other here)),
      )

  pub implementation_short : it.reset ≡ reset_name packed → length (implementation_text fabric it) ≤ MAX_FILE_BYTES
  implementation_short is_design =
      let cells = map cell_line it.cells in
      let ins = map (pad_line (codes "in")) it.ins in
      let outs = map (pad_line (codes "out")) it.outs in
      let trees = flat_map (tree_lines fabric it.ins) it.trees in
      omega (
        arith,
        subst (λ (reset : Option Word). length (rows_text (headers reset)) ≤ 48) (sym is_design) (short_headers packed.reset refl),
        rows_behind (headers it.reset) (inner_lines fabric it ++ ending ∷ []),
        rows_behind (inner_lines fabric it) (ending ∷ []),
        rows_behind (cells ++ ins ++ outs) trees,
        rows_behind (cells ++ ins) outs,
        rows_behind cells ins,
        rows_within cell_line 48 it.cells short_cell,
        rows_within (pad_line (codes "in")) 48 it.ins short_in,
        rows_within (pad_line (codes "out")) 48 it.outs short_out,
        trees_within it.trees tree_known,
        few_cells,
        few_ins,
        few_outs,
        few_trees,
        few_edges fabric tiles packed fixed it legal,
        is.few_wires,
        made.few_cells,
        made.few_ports,
      )
