-- What lines say stands on the fabric.
use Rattle.std.proofs.Common.{◌≡◌, ℕ, ◌<◌, ◌≤◌, true, false, cond, List, [], ◌∷◌, ◌++◌, length, get_or, position, All, Option, Some, None, Result, Ok, Err, refl, ap, subst, arith, length-append}
use Rattle.std.specs.Prelude.{is_some}
use Rattle.std.specs.Option.{option_map, option_map_or, option_and_then}
use Rattle.std.specs.Str.{bytes_eq}
use Rattle.std.proofs.lemmas.List.{length-map}
use Rattle.std.proofs.lemmas.List.Elements.{All-nil, All-cons, All-head, All-tail, All-push}
use Rattle.std.proofs.lemmas.List.Quantifiers.{position-Some}
use Rattle.fab_kinds.specs.declared.kind.Kind.{Kind as BelKind}
use Rattle.fab_model.specs.Tiles.{PlainTile, matrix_names}
use Rattle.fab_model.specs.Grid.{PlainFabric, tile_at}
use Rattle.fab_fabric.specs.Fabric.{wires_at, wire_count}
use Rattle.fab_fabric.specs.Wires.{wire_index, numbered_wire}
use Rattle.fab_fabric.specs.declared.wire.Site.{Site}
use Rattle.fab_fabric.specs.declared.wire.Wire.{Wire}
use Rattle.fab_fabric.proofs.Numbered.{index_within}
use Rattle.fab_netlist.specs.declared.net_id.NetId.{NetId}
use Rattle.fab_netlist.specs.declared.net_id.NetId.TheVariants as nets
use Rattle.fab_implementation.specs.OnFabric.{kind_at, IsSite, HasSites, HasWires, IsOnFabric}
use Rattle.fab_implementation.specs.Plain.{Edge, Pad, PlainTree, ports_of}
use Rattle.fab_base.specs.declared.problem.Problem.{Problem}
use Rattle.fab_lines.specs.Order.{IsFine}
use Rattle.fab_texts.specs.Rows.{Word, PlainRow, words_of}
use Rattle.fab_lines.specs.Items.{word_at, with_last}
use Rattle.fab_texts.specs.Places.{place_at, site_of, after_byte, ◌>>=◌}
use Rattle.fab_texts.specs.Sections.{cut_short, has_ended, may_follow}
use Rattle.fab_texts.proofs.Formats.{each_line}
use Rattle.fab_texts.proofs.InSections.{placed}
use Rattle.fab_impl.specs.declared.kind.Kind.{Kind}
use Rattle.fab_impl.specs.declared.kind.Kind.TheVariants as kinds
use Rattle.fab_impl.specs.Names.{cell_of, on_fabric, site_in, wire_of, named_wire}
use Rattle.fab_impl.specs.FirstPlaces.{first_place}
use Rattle.fab_impl.specs.Kinds.{kind_of, part_of}
use Rattle.fab_impl.specs.declared.opening.Opening.{Opening}
use Rattle.fab_impl.specs.declared.opening.Opening.TheVariants as openings
use Rattle.fab_impl.specs.Openings.{may_come, opening_of, where_due}
use Rattle.fab_impl.specs.Lines.{Cell, Known, nothing, known, take, take_kind, set_opening, set_cells, set_ins, set_outs, set_trees, cell_at, pad_at, input_at, cell_net_at, with_net, with_edge, with_wires}
use Rattle.fab_implementation.specs.Inputs.{NamesInput}
use Rattle.fab_impl.specs.Spelled.{implementation_of, implementation_format}
use Rattle.fab_impl.proofs.Follows.{at_kind, keeps}
use Rattle.fab_impl.proofs.Dues.{due_taken}

-- ---- words

site_by : (fabric : PlainFabric) (found site : Site) (kind : Option BelKind) → kind_at fabric found ≡ kind → cond (is_some kind) (Some found) None ≡ Some site → IsSite fabric site
site_by fabric found site None is so = absurd cc
site_by fabric found site (Some kind) is so = let same : found ≡ site = cc in subst (IsSite fabric) same (kind, is)

site_found : (fabric : PlainFabric) (found : Option Site) (site : Site) → option_and_then (on_fabric fabric) found ≡ Some site → IsSite fabric site
site_found fabric None site so = absurd cc
site_found fabric (Some found) site so = site_by fabric found site (kind_at fabric found) refl so

pub then_some : {A B : Type 0} (o : Option A) (f : A → Option B) (y : B) → (o >>= f) ≡ Some y → (x : A) × (o ≡ Some x) × (f x ≡ Some y)
then_some None f y h = absurd cc
then_some (Some x) f y h = (x, refl, h)

wire_within : (fabric : PlainFabric) (x y : ℕ) (name : Word) (wire : Wire) (tile : Option PlainTile) → tile_at fabric x y ≡ tile
    → option_map (λ (number : ℕ). numbered_wire (wire_index fabric x y number)) (option_and_then (λ (t : PlainTile). position (bytes_eq name) (matrix_names t)) tile) ≡ Some wire → wire.0 < wire_count fabric
wire_within fabric x y name wire None is so = absurd cc
wire_within fabric x y name wire (Some tile) is so = at_number (position (bytes_eq name) (matrix_names tile)) refl so
  where
    at_number : (found : Option ℕ) → position (bytes_eq name) (matrix_names tile) ≡ found → option_map (λ (number : ℕ). numbered_wire (wire_index fabric x y number)) found ≡ Some wire → wire.0 < wire_count fabric
    at_number None read given = absurd cc
    at_number (Some number) read given =
        let same : numbered_wire (wire_index fabric x y number) ≡ wire = cc in
        let here : wires_at fabric x y ≡ length (matrix_names tile) = ap (λ (t : Option PlainTile). option_map_or (λ p. length (matrix_names p)) t 0) is in
        let below = (position-Some (bytes_eq name) (matrix_names tile) number [] read).0 in
        let few : number < wires_at fabric x y = omega (arith, here, below) in
        subst (λ (w : Wire). w.0 < wire_count fabric) same (index_within fabric x y number few)

wire_found : (fabric : PlainFabric) (word : Word) (wire : Wire) → wire_of fabric word ≡ Some wire → wire.0 < wire_count fabric
unfolding wire_of
wire_found fabric word wire so =
    let place = then_some (place_at word) (λ p. after_byte 47 p.rest >>= λ name. named_wire fabric p.x p.y name) wire so in
    let name = then_some (after_byte 47 place.0.rest) (λ n. named_wire fabric place.0.x place.0.y n) wire place.2 in
    wire_within fabric place.0.x place.0.y name.0 wire (tile_at fabric place.0.x place.0.y) refl name.2

-- ---- what is known stands on the fabric

pub record Stands (fabric : PlainFabric) (old : Known) : Type 0 where
  pub same : old.fabric ≡ fabric
  pub cells : HasSites fabric old.cells
  pub ins : HasSites fabric old.ins
  pub outs : HasSites fabric old.outs
  pub wires : All (λ tree. All (HasWires fabric) tree.edges) old.trees
  pub nets : All (λ tree. NamesInput (length old.ins) tree.net) old.trees

input_grows : (inputs more : ℕ) (net : NetId) → inputs ≤ more → NamesInput inputs net → NamesInput more net
input_grows inputs more nets.Zero up within = tt
input_grows inputs more nets.One up within = tt
input_grows inputs more (nets.In place) up within = omega (arith, up, within)
input_grows inputs more (nets.Cell cell) up within = tt

all_last : {X : Type 0} (P : X → Type 0) (change : X → X) (xs : List X) → ((x : X) → P x → P (change x)) → All P xs → All P (with_last change xs)
all_last P change [] keep all = all
all_last P change (x ∷ []) keep all = All-cons P (change x) [] (keep x (All-head P x [] all)) (All-nil P)
all_last P change (x ∷ y ∷ more) keep all = All-cons P x (with_last change (y ∷ more)) (All-head P x (y ∷ more) all) (all_last P change (y ∷ more) keep (All-tail P x (y ∷ more) all))

module _ (fabric : PlainFabric) (old next : Known) (stands : Stands fabric old) where
  opening_stands : (opening : Result Opening Problem) → set_opening old opening ≡ Ok next → Stands fabric next
  opening_stands (Err problem) so = absurd cc
  opening_stands (Ok opening) so =
      let same : record old { opening = opening } ≡ next = cc in
      subst (Stands fabric) same (record { same = stands.same; cells = stands.cells; ins = stands.ins; outs = stands.outs; wires = stands.wires; nets = stands.nets })

  cell_stands : (cell : Option ℕ) (site : Option Site) → ((s : Site) → site ≡ Some s → IsSite fabric s) → set_cells old (cell_at old.cells cell site) ≡ Ok next → Stands fabric next
  cell_stands None site is so = absurd cc
  cell_stands (Some cell) None is so = absurd cc
  cell_stands (Some cell) (Some site) is so =
      let same : record old { cells = old.cells ++ (cell, site) ∷ [] } ≡ next = cc in
      subst (Stands fabric) same (record { same = stands.same; cells = All-push (λ (c : Cell). IsSite fabric c.1) old.cells (cell, site) stands.cells (is site refl); ins = stands.ins; outs = stands.outs; wires = stands.wires; nets = stands.nets })

  in_stands : (port : Word) (site : Option Site) → ((s : Site) → site ≡ Some s → IsSite fabric s) → set_ins old (pad_at old.ins port site) ≡ Ok next → Stands fabric next
  in_stands port None is so = absurd cc
  in_stands port (Some site) is so =
      let same : record old { ins = old.ins ++ (port, site) ∷ [] } ≡ next = cc in
      let longer = length-append old.ins ((port, site) ∷ []) in
      subst (Stands fabric) same (record {
        same = stands.same;
        cells = stands.cells;
        ins = All-push (λ (p : Pad). IsSite fabric p.1) old.ins (port, site) stands.ins (is site refl);
        outs = stands.outs;
        wires = stands.wires;
        nets = λ k d below. input_grows (length old.ins) (length (old.ins ++ (port, site) ∷ [])) (get_or old.trees k d).net (omega (arith, longer)) (stands.nets k d below);
      })

  out_stands : (port : Word) (site : Option Site) → ((s : Site) → site ≡ Some s → IsSite fabric s) → set_outs old (pad_at old.outs port site) ≡ Ok next → Stands fabric next
  out_stands port None is so = absurd cc
  out_stands port (Some site) is so =
      let same : record old { outs = old.outs ++ (port, site) ∷ [] } ≡ next = cc in
      subst (Stands fabric) same (record { same = stands.same; cells = stands.cells; ins = stands.ins; outs = All-push (λ (p : Pad). IsSite fabric p.1) old.outs (port, site) stands.outs (is site refl); wires = stands.wires; nets = stands.nets })

  net_stands : (net : NetId) → NamesInput (length old.ins) net → record old { trees = with_net old.trees net } ≡ next → Stands fabric next
  net_stands net within same =
      let tree : PlainTree = record { net = net; edges = [] } in
      subst (Stands fabric) same (record {
        same = stands.same;
        cells = stands.cells;
        ins = stands.ins;
        outs = stands.outs;
        wires = All-push (λ (t : PlainTree). All (HasWires fabric) t.edges) old.trees tree stands.wires (All-nil (HasWires fabric));
        nets = All-push (λ (t : PlainTree). NamesInput (length old.ins) t.net) old.trees tree stands.nets within;
      })

  input_stands : (found : Option ℕ) → ((place : ℕ) → found ≡ Some place → place < length old.ins) → set_trees old (input_at old.trees found) ≡ Ok next → Stands fabric next
  input_stands None is so = absurd cc
  input_stands (Some place) is so = net_stands (nets.In place) (is place refl) cc

  cell_net_stands : (found : Option ℕ) → set_trees old (cell_net_at old.trees found) ≡ Ok next → Stands fabric next
  cell_net_stands None so = absurd cc
  cell_net_stands (Some cell) so = net_stands (nets.Cell cell) tt cc

  edge_stands : (trees : List PlainTree) (from to : Option Wire) → old.trees ≡ trees → ((w : Wire) → from ≡ Some w → w.0 < wire_count fabric) → ((w : Wire) → to ≡ Some w → w.0 < wire_count fabric)
      → set_trees old (with_wires trees from to) ≡ Ok next → Stands fabric next
  edge_stands [] from to is from_is to_is so = absurd cc
  edge_stands (tree ∷ more) None to is from_is to_is so = absurd cc
  edge_stands (tree ∷ more) (Some from) None is from_is to_is so = absurd cc
  edge_stands (tree ∷ more) (Some from) (Some to) is from_is to_is so =
      let edge : Edge = (from, to) in
      let same : record old { trees = with_last (with_edge edge) (tree ∷ more) } ≡ next = cc in
      subst (Stands fabric) same (record {
        same = stands.same;
        cells = stands.cells;
        ins = stands.ins;
        outs = stands.outs;
        wires = all_last (λ (t : PlainTree). All (HasWires fabric) t.edges) (with_edge edge) (tree ∷ more) (λ t all. All-push (HasWires fabric) t.edges edge all (from_is from refl, to_is to refl))
            (subst (λ (ts : List PlainTree). All (λ t. All (HasWires fabric) t.edges) ts) is stands.wires);
        nets = all_last (λ (t : PlainTree). NamesInput (length old.ins) t.net) (with_edge edge) (tree ∷ more) (λ t within. within)
            (subst (λ (ts : List PlainTree). All (λ t. NamesInput (length old.ins) t.net) ts) is stands.nets);
      })

  site_here : (word : Word) (site : Site) → site_in old.fabric word ≡ Some site → IsSite fabric site
  site_here word site so = subst (λ (f : PlainFabric). IsSite f site) stands.same (site_found old.fabric (site_of word) site so)

  wire_here : (word : Word) (wire : Wire) → wire_of old.fabric word ≡ Some wire → wire.0 < wire_count fabric
  wire_here word wire so = subst (λ (f : PlainFabric). wire.0 < wire_count f) stands.same (wire_found old.fabric word wire so)

  kind_stands : (kind : Kind) (line : List Word) → take_kind old kind line ≡ Ok next → Stands fabric next
  kind_stands kinds.Header line so = opening_stands (opening_of (word_at line 1)) so
  kind_stands kinds.Reset line so = opening_stands (Ok (openings.Reset (word_at line 1))) so
  kind_stands kinds.Cell line so = cell_stands (cell_of (word_at line 1)) (site_in old.fabric (word_at line 2)) (site_here (word_at line 2)) so
  kind_stands kinds.In line so = in_stands (word_at line 2) (site_in old.fabric (word_at line 3)) (site_here (word_at line 3)) so
  kind_stands kinds.Out line so = out_stands (word_at line 2) (site_in old.fabric (word_at line 3)) (site_here (word_at line 3)) so
  kind_stands kinds.NetZero line so = net_stands nets.Zero tt cc
  kind_stands kinds.NetOne line so = net_stands nets.One tt cc
  kind_stands kinds.NetIn line so =
      input_stands (first_place old.ins (word_at line 2)) (λ place is.
      let below = (position-Some (bytes_eq (word_at line 2)) (ports_of old.ins) place [] is).0 in
      omega (arith, below, length-map old.ins (λ (p : Pad). p.0))) so
  kind_stands kinds.NetCell line so = cell_net_stands (cell_of (word_at line 2)) so
  kind_stands kinds.Edge line so = edge_stands old.trees (wire_of old.fabric (word_at line 1)) (wire_of old.fabric (word_at line 2)) refl (wire_here (word_at line 1)) (wire_here (word_at line 2)) so
  kind_stands kinds.End line so = let same : old ≡ next = cc in subst (Stands fabric) same stands
  kind_stands kinds.Other line so = absurd cc

-- a line of a kind that is taken has its place, and may come there
pub record IsTaken (old next : Known) (kind : Kind) (line : List Word) : Type 0 where
  pub opened : has_ended old.last ≡ false
  pub follows : may_follow old.last (part_of kind) ≡ true
  pub due : may_come old.opening kind ≡ true
  pub takes : take_kind (at_kind old kind) kind line ≡ Ok next

pub line_taken : (old next : Known) (line : List Word) → take old line ≡ Ok next → IsTaken old next (kind_of line) line
line_taken old next line so =
    let kind = kind_of line in
    let stands = placed old.last (part_of kind) (where_due old.opening kind (take_kind (at_kind old kind) kind line)) next so in
    let due = due_taken old.opening kind (take_kind (at_kind old kind) kind line) next stands.takes in
    record { opened = stands.opened; follows = stands.follows; due = due.0; takes = due.1 }

line_keeps : (fabric : PlainFabric) (old next : Known) (line : List Word) → Stands fabric old → take old line ≡ Ok next → Stands fabric next
line_keeps fabric old next line stands so =
    let here : Stands fabric (at_kind old (kind_of line)) = record { same = stands.same; cells = stands.cells; ins = stands.ins; outs = stands.outs; wires = stands.wires; nets = stands.nets } in
    kind_stands fabric (at_kind old (kind_of line)) next here (kind_of line) line (line_taken old next line so).takes

nothing_stands : (fabric : PlainFabric) → Stands fabric (nothing fabric)
nothing_stands fabric = record { same = refl; cells = All-nil (λ c. IsSite fabric c.1); ins = All-nil (λ p. IsSite fabric p.1); outs = All-nil (λ p. IsSite fabric p.1); wires = All-nil (λ t. All (HasWires fabric) t.edges); nets = All-nil (λ t. NamesInput 0 t.net) }

-- what a text says of which no line is refused
pub text_stands : (fabric : PlainFabric) (rows : List PlainRow) → IsFine (implementation_format fabric).judge rows → Stands fabric (known fabric (words_of rows))
text_stands fabric rows fine = each_line (known fabric) take (λ (k : Known). cut_short k.last) (λ lines. Stands fabric (known fabric lines))
    (λ front line next so stands. subst (Stands fabric) ((keeps fabric).more front line next so) (line_keeps fabric (known fabric front) next line stands so)) (nothing_stands fabric) rows fine

pub is_on_fabric : (fabric : PlainFabric) (old : Known) → Stands fabric old → IsOnFabric fabric (implementation_of old)
is_on_fabric fabric old stands = record { cells = stands.cells; ins = stands.ins; outs = stands.outs; wires = stands.wires }
