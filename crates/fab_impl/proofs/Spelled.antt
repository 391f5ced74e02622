-- The lines of a text that is read are those of its implementation.
use Rattle.std.proofs.Common.{◌≡◌, ℕ, ◌≤◌, Bool, true, false, cond, List, [], ◌∷◌, ◌++◌, map, get_or, Option, Some, None, Ok, refl, sym, ap, subst, ◌∙◌, arith, append_assoc, append-nil, codes}
use Rattle.std.specs.List.{AllByRecursion, flat_map}
use Rattle.std.specs.Str.{bytes_eq}
use Rattle.std.proofs.lemmas.Grind.{flat_map-append}
use Rattle.std.proofs.lemmas.List.{map_push}
use Rattle.std.proofs.lemmas.List.Concat.{flat_map-cons}
use Rattle.std.proofs.lemmas.List.Quantifiers.{position-Some}
use Rattle.fab_base.specs.declared.words.Reason.TheVariants as reasons
use Rattle.fab_model.specs.Grid.{PlainFabric}
use Rattle.fab_fabric.specs.declared.wire.Site.{Site}
use Rattle.fab_fabric.specs.declared.wire.Wire.{Wire}
use Rattle.fab_netlist.specs.declared.net_id.NetId.{NetId}
use Rattle.fab_netlist.specs.declared.net_id.NetId.TheVariants as nets
use Rattle.fab_implementation.specs.Plain.{Edge, Pad, PlainTree, PlainImplementation, ports_of}
use Rattle.fab_lines.specs.Order.{IsFine, IsWhole}
use Rattle.fab_texts.specs.Rows.{Word, PlainRow, words_of}
use Rattle.fab_lines.specs.Items.{word_at, with_last}
use Rattle.fab_texts.specs.declared.sections.Part.{Part}
use Rattle.fab_texts.specs.declared.sections.Part.TheVariants as parts
use Rattle.fab_texts.specs.Formats.{refused}
use Rattle.fab_texts.specs.Sections.{version, ending, is_header, may_follow, has_ended, cut_short}
use Rattle.fab_texts.proofs.Formats.{each_line}
use Rattle.fab_texts.proofs.InSections.{IsOpen, NotBegun, not_begun, none_begun, none_so_far, some_so_far, so_far, whole_so_far}
use Rattle.fab_impl.specs.declared.kind.Kind.{Kind}
use Rattle.fab_impl.specs.declared.kind.Kind.TheVariants as kinds
use Rattle.fab_impl.specs.Names.{cell_of, cell_text, site_in, wire_of, wire_text, most_cell}
use Rattle.fab_impl.specs.FirstPlaces.{first_place}
use Rattle.fab_impl.specs.Kinds.{kind_of, part_of}
use Rattle.fab_impl.specs.declared.opening.Opening.{Opening}
use Rattle.fab_impl.specs.declared.opening.Opening.TheVariants as openings
use Rattle.fab_impl.specs.Openings.{is_due, may_come, port_of, reset_version}
use Rattle.fab_impl.specs.Lines.{Cell, Known, nothing, known, take, take_kind, set_opening, set_cells, set_ins, set_outs, set_trees, cell_at, pad_at, input_at, cell_net_at, with_net, with_edge, with_wires}
use Rattle.fab_impl.specs.Spelled.{header, reset_line, headers, cell_line, pad_line, net_line, edge_line, tree_lines, inner_lines, implementation_lines, IsNamed, Spells, implementation_of, implementation_format}
use Rattle.fab_impl.proofs.Follows.{at_kind, keeps}
use Rattle.fab_impl.proofs.Dues.{none_due, reset_due}
use Rattle.fab_impl.proofs.LineForms.{IsForm, form_of, equal_words}
use Rattle.fab_impl.proofs.WordsRead.{cell_read, site_read, wire_read}
use Rattle.fab_impl.proofs.Stands.{line_taken, text_stands, is_on_fabric}

-- ---- lists

all_push : {X : Type 0} (P : X → Type 0) (xs : List X) (y : X) → AllByRecursion P xs → P y → AllByRecursion P (xs ++ y ∷ [])
all_push P [] y all is = (is, tt)
all_push P (x ∷ xs) y all is = (all.0, all_push P xs y all.1 is)

all_last : {X : Type 0} (P : X → Type 0) (change : X → X) (xs : List X) → ((x : X) → P x → P (change x)) → AllByRecursion P xs → AllByRecursion P (with_last change xs)
all_last P change [] keep all = tt
all_last P change (x ∷ []) keep all = (keep x all.0, tt)
all_last P change (x ∷ y ∷ more) keep all = (all.0, all_last P change (y ∷ more) keep all.1)

no_more : {X : Type 0} (a : List X) → ((a ++ []) ++ []) ++ [] ≡ a
no_more a = append-nil ((a ++ []) ++ []) ∙ append-nil (a ++ []) ∙ append-nil a

-- an item more of the first of four lists, of which the others are empty
more_first : {X : Type 0} (a longer b c d : List X) (x : X) → b ≡ [] → c ≡ [] → d ≡ [] → longer ≡ a ++ x ∷ [] → (a ++ b ++ c ++ d) ++ x ∷ [] ≡ longer ++ b ++ c ++ d
more_first {X} a longer b c d x no_b no_c no_d is =
    rw (no_b, no_c, no_d, is) (ap (λ (l : List X). l ++ x ∷ []) (no_more a) ∙ sym (no_more (a ++ x ∷ [])))

more_second : {X : Type 0} (a b longer c d new_d : List X) (x : X) → c ≡ [] → d ≡ [] → new_d ≡ [] → longer ≡ b ++ x ∷ [] → (a ++ b ++ c ++ d) ++ x ∷ [] ≡ a ++ longer ++ c ++ new_d
more_second {X} a b longer c d new_d x no_c no_d no_new is =
    rw (no_c, no_d, no_new, is) (ap (λ (l : List X). l ++ x ∷ []) (append-nil ((a ++ b) ++ []) ∙ append-nil (a ++ b)) ∙ append_assoc a b (x ∷ [])
    ∙ sym (append-nil ((a ++ (b ++ x ∷ [])) ++ []) ∙ append-nil (a ++ (b ++ x ∷ []))))

more_third : {X : Type 0} (a b c longer d : List X) (x : X) → d ≡ [] → longer ≡ c ++ x ∷ [] → (a ++ b ++ c ++ d) ++ x ∷ [] ≡ a ++ b ++ longer ++ d
more_third {X} a b c longer d x no_d is =
    rw (no_d, is) (ap (λ (l : List X). l ++ x ∷ []) (append-nil ((a ++ b) ++ c)) ∙ append_assoc (a ++ b) c (x ∷ []) ∙ sym (append-nil ((a ++ b) ++ (c ++ x ∷ []))))

more_fourth : {X : Type 0} (a b c d longer : List X) (x : X) → longer ≡ d ++ x ∷ [] → (a ++ b ++ c ++ d) ++ x ∷ [] ≡ a ++ b ++ c ++ longer
more_fourth {X} a b c d longer x is = append_assoc (a ++ b ++ c) d (x ∷ []) ∙ ap (λ (l : List X). (a ++ b ++ c) ++ l) (sym is)

-- ---- the lines so far

-- the first lines, as far as they have come
abbrev first_lines : Opening → List (List Word)
first_lines openings.Plain = header version ∷ []
first_lines openings.ResetDue = header reset_version ∷ []
first_lines (openings.Reset port) = header reset_version ∷ reset_line port ∷ []

-- where all of them have come
first_headers : (opening : Opening) → is_due opening ≡ false → first_lines opening ≡ headers (port_of opening)
first_headers openings.Plain none = refl
first_headers openings.ResetDue none = absurd cc
first_headers (openings.Reset port) none = refl

-- all but the end
abbrev so_many : PlainFabric → Opening → PlainImplementation → List (List Word)
so_many fabric opening it = first_lines opening ++ inner_lines fabric it

-- what sections hold that have not begun
record Later (last : Option Part) (it : PlainImplementation) : Type 0 where
  cells : NotBegun last 1 → it.cells ≡ []
  ins : NotBegun last 2 → it.ins ≡ []
  outs : NotBegun last 3 → it.outs ≡ []
  trees : NotBegun last 4 → it.trees ≡ []

record Holds (old : Known) (done : List (List Word)) : Type 0 where
  lines : done ≡ so_far old.last (so_many old.fabric old.opening (implementation_of old))
  named : cut_short old.last ≡ None → is_due old.opening ≡ false
  later : Later old.last (implementation_of old)
  cells : AllByRecursion (λ cell. cell.0 ≤ most_cell) old.cells
  nets : AllByRecursion (λ tree. IsNamed old.ins tree.net) old.trees

-- ---- trees

bare_lines : (fabric : PlainFabric) (ins : List Pad) (trees : List PlainTree) (net : NetId) → flat_map (tree_lines fabric ins) (with_net trees net) ≡ flat_map (tree_lines fabric ins) trees ++ net_line ins net ∷ []
bare_lines fabric ins trees net =
    let bare : PlainTree = record { net = net; edges = [] } in
    flat_map-append (tree_lines fabric ins) trees (bare ∷ [])
    ∙ ap (λ (l : List (List Word)). flat_map (tree_lines fabric ins) trees ++ l) (flat_map-cons (tree_lines fabric ins) bare [] ∙ append-nil (net_line ins net ∷ []))

longer_lines : (fabric : PlainFabric) (ins : List Pad) (tree : PlainTree) (more : List PlainTree) (edge : Edge)
    → flat_map (tree_lines fabric ins) (with_last (with_edge edge) (tree ∷ more)) ≡ flat_map (tree_lines fabric ins) (tree ∷ more) ++ edge_line fabric edge ∷ []
longer_lines fabric ins tree [] edge =
    flat_map-cons (tree_lines fabric ins) (with_edge edge tree) [] ∙ append-nil (tree_lines fabric ins (with_edge edge tree))
    ∙ ap (λ (l : List (List Word)). net_line ins tree.net ∷ l) (map_push (edge_line fabric) tree.edges edge)
    ∙ ap (λ (l : List (List Word)). l ++ edge_line fabric edge ∷ []) (sym (flat_map-cons (tree_lines fabric ins) tree [] ∙ append-nil (tree_lines fabric ins tree)))
longer_lines fabric ins tree (next ∷ more) edge =
    flat_map-cons (tree_lines fabric ins) tree (with_last (with_edge edge) (next ∷ more))
    ∙ ap (λ (l : List (List Word)). tree_lines fabric ins tree ++ l) (longer_lines fabric ins next more edge)
    ∙ sym (append_assoc (tree_lines fabric ins tree) (flat_map (tree_lines fabric ins) (next ∷ more)) (edge_line fabric edge ∷ []))
    ∙ ap (λ (l : List (List Word)). l ++ edge_line fabric edge ∷ []) (sym (flat_map-cons (tree_lines fabric ins) tree (next ∷ more)))

-- ---- what was taken of a line

opening_by : (old next : Known) (word : Word) (one two : Bool) → bytes_eq word version ≡ one → bytes_eq word reset_version ≡ two
    → set_opening old (cond one (Ok openings.Plain) (cond two (Ok openings.ResetDue) (refused reasons.Number))) ≡ Ok next
    → (opening : Opening) × (first_lines opening ≡ header word ∷ []) × (record old { opening = opening } ≡ next)
opening_by old next word true two is other so = (openings.Plain, ap (λ (w : Word). header w ∷ []) (sym (equal_words word version is)), cc)
opening_by old next word false true other is so = (openings.ResetDue, ap (λ (w : Word). header w ∷ []) (sym (equal_words word reset_version is)), cc)
opening_by old next word false false other others so = absurd cc

cell_taken : (old next : Known) (cell : Option ℕ) (site : Option Site) → set_cells old (cell_at old.cells cell site) ≡ Ok next
    → (c : ℕ) × (s : Site) × (cell ≡ Some c) × (site ≡ Some s) × (record old { cells = old.cells ++ (c, s) ∷ [] } ≡ next)
cell_taken old next None site so = absurd cc
cell_taken old next (Some cell) None so = absurd cc
cell_taken old next (Some cell) (Some site) so = (cell, site, refl, refl, cc)

in_taken : (old next : Known) (port : Word) (site : Option Site) → set_ins old (pad_at old.ins port site) ≡ Ok next → (s : Site) × (site ≡ Some s) × (record old { ins = old.ins ++ (port, s) ∷ [] } ≡ next)
in_taken old next port None so = absurd cc
in_taken old next port (Some site) so = (site, refl, cc)

out_taken : (old next : Known) (port : Word) (site : Option Site) → set_outs old (pad_at old.outs port site) ≡ Ok next → (s : Site) × (site ≡ Some s) × (record old { outs = old.outs ++ (port, s) ∷ [] } ≡ next)
out_taken old next port None so = absurd cc
out_taken old next port (Some site) so = (site, refl, cc)

input_taken : (old next : Known) (found : Option ℕ) → set_trees old (input_at old.trees found) ≡ Ok next → (place : ℕ) × (found ≡ Some place) × (record old { trees = with_net old.trees (nets.In place) } ≡ next)
input_taken old next None so = absurd cc
input_taken old next (Some place) so = (place, refl, cc)

cell_net_taken : (old next : Known) (found : Option ℕ) → set_trees old (cell_net_at old.trees found) ≡ Ok next → (cell : ℕ) × (found ≡ Some cell) × (record old { trees = with_net old.trees (nets.Cell cell) } ≡ next)
cell_net_taken old next None so = absurd cc
cell_net_taken old next (Some cell) so = (cell, refl, cc)

edge_taken : (old next : Known) (trees : List PlainTree) (from to : Option Wire) → set_trees old (with_wires trees from to) ≡ Ok next
    → (tree : PlainTree) × (more : List PlainTree) × (f : Wire) × (t : Wire) × (trees ≡ tree ∷ more) × (from ≡ Some f) × (to ≡ Some t) × (record old { trees = with_last (with_edge (f, t)) (tree ∷ more) } ≡ next)
edge_taken old next [] from to so = absurd cc
edge_taken old next (tree ∷ more) None to so = absurd cc
edge_taken old next (tree ∷ more) (Some from) None so = absurd cc
edge_taken old next (tree ∷ more) (Some from) (Some to) so = (tree, more, from, to, refl, refl, refl, cc)

-- ---- one line more

module _ (old : Known) (done : List (List Word)) (holds : Holds old done) where
  abbrev it : PlainImplementation
  it = implementation_of old

  -- where no section has begun
  no_inner : it.cells ≡ [] → it.ins ≡ [] → it.outs ≡ [] → it.trees ≡ [] → inner_lines old.fabric it ≡ []
  no_inner no_cells no_ins no_outs no_trees =
      ap (λ (l : List Cell). map cell_line l ++ map (pad_line (codes "in")) old.ins ++ map (pad_line (codes "out")) old.outs ++ flat_map (tree_lines old.fabric old.ins) old.trees) no_cells
      ∙ ap (λ (l : List Pad). map (pad_line (codes "in")) l ++ map (pad_line (codes "out")) old.outs ++ flat_map (tree_lines old.fabric old.ins) old.trees) no_ins
      ∙ ap (λ (l : List Pad). map (pad_line (codes "out")) l ++ flat_map (tree_lines old.fabric old.ins) old.trees) no_outs
      ∙ ap (flat_map (tree_lines old.fabric old.ins)) no_trees

  -- a line behind those so far
  behind : (part : Part) (line : List Word) (longer : List (List Word)) → has_ended old.last ≡ false → may_follow old.last part ≡ true → is_header part ≡ false → inner_lines old.fabric it ++ line ∷ [] ≡ longer
      → done ++ line ∷ [] ≡ first_lines old.opening ++ longer
  behind part line longer opened follows other is =
      ap (λ (l : List (List Word)). l ++ line ∷ []) (holds.lines ∙ some_so_far old.last part (so_many old.fabric old.opening it) opened follows other)
      ∙ append_assoc (first_lines old.opening) (inner_lines old.fabric it) (line ∷ [])
      ∙ ap (λ (l : List (List Word)). first_lines old.opening ++ l) is

  header_step : (opening : Opening) (line : List Word) → may_follow old.last parts.Header ≡ true → first_lines opening ≡ line ∷ [] → Holds (record old { last = Some parts.Header; opening = opening }) (done ++ line ∷ [])
  header_step opening line follows is =
      let before : done ≡ [] = holds.lines ∙ none_so_far old.last (so_many old.fabric old.opening it) follows in
      let no_cells = holds.later.cells (none_begun old.last follows 1) in
      let no_ins = holds.later.ins (none_begun old.last follows 2) in
      let no_outs = holds.later.outs (none_begun old.last follows 3) in
      let no_trees = holds.later.trees (none_begun old.last follows 4) in
      record {
        lines = ap (λ (l : List (List Word)). l ++ line ∷ []) before ∙ sym is ∙ sym (append-nil (first_lines opening))
            ∙ ap (λ (l : List (List Word)). first_lines opening ++ l) (sym (no_inner no_cells no_ins no_outs no_trees));
        named = λ ended. absurd cc;
        later = record { cells = λ few. no_cells; ins = λ few. no_ins; outs = λ few. no_outs; trees = λ few. no_trees };
        cells = holds.cells;
        nets = holds.nets;
      }

  reset_step : (port : Word) → IsOpen old.last 0 → old.opening ≡ openings.ResetDue → Holds (record old { last = Some (parts.Section 0); opening = openings.Reset port }) (done ++ reset_line port ∷ [])
  reset_step port may due =
      let no_cells = holds.later.cells (not_begun old.last 0 1 may (omega arith)) in
      let no_ins = holds.later.ins (not_begun old.last 0 2 may (omega arith)) in
      let no_outs = holds.later.outs (not_begun old.last 0 3 may (omega arith)) in
      let no_trees = holds.later.trees (not_begun old.last 0 4 may (omega arith)) in
      let empty = no_inner no_cells no_ins no_outs no_trees in
      record {
        lines = behind (parts.Section 0) (reset_line port) (reset_line port ∷ []) may.opened may.follows refl (ap (λ (l : List (List Word)). l ++ reset_line port ∷ []) empty)
            ∙ ap (λ (opening : Opening). first_lines opening ++ reset_line port ∷ []) due
            ∙ ap (λ (l : List (List Word)). header reset_version ∷ reset_line port ∷ l) (sym empty);
        named = λ ended. refl;
        later = record { cells = λ few. no_cells; ins = λ few. no_ins; outs = λ few. no_outs; trees = λ few. no_trees };
        cells = holds.cells;
        nets = holds.nets;
      }

  cell_step : (cell : Cell) → IsOpen old.last 1 → cell.0 ≤ most_cell → Holds (record old { last = Some (parts.Section 1); cells = old.cells ++ cell ∷ [] }) (done ++ cell_line cell ∷ [])
  cell_step cell may few =
      let no_ins = holds.later.ins (not_begun old.last 1 2 may (omega arith)) in
      let no_outs = holds.later.outs (not_begun old.last 1 3 may (omega arith)) in
      let no_trees = holds.later.trees (not_begun old.last 1 4 may (omega arith)) in
      record {
        lines = behind (parts.Section 1) (cell_line cell) (inner_lines old.fabric (record it { cells = old.cells ++ cell ∷ [] })) may.opened may.follows refl
            (more_first (map cell_line old.cells) (map cell_line (old.cells ++ cell ∷ [])) (map (pad_line (codes "in")) old.ins) (map (pad_line (codes "out")) old.outs) (flat_map (tree_lines old.fabric old.ins) old.trees) (cell_line cell)
            (ap (map (pad_line (codes "in"))) no_ins) (ap (map (pad_line (codes "out"))) no_outs) (ap (flat_map (tree_lines old.fabric old.ins)) no_trees) (map_push cell_line old.cells cell));
        named = λ ended. absurd cc;
        later = record { cells = λ below. absurd (omega (arith, below)); ins = λ below. no_ins; outs = λ below. no_outs; trees = λ below. no_trees };
        cells = all_push (λ (c : Cell). c.0 ≤ most_cell) old.cells cell holds.cells few;
        nets = holds.nets;
      }

  in_step : (pad : Pad) → IsOpen old.last 2 → Holds (record old { last = Some (parts.Section 2); ins = old.ins ++ pad ∷ [] }) (done ++ pad_line (codes "in") pad ∷ [])
  in_step pad may =
      let no_outs = holds.later.outs (not_begun old.last 2 3 may (omega arith)) in
      let no_trees = holds.later.trees (not_begun old.last 2 4 may (omega arith)) in
      let longer = old.ins ++ pad ∷ [] in
      record {
        lines = behind (parts.Section 2) (pad_line (codes "in") pad) (inner_lines old.fabric (record it { ins = longer })) may.opened may.follows refl
            (more_second (map cell_line old.cells) (map (pad_line (codes "in")) old.ins) (map (pad_line (codes "in")) longer) (map (pad_line (codes "out")) old.outs) (flat_map (tree_lines old.fabric old.ins) old.trees) (flat_map (tree_lines old.fabric longer) old.trees) (pad_line (codes "in") pad)
            (ap (map (pad_line (codes "out"))) no_outs) (ap (flat_map (tree_lines old.fabric old.ins)) no_trees) (ap (flat_map (tree_lines old.fabric longer)) no_trees) (map_push (pad_line (codes "in")) old.ins pad));
        named = λ ended. absurd cc;
        later = record { cells = λ below. absurd (omega (arith, below)); ins = λ below. absurd (omega (arith, below)); outs = λ below. no_outs; trees = λ below. no_trees };
        cells = holds.cells;
        nets = subst (λ (trees : List PlainTree). AllByRecursion (λ tree. IsNamed longer tree.net) trees) (sym no_trees) tt;
      }

  out_step : (pad : Pad) → IsOpen old.last 3 → Holds (record old { last = Some (parts.Section 3); outs = old.outs ++ pad ∷ [] }) (done ++ pad_line (codes "out") pad ∷ [])
  out_step pad may =
      let no_trees = holds.later.trees (not_begun old.last 3 4 may (omega arith)) in
      record {
        lines = behind (parts.Section 3) (pad_line (codes "out") pad) (inner_lines old.fabric (record it { outs = old.outs ++ pad ∷ [] })) may.opened may.follows refl
            (more_third (map cell_line old.cells) (map (pad_line (codes "in")) old.ins) (map (pad_line (codes "out")) old.outs) (map (pad_line (codes "out")) (old.outs ++ pad ∷ [])) (flat_map (tree_lines old.fabric old.ins) old.trees) (pad_line (codes "out") pad)
            (ap (flat_map (tree_lines old.fabric old.ins)) no_trees) (map_push (pad_line (codes "out")) old.outs pad));
        named = λ ended. absurd cc;
        later = record { cells = λ below. absurd (omega (arith, below)); ins = λ below. absurd (omega (arith, below)); outs = λ below. absurd (omega (arith, below)); trees = λ below. no_trees };
        cells = holds.cells;
        nets = holds.nets;
      }

  -- a line of the nets
  trees_step : (trees : List PlainTree) (line : List Word) → IsOpen old.last 4 → flat_map (tree_lines old.fabric old.ins) trees ≡ flat_map (tree_lines old.fabric old.ins) old.trees ++ line ∷ []
      → AllByRecursion (λ tree. IsNamed old.ins tree.net) trees → Holds (record old { last = Some (parts.Section 4); trees = trees }) (done ++ line ∷ [])
  trees_step trees line may is named = record {
    lines = behind (parts.Section 4) line (inner_lines old.fabric (record it { trees = trees })) may.opened may.follows refl
        (more_fourth (map cell_line old.cells) (map (pad_line (codes "in")) old.ins) (map (pad_line (codes "out")) old.outs) (flat_map (tree_lines old.fabric old.ins) old.trees) (flat_map (tree_lines old.fabric old.ins) trees) line is);
    named = λ ended. absurd cc;
    later = record { cells = λ below. absurd (omega (arith, below)); ins = λ below. absurd (omega (arith, below)); outs = λ below. absurd (omega (arith, below)); trees = λ below. absurd (omega (arith, below)) };
    cells = holds.cells;
    nets = named;
  }

  net_step : (net : NetId) → IsOpen old.last 4 → IsNamed old.ins net → Holds (record old { last = Some (parts.Section 4); trees = with_net old.trees net }) (done ++ net_line old.ins net ∷ [])
  net_step net may named =
      trees_step (with_net old.trees net) (net_line old.ins net) may (bare_lines old.fabric old.ins old.trees net)
      (all_push (λ (tree : PlainTree). IsNamed old.ins tree.net) old.trees (record { net = net; edges = [] }) holds.nets named)

  edge_step : (tree : PlainTree) (more : List PlainTree) (edge : Edge) → IsOpen old.last 4 → old.trees ≡ tree ∷ more
      → Holds (record old { last = Some (parts.Section 4); trees = with_last (with_edge edge) (tree ∷ more) }) (done ++ edge_line old.fabric edge ∷ [])
  edge_step tree more edge may is =
      trees_step (with_last (with_edge edge) (tree ∷ more)) (edge_line old.fabric edge) may
      (longer_lines old.fabric old.ins tree more edge ∙ ap (λ (trees : List PlainTree). flat_map (tree_lines old.fabric old.ins) trees ++ edge_line old.fabric edge ∷ []) (sym is))
      (all_last (λ (t : PlainTree). IsNamed old.ins t.net) (with_edge edge) (tree ∷ more) (λ t named. named) (subst (λ (trees : List PlainTree). AllByRecursion (λ t. IsNamed old.ins t.net) trees) is holds.nets))

  end_step : has_ended old.last ≡ false → may_follow old.last parts.End ≡ true → is_due old.opening ≡ false → Holds (record old { last = Some parts.End }) (done ++ ending ∷ [])
  end_step opened follows none = record {
    lines = ap (λ (l : List (List Word)). l ++ ending ∷ []) (holds.lines ∙ some_so_far old.last parts.End (so_many old.fabric old.opening it) opened follows refl);
    named = λ ended. none;
    later = record { cells = λ begun. absurd begun; ins = λ begun. absurd begun; outs = λ begun. absurd begun; trees = λ begun. absurd begun };
    cells = holds.cells;
    nets = holds.nets;
  }

  as_written : (next made : Known) (line written : List Word) → line ≡ written → made ≡ next → Holds made (done ++ written ∷ []) → Holds next (done ++ line ∷ [])
  as_written next made line written is same step = subst (λ (k : Known). Holds k (done ++ line ∷ [])) same (subst (λ (l : List Word). Holds made (done ++ l ∷ [])) (sym is) step)

  -- an input that is found by its port is named by it
  input_named : (port : Word) (place : ℕ) → first_place old.ins port ≡ Some place → (port ≡ get_or (ports_of old.ins) place []) × IsNamed old.ins (nets.In place)
  input_named port place found =
      let stands = position-Some (bytes_eq port) (ports_of old.ins) place [] found in
      let same = equal_words port (get_or (ports_of old.ins) place []) stands.1 in
      (same, ap (first_place old.ins) (sym same) ∙ found)

  kind_step : (next : Known) (kind : Kind) (line : List Word) → IsForm kind line → has_ended old.last ≡ false → may_follow old.last (part_of kind) ≡ true → may_come old.opening kind ≡ true
      → take_kind (at_kind old kind) kind line ≡ Ok next → Holds next (done ++ line ∷ [])
  kind_step next kinds.Header line form opened follows due so =
      let word = word_at line 1 in
      let taken = opening_by (at_kind old kinds.Header) next word (bytes_eq word version) (bytes_eq word reset_version) refl refl so in
      as_written next (record (at_kind old kinds.Header) { opening = taken.0 }) line (header word) form taken.2 (header_step taken.0 (header word) follows taken.1)
  kind_step next kinds.Reset line form opened follows due so =
      let port = word_at line 1 in
      let same : record (at_kind old kinds.Reset) { opening = openings.Reset port } ≡ next = cc in
      as_written next (record (at_kind old kinds.Reset) { opening = openings.Reset port }) line (reset_line port) form same
      (reset_step port (record { opened = opened; follows = follows }) (reset_due old.opening due))
  kind_step next kinds.Cell line form opened follows due so =
      let taken = cell_taken (at_kind old kinds.Cell) next (cell_of (word_at line 1)) (site_in old.fabric (word_at line 2)) so in
      let cell = cell_read (word_at line 1) taken.0 taken.2 in
      let site = site_read old.fabric (word_at line 2) taken.1 taken.3 in
      as_written next (record (at_kind old kinds.Cell) { cells = old.cells ++ (taken.0, taken.1) ∷ [] }) line (cell_line (taken.0, taken.1))
      (form ∙ ap (λ (w : Word). codes "cell" ∷ w ∷ word_at line 2 ∷ []) cell.0 ∙ ap (λ (w : Word). codes "cell" ∷ cell_text taken.0 ∷ w ∷ []) site) taken.4
      (cell_step (taken.0, taken.1) (record { opened = opened; follows = follows }) cell.1)
  kind_step next kinds.In line form opened follows due so =
      let taken = in_taken (at_kind old kinds.In) next (word_at line 2) (site_in old.fabric (word_at line 3)) so in
      let pad : Pad = (word_at line 2, taken.0) in
      as_written next (record (at_kind old kinds.In) { ins = old.ins ++ pad ∷ [] }) line (pad_line (codes "in") pad)
      (form ∙ ap (λ (w : Word). codes "pad" ∷ codes "in" ∷ word_at line 2 ∷ w ∷ []) (site_read old.fabric (word_at line 3) taken.0 taken.1)) taken.2
      (in_step pad (record { opened = opened; follows = follows }))
  kind_step next kinds.Out line form opened follows due so =
      let taken = out_taken (at_kind old kinds.Out) next (word_at line 2) (site_in old.fabric (word_at line 3)) so in
      let pad : Pad = (word_at line 2, taken.0) in
      as_written next (record (at_kind old kinds.Out) { outs = old.outs ++ pad ∷ [] }) line (pad_line (codes "out") pad)
      (form ∙ ap (λ (w : Word). codes "pad" ∷ codes "out" ∷ word_at line 2 ∷ w ∷ []) (site_read old.fabric (word_at line 3) taken.0 taken.1)) taken.2
      (out_step pad (record { opened = opened; follows = follows }))
  kind_step next kinds.NetZero line form opened follows due so =
      let same : record (at_kind old kinds.NetZero) { trees = with_net old.trees nets.Zero } ≡ next = cc in
      as_written next (record (at_kind old kinds.NetZero) { trees = with_net old.trees nets.Zero }) line (net_line old.ins nets.Zero) form same (net_step nets.Zero (record { opened = opened; follows = follows }) tt)
  kind_step next kinds.NetOne line form opened follows due so =
      let same : record (at_kind old kinds.NetOne) { trees = with_net old.trees nets.One } ≡ next = cc in
      as_written next (record (at_kind old kinds.NetOne) { trees = with_net old.trees nets.One }) line (net_line old.ins nets.One) form same (net_step nets.One (record { opened = opened; follows = follows }) tt)
  kind_step next kinds.NetIn line form opened follows due so =
      let taken = input_taken (at_kind old kinds.NetIn) next (first_place old.ins (word_at line 2)) so in
      let named = input_named (word_at line 2) taken.0 taken.1 in
      as_written next (record (at_kind old kinds.NetIn) { trees = with_net old.trees (nets.In taken.0) }) line (net_line old.ins (nets.In taken.0))
      (form ∙ ap (λ (w : Word). codes "net" ∷ codes "in" ∷ w ∷ []) named.0) taken.2
      (net_step (nets.In taken.0) (record { opened = opened; follows = follows }) named.1)
  kind_step next kinds.NetCell line form opened follows due so =
      let taken = cell_net_taken (at_kind old kinds.NetCell) next (cell_of (word_at line 2)) so in
      let cell = cell_read (word_at line 2) taken.0 taken.1 in
      as_written next (record (at_kind old kinds.NetCell) { trees = with_net old.trees (nets.Cell taken.0) }) line (net_line old.ins (nets.Cell taken.0))
      (form ∙ ap (λ (w : Word). codes "net" ∷ codes "cell" ∷ w ∷ []) cell.0) taken.2
      (net_step (nets.Cell taken.0) (record { opened = opened; follows = follows }) cell.1)
  kind_step next kinds.Edge line form opened follows due so =
      let taken = edge_taken (at_kind old kinds.Edge) next old.trees (wire_of old.fabric (word_at line 1)) (wire_of old.fabric (word_at line 2)) so in
      let edge : Edge = (taken.2, taken.3) in
      as_written next (record (at_kind old kinds.Edge) { trees = with_last (with_edge edge) (taken.0 ∷ taken.1) }) line (edge_line old.fabric edge)
      (form ∙ ap (λ (w : Word). codes "edge" ∷ w ∷ word_at line 2 ∷ []) (wire_read old.fabric (word_at line 1) taken.2 taken.5)
      ∙ ap (λ (w : Word). codes "edge" ∷ wire_text old.fabric taken.2 ∷ w ∷ []) (wire_read old.fabric (word_at line 2) taken.3 taken.6)) taken.7
      (edge_step taken.0 taken.1 edge (record { opened = opened; follows = follows }) taken.4)
  kind_step next kinds.End line form opened follows due so =
      let same : at_kind old kinds.End ≡ next = cc in
      as_written next (at_kind old kinds.End) line ending form same (end_step opened follows (none_due old.opening due))
  kind_step next kinds.Other line form opened follows due so = absurd cc

  line_step : (next : Known) (line : List Word) → take old line ≡ Ok next → Holds next (done ++ line ∷ [])
  line_step next line so = let taken = line_taken old next line so in kind_step next (kind_of line) line (form_of line) taken.opened taken.follows taken.due taken.takes

-- ---- a whole text

nothing_holds : (fabric : PlainFabric) → Holds (nothing fabric) []
nothing_holds fabric = record { lines = refl; named = λ ended. absurd cc; later = record { cells = λ begun. refl; ins = λ begun. refl; outs = λ begun. refl; trees = λ begun. refl }; cells = tt; nets = tt }

text_holds : (fabric : PlainFabric) (rows : List PlainRow) → IsFine (implementation_format fabric).judge rows → Holds (known fabric (words_of rows)) (words_of rows)
text_holds fabric rows fine = each_line (known fabric) take (λ (k : Known). cut_short k.last) (λ lines. Holds (known fabric lines) lines)
    (λ front line next so holds. subst (λ (k : Known). Holds k (front ++ line ∷ [])) ((keeps fabric).more front line next so) (line_step (known fabric front) front holds next line so)) (nothing_holds fabric) rows fine

-- a whole text spells what it says
pub whole_spells : (fabric : PlainFabric) (rows : List PlainRow) → IsWhole (implementation_format fabric) rows → Spells fabric rows (implementation_of (known fabric (words_of rows)))
whole_spells fabric rows whole =
    let old = known fabric (words_of rows) in
    let it = implementation_of old in
    let holds = text_holds fabric rows whole.fine in
    let stands = text_stands fabric rows whole.fine in
    record {
      lines = holds.lines ∙ whole_so_far old.last (so_many old.fabric old.opening it) whole.ends
          ∙ append_assoc (first_lines old.opening) (inner_lines old.fabric it) (ending ∷ [])
          ∙ ap (λ (l : List (List Word)). l ++ (inner_lines old.fabric it ++ ending ∷ [])) (first_headers old.opening (holds.named whole.ends))
          ∙ ap (λ (f : PlainFabric). implementation_lines f it) stands.same;
      nameable = record { on_fabric = is_on_fabric fabric old stands; cells = holds.cells; nets = holds.nets };
    }
