-- The nets of trees by numbers are those by names, and begin where those may.
use Rattle.std.proofs.Common.{◌≡◌, ◌≢◌, ℕ, ◌<◌, List, [], map, length, get_or, take, Contains, AllPairs, nat_eq, refl, sym, ap, ◌∙◌, subst, inl, inr, arith}
use Rattle.std.proofs.lemmas.List.{get_or_default}
use Rattle.indexmap.specs.IndexSet.{insert_all}
use Rattle.fab_kinds.specs.declared.kind.Kind.TheVariants as kinds
use Rattle.fab_implementation.specs.fab_model.specs.Grid.{PlainFabric}
use Rattle.fab_implementation.specs.fab_fabric.specs.declared.wire.Site.{Site}
use Rattle.fab_implementation.specs.fab_fabric.specs.declared.wire.Wire.{Wire}
use Rattle.fab_implementation.specs.fab_netlist.specs.declared.net_id.NetId.{NetId}
use Rattle.fab_implementation.specs.fab_netlist.specs.declared.net_id.NetId.TheVariants as ids
use Rattle.fab_implementation.specs.fab_netlist.specs.Plain.{IsAt}
use Rattle.fab_implementation.specs.fab_netlist.specs.Packed.{PlainPacked}
use Rattle.fab_implementation.specs.fab_netlist.proofs.Counts.{at_mapped}
use Rattle.fab_implementation.specs.fab_netlist.proofs.Members.{mapped_in}
use Rattle.fab_implementation.specs.Plain.{Edge, Pad, PlainTree, PlainImplementation}
use Rattle.fab_legal.specs.Turns.{AreRight, IsFirstWrongAt}
use Rattle.fab_legal.specs.WellMade.{IsWellMadePacked, output_ports}
use Rattle.fab_legal.specs.Lines.{named, IsInput, CellsHaveSites, PortsHavePads, IsCell}
use Rattle.fab_legal.specs.Steps.{pin_wire}
use Rattle.fab_implementation.proofs.Inputs.{NamesLine}
use Rattle.fab_legal.specs.Nets.{Net, port_net, cell_net, net_of, IsNet, IsRoot, IsRightStart, IsRightName}
use Rattle.fab_legal.specs.Sinks.{packed_net}
use Rattle.fab_legal.specs.inner.Keeping.{port_number, numbered_pad}
use Rattle.fab_legal.specs.inner.Kept.{AreKept, site_at}
use Rattle.fab_legal.specs.inner.Tables.{entered_number}
use Rattle.fab_legal.specs.inner.Roots.{IsSmall, packed_id, net_number, tree_number, StartsAt, root_by, IsStart}
use Rattle.fab_legal.specs.declared.placed.Placed.{Placed}
use Rattle.fab_legal.proofs.Bindings.{differ_left}
use Rattle.fab_legal.proofs.Members.{from_mapped}
use Rattle.fab_legal.proofs.Once.{one_site, known_thing}
use Rattle.fab_legal.proofs.PortNumbers.{known_number, name_at, own_number, line_of_port}
use Rattle.fab_legal.proofs.ReachSearch.{set_in, in_set, entered_wire, entered_as}

same_port : (a b : List ℕ) → port_net a ≡ port_net b → a ≡ b
same_port a b e = cc

same_cell : (a b : ℕ) → cell_net a ≡ cell_net b → a ≡ b
same_cell a b e = cc

-- the name of an input at a place
place_name : (names : List (List ℕ)) (k : ℕ) → k < length names → IsAt names k (get_or names k [])
place_name names k inside = (inside, get_or_default names k (get_or names k []) [] inside)

module _ (fabric : PlainFabric) (packed : PlainPacked) (i : PlainImplementation) (placed : Placed) (made : IsWellMadePacked packed) (kept : AreKept packed i placed)
    (cells : CellsHaveSites fabric packed i) (ports : PortsHavePads fabric packed i) where
  inputs_differ : AllPairs (λ first second. first ≢ second) packed.inputs
  inputs_differ = differ_left packed.inputs (output_ports packed) made.ports_differ

  as_many_ins : length placed.ins.sites.items ≡ length packed.inputs
  as_many_ins = kept.ins.sites_are.as_many

  -- ---- the net of a tree

  -- the number of the port of a line
  line_number : (line : ℕ) → line < length i.ins → get_or (map (λ (l : ℕ × Site). l.0) placed.ins.lines.items) line 0 ≡ port_number packed.inputs (get_or (named i.ins) line [])
  line_number line inside =
      let d : Pad = ([], record { x = 0; y = 0; bel = 0 }) in
      let pad : Pad = get_or i.ins line d in
      let at : IsAt i.ins line pad = (inside, get_or_default i.ins line pad d inside) in
      let first = at_mapped (λ (l : ℕ × Site). l.0) (map (numbered_pad packed.inputs) i.ins) line (numbered_pad packed.inputs pad) (at_mapped (numbered_pad packed.inputs) i.ins line pad at) in
      let second = at_mapped (λ (l : Pad). l.0) i.ins line pad at in
      ap (λ (l : List (ℕ × Site)). get_or (map (λ (m : ℕ × Site). m.0) l) line 0) kept.ins.lines_are
      ∙ get_or_default (map (λ (l : ℕ × Site). l.0) (map (numbered_pad packed.inputs) i.ins)) line 0 (numbered_pad packed.inputs pad).0 first.0 ∙ first.1
      ∙ ap (port_number packed.inputs) (sym second.1 ∙ get_or_default (named i.ins) line pad.0 [] second.0)

  line_known : (line : ℕ) → line < length i.ins → Contains packed.inputs (get_or (named i.ins) line [])
  line_known line inside =
      let d : Pad = ([], record { x = 0; y = 0; bel = 0 }) in
      let pad : Pad = get_or i.ins line d in
      let at : IsAt i.ins line pad = (inside, get_or_default i.ins line pad d inside) in
      let second = at_mapped (λ (l : Pad). l.0) i.ins line pad at in
      subst (λ (n : List ℕ). Contains packed.inputs n) (sym (get_or_default (named i.ins) line [] pad.0 second.0 ∙ second.1))
      (known_thing (IsInput packed) fabric kinds.Io i.ins pad ports.ins.lines_right (line, at.0, at.1))

  abbrev id_of : NetId → NetId
  id_of net = packed_id placed.ins.lines.items net

  abbrev IsLine : NetId → Type 0
  IsLine net = (line : ℕ) → net ≡ ids.In line → line < length i.ins

  -- both ways of numbering inputs name the same net
  pub same_net : (net : NetId) → IsLine net → net_of i net ≡ packed_net packed (id_of net)
  same_net ids.Zero lines = refl
  same_net ids.One lines = refl
  same_net (ids.In line) lines =
      let inside = lines line refl in
      let known = line_known line inside in
      ap port_net (sym (name_at packed.inputs (get_or (named i.ins) line []) [] (known_number packed.inputs (get_or (named i.ins) line []) known))
      ∙ ap (λ (n : ℕ). get_or packed.inputs n []) (sym (line_number line inside)))
  same_net (ids.Cell number) lines = refl

  -- a net exists where its number is small
  pub small_exists : (net : NetId) → IsLine net → IsSmall placed (id_of net) → IsNet packed (net_of i net)
  small_exists ids.Zero lines small = tt
  small_exists ids.One lines small = tt
  small_exists (ids.In line) lines small = line_known line (lines line refl)
  small_exists (ids.Cell number) lines small = omega (arith, small, kept.cells.as_many)

  pub exists_small : (net : NetId) → IsLine net → IsNet packed (net_of i net) → IsSmall placed (id_of net)
  exists_small ids.Zero lines exists = tt
  exists_small ids.One lines exists = tt
  exists_small (ids.In line) lines exists =
      let inside = lines line refl in
      omega (arith, line_number line inside, known_number packed.inputs (get_or (named i.ins) line []) (line_known line inside), as_many_ins)
  exists_small (ids.Cell number) lines exists = omega (arith, exists, kept.cells.as_many)

  -- ---- numbers tell nets apart

  pub number_tells : (a b : NetId) → IsSmall placed a → IsSmall placed b → net_number placed a ≡ net_number placed b → a ≡ b
  number_tells ids.Zero ids.Zero small_a small_b same = refl
  number_tells ids.Zero ids.One small_a small_b same = absurd (omega (arith, same))
  number_tells ids.Zero (ids.In k) small_a small_b same = absurd (omega (arith, same))
  number_tells ids.Zero (ids.Cell k) small_a small_b same = absurd (omega (arith, same))
  number_tells ids.One ids.Zero small_a small_b same = absurd (omega (arith, same))
  number_tells ids.One ids.One small_a small_b same = refl
  number_tells ids.One (ids.In k) small_a small_b same = absurd (omega (arith, same))
  number_tells ids.One (ids.Cell k) small_a small_b same = absurd (omega (arith, same))
  number_tells (ids.In j) ids.Zero small_a small_b same = absurd (omega (arith, same))
  number_tells (ids.In j) ids.One small_a small_b same = absurd (omega (arith, same))
  number_tells (ids.In j) (ids.In k) small_a small_b same = ap (λ (n : ℕ). ids.In n) (omega (arith, same))
  number_tells (ids.In j) (ids.Cell k) small_a small_b same = absurd (omega (arith, same, small_a))
  number_tells (ids.Cell j) ids.Zero small_a small_b same = absurd (omega (arith, same))
  number_tells (ids.Cell j) ids.One small_a small_b same = absurd (omega (arith, same))
  number_tells (ids.Cell j) (ids.In k) small_a small_b same = absurd (omega (arith, same, small_b))
  number_tells (ids.Cell j) (ids.Cell k) small_a small_b same = ap (λ (n : ℕ). ids.Cell n) (omega (arith, same))

  -- the same net has the same number
  pub net_tells : (a b : NetId) → IsSmall placed a → IsSmall placed b → packed_net packed a ≡ packed_net packed b → a ≡ b
  net_tells ids.Zero ids.Zero small_a small_b same = refl
  net_tells ids.Zero ids.One small_a small_b same = cc
  net_tells ids.Zero (ids.In k) small_a small_b same = cc
  net_tells ids.Zero (ids.Cell k) small_a small_b same = cc
  net_tells ids.One ids.Zero small_a small_b same = cc
  net_tells ids.One ids.One small_a small_b same = refl
  net_tells ids.One (ids.In k) small_a small_b same = cc
  net_tells ids.One (ids.Cell k) small_a small_b same = cc
  net_tells (ids.In j) ids.Zero small_a small_b same = cc
  net_tells (ids.In j) ids.One small_a small_b same = cc
  net_tells (ids.In j) (ids.In k) small_a small_b same =
      let first = own_number packed.inputs (get_or packed.inputs j []) j inputs_differ (place_name packed.inputs j (omega (arith, small_a, as_many_ins))) in
      let second = own_number packed.inputs (get_or packed.inputs k []) k inputs_differ (place_name packed.inputs k (omega (arith, small_b, as_many_ins))) in
      ap (λ (n : ℕ). ids.In n) (sym first ∙ ap (port_number packed.inputs) (same_port (get_or packed.inputs j []) (get_or packed.inputs k []) same) ∙ second)
  net_tells (ids.In j) (ids.Cell k) small_a small_b same = cc
  net_tells (ids.Cell j) ids.Zero small_a small_b same = cc
  net_tells (ids.Cell j) ids.One small_a small_b same = cc
  net_tells (ids.Cell j) (ids.In k) small_a small_b same = cc
  net_tells (ids.Cell j) (ids.Cell k) small_a small_b same = ap (λ (n : ℕ). ids.Cell n) (same_cell j k same)

  -- ---- names in turn

  abbrev AreLines : List PlainTree → Type 0
  AreLines trees = (tree : PlainTree) → Contains trees tree → NamesLine i tree

  module _ (before : List PlainTree) (tree : PlainTree) (lines : AreLines before) (own : NamesLine i tree) where
    abbrev number_here : ℕ
    number_here = tree_number placed tree

    -- a new number is a new net
    pub name_right : ((other : PlainTree) → Contains before other → IsSmall placed (id_of other.net)) → IsSmall placed (id_of tree.net) → (Contains (map (tree_number placed) before) number_here → ⊥) →
        IsRightName packed i before tree
    name_right smalls small new = record {
      exists = small_exists tree.net own small;
      first = λ here.
          let other = from_mapped (λ (t : PlainTree). net_of i t.net) before (net_of i tree.net) here in
          let same : packed_net packed (id_of other.0.net) ≡ packed_net packed (id_of tree.net) = sym (same_net other.0.net (lines other.0 other.1)) ∙ other.2 ∙ same_net tree.net own in
          let id = net_tells (id_of other.0.net) (id_of tree.net) (smalls other.0 other.1) small same in
          new (subst (λ (n : ℕ). Contains (map (tree_number placed) before) n) (ap (net_number placed) id) (mapped_in (tree_number placed) before other.0 other.1));
    }

    pub right_new : ((other : PlainTree) → Contains before other → IsSmall placed (id_of other.net)) → IsRightName packed i before tree → Contains (map (tree_number placed) before) number_here → ⊥
    right_new smalls right here =
        let other = from_mapped (tree_number placed) before number_here here in
        let id = number_tells (id_of other.0.net) (id_of tree.net) (smalls other.0 other.1) (exists_small tree.net own right.exists) other.2 in
        let same : net_of i other.0.net ≡ net_of i tree.net = same_net other.0.net (lines other.0 other.1) ∙ ap (packed_net packed) id ∙ sym (same_net tree.net own) in
        right.first (subst (λ (n : Net). Contains (map (λ (t : PlainTree). net_of i t.net) before) n) same (mapped_in (λ (t : PlainTree). net_of i t.net) before other.0 other.1))

  -- ---- roots

  in_line : (k : ℕ) → k < length placed.ins.sites.items → Contains i.ins (get_or packed.inputs k [], site_at placed.ins.sites.items k)
  in_line k small =
      let d : Site = record { x = 0; y = 0; bel = 0 } in
      let inside : k < length packed.inputs = omega (arith, small, as_many_ins) in
      let name = get_or packed.inputs k [] in
      let number = own_number packed.inputs name k inputs_differ (place_name packed.inputs k inside) in
      subst (λ (n : ℕ). Contains i.ins (name, get_or placed.ins.sites.items n d)) number
      (line_of_port fabric packed.inputs i.ins placed.ins.sites.items (name, d) ports.ins kept.ins.sites_are name d (omega (arith, number, inside)))

  -- a net begins where its root is
  pub starts_root : (net : NetId) (wire : Wire) → IsSmall placed net → StartsAt fabric (root_by fabric placed net) wire → IsRoot fabric i (packed_net packed net) wire
  starts_root ids.Zero wire small starts = starts
  starts_root ids.One wire small starts = starts
  starts_root (ids.In k) wire small starts = record { site = site_at placed.ins.sites.items k; listed = in_line k small; wire_is = starts }
  starts_root (ids.Cell k) wire small starts =
      record { site = site_at placed.cells.items k; listed = kept.cells.each k (record { x = 0; y = 0; bel = 0 }) (omega (arith, small, kept.cells.as_many)); wire_is = starts }

  pub root_starts : (net : NetId) (wire : Wire) → IsSmall placed net → IsRoot fabric i (packed_net packed net) wire → StartsAt fabric (root_by fabric placed net) wire
  root_starts ids.Zero wire small is = is
  root_starts ids.One wire small is = is
  root_starts (ids.In k) wire small is =
      is.wire_is ∙ ap (λ (s : Site). pin_wire fabric s 2)
      (one_site (IsInput packed) fabric kinds.Io i.ins (get_or packed.inputs k []) is.site (site_at placed.ins.sites.items k) ports.ins.lines_right is.listed (in_line k small))
  root_starts (ids.Cell k) wire small is =
      is.wire_is ∙ ap (λ (s : Site). pin_wire fabric s 7)
      (one_site (IsCell packed) fabric kinds.Lut4c i.cells k is.site (site_at placed.cells.items k) cells.lines_right is.listed
      (kept.cells.each k (record { x = 0; y = 0; bel = 0 }) (omega (arith, small, kept.cells.as_many))))

  module _ (tree : PlainTree) (own : NamesLine i tree) (small : IsSmall placed (id_of tree.net)) (entered : List ℕ) (entered_are : entered ≡ insert_all nat_eq [] (map entered_number tree.edges)) where
    abbrev ByRoot : List Edge → Edge → Type 0
    ByRoot before edge = IsStart fabric (root_by fabric placed (id_of tree.net)) entered before edge

    start_right : (before : List Edge) (edge : Edge) → ByRoot before edge → IsRightStart fabric i tree before edge
    start_right before edge (inl here) =
        inl (entered_wire tree.edges edge.0.0 (set_in (map entered_number tree.edges) edge.0.0 (subst (λ (l : List ℕ). Contains l edge.0.0) entered_are here)))
    start_right before edge (inr starts) =
        inr (subst (λ (n : Net). IsRoot fabric i n edge.0) (sym (same_net tree.net own)) (starts_root (id_of tree.net) edge.0 small starts))

    right_start : (before : List Edge) (edge : Edge) → IsRightStart fabric i tree before edge → ByRoot before edge
    right_start before edge (inl here) =
        inl (subst (λ (l : List ℕ). Contains l edge.0.0) (sym entered_are) (in_set (map entered_number tree.edges) edge.0.0 (entered_as tree.edges edge.0 here)))
    right_start before edge (inr is) =
        inr (root_starts (id_of tree.net) edge.0 small (subst (λ (n : Net). IsRoot fabric i n edge.0) (same_net tree.net own) is))

    pub starts_right : AreRight ByRoot tree.edges → AreRight (IsRightStart fabric i tree) tree.edges
    starts_right right = λ place edge below at. start_right (take place tree.edges) edge (right place edge below at)

    pub starts_wrong : (place : ℕ) → IsFirstWrongAt ByRoot tree.edges place → IsFirstWrongAt (IsRightStart fabric i tree) tree.edges place
    starts_wrong place first = record {
      inside = first.inside;
      wrong = λ edge at right. first.wrong edge at (right_start (take place tree.edges) edge right);
      before = λ earlier edge below at. start_right (take earlier tree.edges) edge (first.before earlier edge below at);
    }
