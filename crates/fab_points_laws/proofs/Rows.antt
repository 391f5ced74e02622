-- All route, cell and pad points on one list, each with a source.
use Rattle.std.proofs.Common.{◌≡◌, ◌⊎◌, ℕ, zero, suc, ◌+◌, ◌<◌, ◌≤◌, false, List, [], ◌∷◌, ◌++◌, codes, length, map, get_or, refl, sym, ap, ◌∙◌, subst, inl, inr, arith, Option, Some, None, All, Contains}
use Rattle.std.proofs.lemmas.Bool.{cases_Bool, cases_lt, false≢true}
use Rattle.std.proofs.lemmas.List.{get_or_default}
use Rattle.std.proofs.lemmas.List.Elements.{All-nil, All-cons, All-append, All-contains, Contains-append_left, Contains-append_right}
use Rattle.fab_kinds.specs.declared.kind.Kind.TheVariants as kinds
use Rattle.fab_meaning.specs.Points.{Point, point}
use Rattle.fab_meaning.proofs.Modules.{each_all}
use Rattle.fab_model.specs.Rows.{is_jump, border_bits, IsWireRow}
use Rattle.fab_model.specs.Tiles.{PlainTile}
use Rattle.fab_model.specs.Wires.{PlainWire, source_of, dest_of, pin_of}
use Rattle.fab_model.specs.Grid.{PlainFabric, tile_at, AreRows, AllRows}
use Rattle.fab_model.specs.Joins.{comes, goes}
use Rattle.fab_model.specs.Cascade.{PlacedRow, placed_row, previous_row, passing_bits, opposite}
use Rattle.fab_model.specs.Tiles.{IsTile}
use Rattle.fab_model.proofs.Crossings.{partner_is, goes_from, standing_is_wire_row}
use Rattle.std.proofs.lemmas.List.Elements.{All-weaker}
use Rattle.fab_fabric.specs.Fabric.{AreTiles, wire_count}
use Rattle.fab_fabric.specs.Wires.{IsIndexOf, row_place}
use Rattle.fab_fabric.specs.declared.wire.Site.{Site}
use Rattle.fab_fabric.specs.declared.wire.Wire.{Wire}
use Rattle.fab_fabric.proofs.Numbered.{one_wire, some_wire, wire_within}
use Rattle.fab_netlist.specs.Packed.{PlainCell, PlainPacked}
use Rattle.fab_use_defs.specs.fab_implementation_Plain.{Pad, PlainTree, PlainImplementation}
use Rattle.fab_use_defs.specs.fab_legal_WellMade.{IsWellMadePacked}
use Rattle.fab_use_defs.specs.fab_legal_Lines.{IsCell}
use Rattle.fab_use_defs.specs.fab_legal_Nets.{net_of, left_wires, entered_wires}
use Rattle.fab_use_defs.specs.fab_legal_Legal.{IsLegal}
use Rattle.fab_use_defs.proofs.fab_legal_Lists.{same_at}
use Rattle.fab_use_defs.proofs.fab_legal_Members.{from_mapped}
use Rattle.fab_use_defs.proofs.fab_legal_Once.{known_thing}
use Rattle.fab_prim.specs.Modules.{flip_flop_name}
use Rattle.fab_use_defs.specs.fab_gen_tile_TileModule.{matrix_output_names}
use Rattle.fab_use_defs.specs.fab_tile_drives_laws_Stands.{matrix_path, name_of, wire_point}
use Rattle.fab_use_defs.proofs.fab_tile_drives_laws_BorderBits.{passing_within}
use Rattle.fab_use_defs.specs.fab_drives_laws_Points.{place_path, IsOnWay, end_bit, wire_between, begin_bit, before}
use Rattle.fab_use_defs.proofs.fab_drives_laws_Lists.{first_or_later, none_there}
use Rattle.fab_use_defs.proofs.fab_tile_drives_laws_Members.{contains_first, contains_later, contains_map}
use Rattle.fab_use_defs.specs.Design as design
use Rattle.fab_use_defs.specs.Sites.{bel_point}
use Rattle.fab_use_defs.specs.Design.{IsTreeWire, IsSourced, IsRoutePoint, IsBound, required_pins, IsCellPoint, input_pad, output_pad, IsPadPoint}
use Rattle.fab_use_defs.specs.Ways as ways
use Rattle.fab_use_defs.specs.Sources.{Source, HasSource}
use Rattle.fab_use_defs.specs.Ways.{Passes, IsTreeWay}
use Rattle.fab_points_laws.proofs.Places.{one_tile}
use Rattle.fab_points_laws.proofs.Ways.{side_in_border, way_comes}
use Rattle.fab_points_laws.proofs.Covers.{way_through, route_sourced, cell_sourced}
use Rattle.fab_points_laws.proofs.ReadPoints.{pad_sourced, in_tile, out_tile}

module _ (fabric : PlainFabric) (packed : PlainPacked) (implementation : PlainImplementation) where
  abbrev Routed : Point → Type 0
  Routed p = IsSourced fabric packed implementation p

  -- a route, cell or pad point and its source
  abbrev Sound : Point × Source → Type 0
  Sound row = HasSource fabric packed implementation row.0 row.1 × Routed row.0

  abbrev Sourced : Point → Type 0
  Sourced p = (s : Source) × Sound (p, s)

  -- a list of points with sources that has all points of a set
  pub record Tabled (Q : Point → Type 0) : Type 0 where
    pub rows : List (Point × Source)
    pub sound : All Sound rows
    pub complete : (p : Point) → Q p → (s : Source) × Contains rows (p, s)

  no_rows : (Q : Point → Type 0) → ((p : Point) → Q p → ⊥) → Tabled Q
  no_rows Q none = record { rows = []; sound = All-nil Sound; complete = λ p is. absurd (none p is) }

  one_row : (Q : Point → Type 0) (q : Point) → Sourced q → ((p : Point) → Q p → p ≡ q) → Tabled Q
  one_row Q q found only = record {
    rows = (q, found.0) ∷ [];
    sound = All-cons Sound (q, found.0) [] found.1 (All-nil Sound);
    complete = λ p is. (found.0, subst (λ r. Contains {X = Point × Source} ((q, found.0) ∷ []) (r, found.0)) (sym (only p is)) (contains_first (q, found.0) []));
  }

  both_rows : (Q R S : Point → Type 0) → Tabled Q → Tabled R → ((p : Point) → S p → Q p ⊎ R p) → Tabled S
  both_rows Q R S first second cases = record {
    rows = first.rows ++ second.rows;
    sound = All-append Sound first.rows second.rows first.sound second.sound;
    complete = λ p is. elim (cases p is) [
      | inl q ↦ (let found = first.complete p q in (found.0, Contains-append_left first.rows second.rows (p, found.0) found.1))
      | inr r ↦ (let found = second.complete p r in (found.0, Contains-append_right first.rows second.rows (p, found.0) found.1))
    ];
  }

  fewer_rows : (Q R : Point → Type 0) → Tabled Q → ((p : Point) → R p → Q p) → Tabled R
  fewer_rows Q R table among = record { rows = table.rows; sound = table.sound; complete = λ p is. table.complete p (among p is) }

  -- for each element of a list
  each_rows : {X : Type 0} (xs : List X) (R : X → Point → Type 0) → ((x : X) → Contains xs x → Tabled (R x)) → Tabled (λ p. (x : X) × Contains xs x × R x p)
  each_rows [] R each = no_rows (λ p. (x : _) × Contains [] x × R x p) (λ p is. none_there is.0 is.1)
  each_rows {X} (first ∷ xs) R each =
      both_rows (R first) (λ p. (x : X) × Contains xs x × R x p) (λ p. (x : X) × Contains (first ∷ xs) x × R x p)
      (each first (contains_first first xs))
      (each_rows xs R (λ x there. each x (contains_later first xs x there)))
      (λ p is. elim (first_or_later first xs is.0 is.1) [
        | inl same ↦ inl (subst (λ x. R x p) (sym same) is.2)
        | inr later ↦ inr (is.0, later, is.2)
      ])

  -- points that stand on a list
  listed_rows : (ps : List Point) → ((p : Point) → Contains ps p → Sourced p) → Tabled (Contains ps)
  listed_rows [] each = no_rows (Contains []) (λ p is. none_there p is)
  listed_rows (q ∷ ps) each =
      both_rows (λ p. p ≡ q) (Contains ps) (Contains (q ∷ ps))
      (one_row (λ p. p ≡ q) q (each q (contains_first q ps)) (λ p is. is))
      (listed_rows ps (λ p there. each p (contains_later q ps p there)))
      (λ p is. elim (first_or_later q ps p is) [ inl same ↦ inl (sym same) | inr later ↦ inr later ])

  module _ (fixed : List Pad) (are : AreTiles fabric) (legal : IsLegal fabric packed fixed implementation) (made : IsWellMadePacked packed) where
    rows_are : AreRows fabric
    rows_are = All-weaker IsTile AllRows (λ tile is. is.rows) fabric.types are

    routed : (p : Point) → IsRoutePoint fabric implementation p → Sourced p
    routed p is = (let found = route_sourced fabric packed fixed implementation are legal p is in (found.0, (found.1, inl is)))

    cell_routed : (p : Point) → IsCellPoint packed implementation p → Sourced p
    cell_routed p is = (let found = cell_sourced fabric packed fixed implementation are legal p is in (found.0, (found.1, inr (inl is))))

    pad_routed : (p : Point) → IsPadPoint fabric implementation p → Sourced p
    pad_routed p is = (let found = pad_sourced fabric packed fixed implementation are legal made p is in (found.0, (found.1, inr (inr is))))

    -- ---- ways

    module _ (x y row bit : ℕ) (tile : PlainTile) (here : PlacedRow) (tree : IsTreeWire fabric implementation x y tile (dest_of row bit)) (placed_is : placed_row fabric (row_place x y row) ≡ Some here)
        (no_jump : is_jump here.row.dir ≡ false) where
      on_way : (at : PlacedRow) (n : ℕ) → Passes fabric here bit at n → (p : Point) → IsOnWay fabric at n p → Sourced p
      on_way at n passes p is =
          routed p (design.between tree placed_is no_jump (way_through fabric here bit at n p passes is))

      module _ (at : PlacedRow) (n : ℕ) (passes : Passes fabric here bit at n) where
        -- nothing before the row
        at_border : previous_row fabric at ≡ None → Tabled (IsOnWay fabric at n)
        at_border none = one_row (IsOnWay fabric at n) (ways.end_port at n) (on_way at n passes (ways.end_port at n) end_bit) only
          where
            only : (p : Point) → IsOnWay fabric at n p → p ≡ ways.end_port at n
            only p end_bit = refl
            only p (wire_between is) = absurd (let e = sym none ∙ is in cc)
            only p (begin_bit is) = absurd (let e = sym none ∙ is in cc)
            only p (before is few rest) = absurd (let e = sym none ∙ is in cc)

        module _ (previous : PlacedRow) (is : previous_row fabric at ≡ Some previous) where
          abbrev Further : Point → Type 0
          Further p = (n < passing_bits previous.row) × IsOnWay fabric previous (n + previous.row.count) p

          same_previous : (other : PlacedRow) → previous_row fabric at ≡ Some other → other ≡ previous
          same_previous other there = (let e : Some other ≡ Some previous = sym there ∙ is in cc)

          beside : Tabled Further → Tabled (IsOnWay fabric at n)
          beside further =
              let three = ways.end_port at n ∷ ways.begin_wire previous n ∷ ways.begin_port previous n ∷ [] in
              both_rows (Contains three) Further (IsOnWay fabric at n)
              (listed_rows three (λ p there. All-contains Sourced three p
              (each_all Sourced three
              (on_way at n passes (ways.end_port at n) end_bit, (on_way at n passes (ways.begin_wire previous n) (wire_between is), (on_way at n passes (ways.begin_port previous n) (begin_bit is), tt)))) there))
              further cases
            where
              cases : (p : Point) → IsOnWay fabric at n p → Contains (ways.end_port at n ∷ ways.begin_wire previous n ∷ ways.begin_port previous n ∷ []) p ⊎ Further p
              cases p end_bit = inl (0, omega arith, refl)
              cases p (wire_between {here} {previous} there) = inl (1, omega arith, ap (λ (r : PlacedRow). ways.begin_wire r n) (sym (same_previous previous there)))
              cases p (begin_bit {here} {previous} there) = inl (2, omega arith, ap (λ (r : PlacedRow). ways.begin_port r n) (sym (same_previous previous there)))
              cases p (before {here} {previous} there few rest) = (
                  let same = same_previous previous there in
                  inr (subst (λ (r : PlacedRow). n < passing_bits r.row) same few, subst (λ (r : PlacedRow). IsOnWay fabric r (n + r.row.count) p) same rest))

      way_rows : (fuel : ℕ) (at : PlacedRow) (n : ℕ) (previous : Option PlacedRow) → previous_row fabric at ≡ previous → Passes fabric here bit at n → is_jump at.row.dir ≡ false →
          n < border_bits at.row → border_bits at.row ≤ fuel + n → Tabled (IsOnWay fabric at n)
      way_rows fuel at n None is passes other few enough = at_border at n passes is
      way_rows zero at n (Some previous) is passes other few enough = absurd (omega (arith, few, enough))
      way_rows (suc fuel) at n (Some previous) is passes other few enough =
          let partner = partner_is comes goes fabric at previous (opposite at.row.dir) is in
          let out = goes_from at.row.dir previous.row partner.nth.1 in
          let previous_no_jump : is_jump previous.row.dir ≡ false = ap is_jump out.0 ∙ other in
          let row_is : IsWireRow previous.row = standing_is_wire_row fabric previous rows_are partner.stands in
          elim (cases_lt n (passing_bits previous.row)) [
            | inl passing ↦ (
                let small : n + previous.row.count < border_bits previous.row = side_in_border previous.row previous.row.dest (n + previous.row.count) (passing_within previous.row row_is previous_no_jump n passing) in
                let some = row_is.has_wires in
                let same = partner.equal in
                let rest = way_rows fuel previous (n + previous.row.count) (previous_row fabric previous) refl (ways.came passes is passing) previous_no_jump small (omega (arith, enough, same, some)) in
                beside at n passes previous is (fewer_rows (IsOnWay fabric previous (n + previous.row.count)) (Further at n passes previous is) rest (λ p f. f.1)))
            | inr past ↦ beside at n passes previous is (no_rows (Further at n passes previous is) (λ p f. (let less = f.0 in omega (arith, less, past))))
          ]

      whole_way : bit < border_bits here.row → Tabled (IsOnWay fabric here bit)
      whole_way few = way_rows (border_bits here.row) here bit (previous_row fabric here) refl ways.ends no_jump few (omega arith)

    -- ---- wires of trees

    -- a wire with the row or the BEL that it is of
    record At (w : Wire) : Type 0 where
      x : ℕ
      y : ℕ
      tile : PlainTile
      plain : PlainWire
      tree : IsTreeWire fabric implementation x y tile plain
      same : tree.wire ≡ w

    index_of_at : (w : Wire) (a : At w) → IsIndexOf fabric w.0 a.x a.y a.plain
    index_of_at w a = subst (λ (v : Wire). IsIndexOf fabric v.0 a.x a.y a.plain) a.same a.tree.is_index

    abbrev AtTile : Wire → Point → Type 0
    AtTile w p = (a : At w) × (p ≡ wire_point (place_path a.x a.y) a.tile a.plain)

    abbrev AtMatrix : Wire → Point → Type 0
    AtMatrix w p = (a : At w) × (0 < length (matrix_output_names a.tile)) × (p ≡ point (matrix_path (place_path a.x a.y)) (name_of a.tile a.plain) 0)

    abbrev AtWay : Wire → Point → Type 0
    AtWay w p =
        (a : At w) × (row : ℕ) × (bit : ℕ) × (here : PlacedRow) × (a.plain ≡ dest_of row bit) × (placed_row fabric (row_place a.x a.y row) ≡ Some here) × (is_jump here.row.dir ≡ false)
        × IsOnWay fabric here bit p

    one_at : (w : Wire) (a b : At w) → (a.x ≡ b.x) × (a.y ≡ b.y) × (a.plain ≡ b.plain) × (a.tile ≡ b.tile)
    one_at w a b =
        let g = one_wire fabric w.0 a.x a.y b.x b.y a.plain b.plain (index_of_at w a) (index_of_at w b) in
        (g.0, g.1, g.2, one_tile fabric b.x b.y a.tile b.tile ((λ j. tile_at fabric (sym g.0 j) (sym g.1 j)) ∙ a.tree.tile_is) b.tree.tile_is)

    tile_rows : (w : Wire) → At w → Tabled (AtTile w)
    tile_rows w b =
        one_row (AtTile w) (wire_point (place_path b.x b.y) b.tile b.plain) (routed (wire_point (place_path b.x b.y) b.tile b.plain) (design.in_tile b.tree))
        (λ p is. (let g = one_at w is.0 b in is.1 ∙ (λ j. wire_point (place_path (g.0 j) (g.1 j)) (g.3 j) (g.2 j))))

    matrix_rows : (w : Wire) → At w → Tabled (AtMatrix w)
    matrix_rows w b =
        let q = point (matrix_path (place_path b.x b.y)) (name_of b.tile b.plain) 0 in
        elim (cases_lt 0 (length (matrix_output_names b.tile))) [
          | inl some ↦ one_row (AtMatrix w) q (routed q (design.in_matrix b.tree some))
              (λ p is. (let g = one_at w is.0 b in is.2 ∙ (λ j. point (matrix_path (place_path (g.0 j) (g.1 j))) (name_of (g.3 j) (g.2 j)) 0)))
          | inr none ↦ no_rows (AtMatrix w) (λ p is. (let g = one_at w is.0 b in let some : 0 < length (matrix_output_names b.tile) = subst (λ tile. 0 < length (matrix_output_names tile)) g.3 is.1 in omega arith))
        ]

    dest_same : {a c n m : ℕ} → dest_of a n ≡ dest_of c m → (a ≡ c) × (n ≡ m)
    dest_same is = (cc, cc)

    way_of : (w : Wire) (b : At w) (plain : PlainWire) → b.plain ≡ plain → Tabled (AtWay w)
    way_of w b (source_of row bit) is = no_rows (AtWay w) (λ p way. (let g = one_at w way.0 b in let e : dest_of way.1 way.2 ≡ source_of row bit = sym way.4 ∙ g.2 ∙ is in cc))
    way_of w b (pin_of bel pin) is = no_rows (AtWay w) (λ p way. (let g = one_at w way.0 b in let e : dest_of way.1 way.2 ≡ pin_of bel pin = sym way.4 ∙ g.2 ∙ is in cc))
    way_of w b (dest_of row bit) is = of (placed_row fabric (row_place b.x b.y row)) refl
      where
        placed_same : (p : Point) (way : AtWay w p) → (placed_row fabric (row_place b.x b.y row) ≡ Some way.3) × (way.2 ≡ bit)
        placed_same p way =
            let g = one_at w way.0 b in
            let d = dest_same (sym way.4 ∙ g.2 ∙ is) in
            ((λ j. placed_row fabric (row_place (sym g.0 j) (sym g.1 j) (sym d.0 j))) ∙ way.5, d.1)

        few_of : (x y row bit : ℕ) (tile : PlainTile) (here : PlacedRow) → IsTreeWire fabric implementation x y tile (dest_of row bit) → placed_row fabric (row_place x y row) ≡ Some here →
            is_jump here.row.dir ≡ false → bit < border_bits here.row
        few_of x y row bit tile here tree placed_is no_jump =
            let way : IsTreeWay fabric implementation here bit =
            record { x = x; y = y; row = row; bit = bit; tile = tile; here = here; wire = tree; placed = placed_is; no_jump = no_jump; passes = ways.ends } in
            let c = way_comes fabric rows_are implementation here bit way in
            side_in_border here.row here.row.dest bit c.few

        of : (o : Option PlacedRow) → placed_row fabric (row_place b.x b.y row) ≡ o → Tabled (AtWay w)
        of None none = no_rows (AtWay w) (λ p way. (let e : None ≡ Some way.3 = sym none ∙ (placed_same p way).0 in cc))
        of (Some here) there =
            let here_is : (p : Point) (way : AtWay w p) → way.3 ≡ here = λ p way. (let e : Some way.3 ≡ Some here = sym (placed_same p way).0 ∙ there in cc) in
            let tree : IsTreeWire fabric implementation b.x b.y b.tile (dest_of row bit) = subst (IsTreeWire fabric implementation b.x b.y b.tile) is b.tree in
            elim (cases_Bool (is_jump here.row.dir)) [
              | inl jumps ↦ no_rows (AtWay w) (λ p way. false≢true (sym way.6 ∙ ap (λ (h : PlacedRow). is_jump h.row.dir) (here_is p way) ∙ jumps))
              | inr no_jump ↦ elim (cases_lt bit (border_bits here.row)) [
                | inl few ↦ fewer_rows (IsOnWay fabric here bit) (AtWay w) (whole_way b.x b.y row bit b.tile here tree there no_jump few)
                    (λ p way. subst (λ n. IsOnWay fabric here n p) (placed_same p way).1 (subst (λ h. IsOnWay fabric h way.2 p) (here_is p way) way.7))
                | inr past ↦ absurd (omega (arith, past, few_of b.x b.y row bit b.tile here tree there no_jump))
              ]
            ]

    abbrev AtWire : Wire → Point → Type 0
    AtWire w p = AtTile w p ⊎ (AtMatrix w p ⊎ AtWay w p)

    wire_rows : (tree : PlainTree) → Contains implementation.trees tree → (w : Wire) → Contains (left_wires tree.edges ++ entered_wires tree.edges) w → Tabled (AtWire w)
    wire_rows tree listed w among =
        elim (cases_lt w.0 (wire_count fabric)) [
          | inl few ↦ (
              let g = some_wire fabric w.0 few in
              let b : At w = record {
                x = g.0;
                y = g.1;
                tile = g.3.is_wire.tile;
                plain = g.2;
                tree = record {
                  net = net_of implementation tree.net;
                  wire = w;
                  stands = record { tree = tree; listed = listed; net_is = refl; has_wire = among };
                  is_index = g.3;
                  tile_is = g.3.is_wire.tile_is;
                };
                same = refl;
              } in
              both_rows (AtTile w) (λ p. AtMatrix w p ⊎ AtWay w p) (AtWire w) (tile_rows w b)
              (both_rows (AtMatrix w) (AtWay w) (λ p. AtMatrix w p ⊎ AtWay w p) (matrix_rows w b) (way_of w b b.plain refl) (λ p is. is)) (λ p is. is))
          | inr past ↦ no_rows (AtWire w) (λ p is. (
              let none : At w → ⊥ = λ a. (let inside = wire_within fabric w.0 a.x a.y a.plain (index_of_at w a) in omega (arith, inside, past)) in
              elim is [ inl a ↦ none a.0 | inr more ↦ elim more [ inl a ↦ none a.0 | inr a ↦ none a.0 ] ]))
        ]

    abbrev at_tree : (x y : ℕ) (tile : PlainTile) (plain : PlainWire) (t : IsTreeWire fabric implementation x y tile plain) → At t.wire
    at_tree x y tile plain t = record { x = x; y = y; tile = tile; plain = plain; tree = t; same = refl }

    abbrev InTrees : Point → Type 0
    InTrees p = (tree : PlainTree) × Contains implementation.trees tree × ((w : Wire) × Contains (left_wires tree.edges ++ entered_wires tree.edges) w × AtWire w p)

    pub route_rows : Tabled (IsRoutePoint fabric implementation)
    route_rows =
        fewer_rows InTrees (IsRoutePoint fabric implementation)
        (each_rows implementation.trees (λ tree p. (w : Wire) × Contains (left_wires tree.edges ++ entered_wires tree.edges) w × AtWire w p)
        (λ tree listed. each_rows (left_wires tree.edges ++ entered_wires tree.edges) AtWire (wire_rows tree listed))) in_trees
      where
        in_trees : (p : Point) → IsRoutePoint fabric implementation p → InTrees p
        in_trees p (design.in_tile {x} {y} {tile} {plain} t) = (t.stands.tree, t.stands.listed, (t.wire, t.stands.has_wire, inl (at_tree x y tile plain t, refl)))
        in_trees p (design.in_matrix {x} {y} {tile} {plain} t some) = (t.stands.tree, t.stands.listed, (t.wire, t.stands.has_wire, inr (inl (at_tree x y tile plain t, some, refl))))
        in_trees p (design.between {x} {y} {row} {bit} {tile} {here} t placed_is no_jump way) =
            (t.stands.tree, t.stands.listed, (t.wire, t.stands.has_wire, inr (inr (at_tree x y tile (dest_of row bit) t, row, bit, here, refl, placed_is, no_jump, way))))

    -- ---- cells

    abbrev OfCell : ℕ × Site → PlainCell → Point → Type 0
    OfCell line cell p =
        Contains (map (bel_point line.1) (required_pins cell)) p ⊎ (Contains (bel_point line.1 (codes "t") ∷ bel_point line.1 (codes "O") ∷ []) p
        ⊎ (((0 < length cell.inputs) × (p ≡ bel_point line.1 (codes "x"))) ⊎ ((init : ℕ) × (cell.latch ≡ Some init) × (p ≡ bel_point line.1 flip_flop_name))))

    abbrev AtCell : ℕ × Site → Point → Type 0
    AtCell line p = (cell : PlainCell) × IsBound packed implementation line.0 line.1 cell × OfCell line cell p

    index_rows : (line : ℕ × Site) (cell : PlainCell) → IsBound packed implementation line.0 line.1 cell → Tabled (λ p. (0 < length cell.inputs) × (p ≡ bel_point line.1 (codes "x")))
    index_rows line cell bound =
        elim (cases_lt 0 (length cell.inputs)) [
          | inl some ↦ one_row (λ p. (0 < length cell.inputs) × (p ≡ bel_point line.1 (codes "x"))) (bel_point line.1 (codes "x")) (cell_routed (bel_point line.1 (codes "x")) (design.at_index bound some)) (λ p is. is.1)
          | inr none ↦ no_rows (λ p. (0 < length cell.inputs) × (p ≡ bel_point line.1 (codes "x"))) (λ p is. (let few = is.0 in omega (arith, few, none)))
        ]

    register_rows : (line : ℕ × Site) (cell : PlainCell) → IsBound packed implementation line.0 line.1 cell → (latch : Option ℕ) → cell.latch ≡ latch →
        Tabled (λ p. (init : ℕ) × (cell.latch ≡ Some init) × (p ≡ bel_point line.1 flip_flop_name))
    register_rows line cell bound None bare = no_rows (λ p. (init : ℕ) × (cell.latch ≡ Some init) × (p ≡ bel_point line.1 flip_flop_name)) (λ p is. (let e : None ≡ Some is.0 = sym bare ∙ is.1 in cc))
    register_rows line cell bound (Some init) latched =
        one_row (λ p. (init : ℕ) × (cell.latch ≡ Some init) × (p ≡ bel_point line.1 flip_flop_name)) (bel_point line.1 flip_flop_name)
        (cell_routed (bel_point line.1 flip_flop_name) (design.at_flip_flop bound latched)) (λ p is. is.2)

    bound_rows : (line : ℕ × Site) (cell : PlainCell) → IsBound packed implementation line.0 line.1 cell → Tabled (OfCell line cell)
    bound_rows line cell bound =
        let pins = map (bel_point line.1) (required_pins cell) in
        let two = bel_point line.1 (codes "t") ∷ bel_point line.1 (codes "O") ∷ [] in
        let Index : Point → Type 0 = λ p. (0 < length cell.inputs) × (p ≡ bel_point line.1 (codes "x")) in
        let Register : Point → Type 0 = λ p. (init : ℕ) × (cell.latch ≡ Some init) × (p ≡ bel_point line.1 flip_flop_name) in
        both_rows (Contains pins) (λ p. Contains two p ⊎ (Index p ⊎ Register p)) (OfCell line cell)
        (listed_rows pins (λ p there. (
        let found = from_mapped (bel_point line.1) (required_pins cell) p there in
        subst Sourced found.2 (cell_routed (bel_point line.1 found.0) (design.at_pin bound found.1)))))
        (both_rows (Contains two) (λ p. Index p ⊎ Register p) (λ p. Contains two p ⊎ (Index p ⊎ Register p))
        (listed_rows two (λ p there. All-contains Sourced two p
        (each_all Sourced two (cell_routed (bel_point line.1 (codes "t")) (design.at_table bound), (cell_routed (bel_point line.1 (codes "O")) (design.at_output bound), tt))) there))
        (both_rows Index Register (λ p. Index p ⊎ Register p) (index_rows line cell bound) (register_rows line cell bound cell.latch refl) (λ p is. is)) (λ p is. is)) (λ p is. is)

    line_rows : (line : ℕ × Site) → Contains implementation.cells line → Tabled (AtCell line)
    line_rows line listed =
        let few : line.0 < length packed.cells = known_thing (IsCell packed) fabric kinds.Lut4c implementation.cells line legal.placed.cells.lines_right listed in
        let cell = get_or packed.cells line.0 (record { table = 0; inputs = []; latch = None }) in
        let bound : IsBound packed implementation line.0 line.1 cell =
        record { listed = listed; cell_is = (few, get_or_default packed.cells line.0 cell (record { table = 0; inputs = []; latch = None }) few) } in
        fewer_rows (OfCell line cell) (AtCell line) (bound_rows line cell bound)
        (λ p is. subst (λ c. OfCell line c p) (same_at packed.cells line.0 is.0 cell is.1.cell_is bound.cell_is) is.2)

    cell_rows : Tabled (IsCellPoint packed implementation)
    cell_rows = fewer_rows (λ p. (line : ℕ × Site) × Contains implementation.cells line × AtCell line p) (IsCellPoint packed implementation) (each_rows implementation.cells AtCell line_rows) among
      where
        among : (p : Point) → IsCellPoint packed implementation p → (line : ℕ × Site) × Contains implementation.cells line × AtCell line p
        among p (design.at_pin {cell_number} {site} {cell} {name} bound there) = ((cell_number, site), bound.listed, (cell, bound, inl (contains_map (bel_point site) (required_pins cell) name there)))
        among p (design.at_table {cell_number} {site} {cell} bound) = ((cell_number, site), bound.listed, (cell, bound, inr (inl (0, omega arith, refl))))
        among p (design.at_output {cell_number} {site} {cell} bound) = ((cell_number, site), bound.listed, (cell, bound, inr (inl (1, omega arith, refl))))
        among p (design.at_index {cell_number} {site} {cell} bound some) = ((cell_number, site), bound.listed, (cell, bound, inr (inr (inl (some, refl)))))
        among p (design.at_flip_flop {cell_number} {init} {site} {cell} bound latched) = ((cell_number, site), bound.listed, (cell, bound, inr (inr (inr (init, latched, refl)))))

    -- ---- pads

    abbrev AtPad : (PlainTile → Site → List Point) → Pad → Point → Type 0
    AtPad points pad p = (tile : PlainTile) × (tile_at fabric pad.1.x pad.1.y ≡ Some tile) × Contains (points tile pad.1) p

    in_rows : (pad : Pad) → Contains implementation.ins pad → Tabled (AtPad input_pad pad)
    in_rows pad listed =
        let at = in_tile fabric packed fixed implementation are legal made pad.0 pad.1 listed in
        fewer_rows (Contains (input_pad at.0 pad.1)) (AtPad input_pad pad) (listed_rows (input_pad at.0 pad.1) (λ p there. pad_routed p (design.of_input listed at.1 there)))
        (λ p is. subst (λ tile. Contains (input_pad tile pad.1) p) (one_tile fabric pad.1.x pad.1.y is.0 at.0 is.1 at.1) is.2)

    out_rows : (pad : Pad) → Contains implementation.outs pad → Tabled (AtPad output_pad pad)
    out_rows pad listed =
        let at = out_tile fabric packed fixed implementation are legal made pad.0 pad.1 listed in
        fewer_rows (Contains (output_pad at.0 pad.1)) (AtPad output_pad pad) (listed_rows (output_pad at.0 pad.1) (λ p there. pad_routed p (design.of_output listed at.1 there)))
        (λ p is. subst (λ tile. Contains (output_pad tile pad.1) p) (one_tile fabric pad.1.x pad.1.y is.0 at.0 is.1 at.1) is.2)

    pad_rows : Tabled (IsPadPoint fabric implementation)
    pad_rows =
        both_rows (λ p. (pad : Pad) × Contains implementation.ins pad × AtPad input_pad pad p) (λ p. (pad : Pad) × Contains implementation.outs pad × AtPad output_pad pad p)
        (IsPadPoint fabric implementation) (each_rows implementation.ins (AtPad input_pad) in_rows) (each_rows implementation.outs (AtPad output_pad) out_rows) cases
      where
        cases : (p : Point) → IsPadPoint fabric implementation p →
            ((pad : Pad) × Contains implementation.ins pad × AtPad input_pad pad p) ⊎ ((pad : Pad) × Contains implementation.outs pad × AtPad output_pad pad p)
        cases p (design.of_input {port} {site} {tile} listed there among) = inl ((port, site), listed, (tile, there, among))
        cases p (design.of_output {port} {site} {tile} listed there among) = inr ((port, site), listed, (tile, there, among))

    -- ---- all of them

    pub design_rows : Tabled Routed
    design_rows =
        both_rows (IsRoutePoint fabric implementation) (λ p. IsCellPoint packed implementation p ⊎ IsPadPoint fabric implementation p) Routed route_rows
        (both_rows (IsCellPoint packed implementation) (IsPadPoint fabric implementation) (λ p. IsCellPoint packed implementation p ⊎ IsPadPoint fabric implementation p) cell_rows pad_rows (λ p is. is)) (λ p is. is)
