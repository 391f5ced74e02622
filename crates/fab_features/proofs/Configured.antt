-- The bits of a design's cells and edges are its configuration.
use Rattle.std.proofs.Common.{◌≡◌, ℕ, zero, suc, ◌+◌, ◌-◌, ◌<◌, ◌≤◌, ◌/◌, ◌%◌, ◌^◌, Bool, true, false, List, [], ◌∷◌, ◌++◌, length, get_or, Some, is_some, nat_eq, slice_get, sym, refl, ap, ◌∙◌, subst, inl, inr, arith, Contains, eqb-true}
use Rattle.std.specs.List.{list_any}
use Rattle.std.specs.Option.{option_and_then}
use Rattle.std.proofs.lemmas.Bool.{false≢true}
use Rattle.std.proofs.lemmas.List.Sums.{passes_at_first}
use Rattle.std.proofs.lemmas.Nat.{shr-shr}
use Rattle.std.proofs.Math.Nat.{div-one}
use Rattle.fab_bits.specs.Bits.{digits, first_bits}
use Rattle.fab_kinds.specs.declared.kind.Kind.TheVariants as kinds
use Rattle.fab_model.specs.Tiles.{PlainTile, output_field, bel_bits, bits_before}
use Rattle.fab_model.specs.Grid.{PlainFabric, tile_at}
use Rattle.fab_model.specs.Wires.{PlainWire, IsMatrixOutput, plain_wires, wire_number}
use Rattle.fab_model.specs.Drive.{PlainBits, matrix_inputs, input_at, select_field}
use Rattle.fab_model.proofs.Selects.{spelled_is_selected}
use Rattle.fab_model.proofs.Wires.{wire_at_number}
use Rattle.fab_fabric.specs.Fabric.{AreTiles, wires_at}
use Rattle.fab_fabric.specs.Wires.{wire_index, IsIndexOf}
use Rattle.fab_fabric.specs.declared.wire.Site.{Site}
use Rattle.fab_fabric.specs.declared.wire.Wire.{Wire}
use Rattle.fab_fabric.proofs.Numbered.{one_place, number_of_tile, number_within}
use Rattle.fab_netlist.specs.Plain.{IsAt}
use Rattle.fab_netlist.specs.WellMade.{table_bit}
use Rattle.fab_netlist.specs.Packed.{PlainCell, PlainPacked}
use Rattle.fab_netlist.proofs.Counts.{at_mapped}
use Rattle.fab_implementation.specs.Plain.{Pad, Edge, PlainTree, PlainImplementation}
use Rattle.fab_implementation.specs.OnFabric.{kind_at, HasWires}
use Rattle.fab_legal.specs.Lines.{sited, sites}
use Rattle.fab_legal.specs.Legal.{IsLegal}
use Rattle.fab_legal.specs.Steps.{IsStep}
use Rattle.fab_legal.proofs.Lists.{same_at}
use Rattle.fab_legal.proofs.PortNumbers.{place_in}
use Rattle.fab_use_defs.specs.Design.{IsBound}
use Rattle.fab_use_defs.specs.Configuring.{Configures, cell_bit}
use Rattle.fab_features.specs.Features.{place_among}
use Rattle.fab_features.specs.inner.Adding.{Adds, SomeOf, IsCellOne, IsCellLine, IsSelectOne, IsTreeOne}
use Rattle.fab_features.proofs.Fields.{bel_inside, one_bel, field_above, one_output}
use Rattle.fab_features.proofs.Setting.{one_tile, tile_there, lut_bel}
use Rattle.fab_features.proofs.Steps.{step_within, edge_paired, one_edge, once_listed}

-- ---- bits as lists

-- two truth values are the same where one is true if the other is
pub bool_same : (a b : Bool) → (a ≡ true → b ≡ true) → (b ≡ true → a ≡ true) → a ≡ b
bool_same true b to from = sym (to refl)
bool_same false true to from = from refl
bool_same false false to from = refl

-- bits that are those of a number are its digits
pub spelled : (width value : ℕ) (bits : ℕ → Bool) → ((place : ℕ) → place < width → bits place ≡ table_bit value place) → first_bits width bits ≡ digits width value
spelled zero value bits each = refl
spelled (suc width) value bits each =
    let first : bits 0 ≡ nat_eq (value % 2) 1 = each 0 (omega arith) ∙ ap (λ n. nat_eq (n % 2) 1) (div-one value) in
    ap (λ b. b ∷ first_bits width (λ place. bits (suc place))) first
    ∙ ap (λ more. nat_eq (value % 2) 1 ∷ more) (spelled width (value / 2) (λ place. bits (suc place)) (λ place few.
    each (suc place) (omega (arith, few)) ∙ ap (λ n. nat_eq (n % 2) 1) (shifted place)))
  where
    shifted : (place : ℕ) → value / 2 ^ suc place ≡ value / 2 / 2 ^ place
    shifted place = ap (λ n. value / 2 ^ n) (omega arith) ∙ sym (shr-shr value 1 place)

-- the input at its place among the inputs
input_there : (inputs : List ℕ) (input : ℕ) → list_any (λ other. nat_eq other input) inputs ≡ true → input_at inputs (place_among inputs input) ≡ Some input
input_there [] input there = absurd (false≢true there)
input_there (first ∷ inputs) input there =
    let k = place_among (first ∷ inputs) input in
    let few = place_in (λ other. nat_eq other input) (first ∷ inputs) there in
    ap (λ n. Some n) (eqb-true (get_or (first ∷ inputs) k first) input (passes_at_first (λ other. nat_eq other input) (first ∷ inputs) first few))

same_site : (a b : Site) → a.x ≡ b.x → a.y ≡ b.y → a.bel ≡ b.bel → a ≡ b
same_site a b x y bel = λ j. record { x = x j; y = y j; bel = bel j }

-- ---- the design

module _ (fabric : PlainFabric) (packed : PlainPacked) (fixed : List Pad) (i : PlainImplementation) (legal : IsLegal fabric packed fixed i) (tiles : AreTiles fabric) where
  -- what holds of lines and edges
  pub lines_known : (k : ℕ) (d : ℕ × Site) → k < length i.cells → IsCellLine fabric packed (get_or i.cells k d)
  lines_known k d few =
      let right = legal.placed.cells.lines_right k (get_or i.cells k d) few (few, at_itself i.cells k d few) in
      record { number = right.known; of_kind = right.of_kind }
    where
      at_itself : (xs : List (ℕ × Site)) (k : ℕ) (d : ℕ × Site) → k < length xs → get_or xs k (get_or xs k d) ≡ get_or xs k d
      at_itself [] k d few = absurd (omega (arith, few))
      at_itself (x ∷ xs) zero d few = refl
      at_itself (x ∷ xs) (suc k) d few = at_itself xs k d (omega (arith, few))

  pub step_of : (tree : PlainTree) (edge : Edge) → Contains i.trees tree → Contains tree.edges edge → IsStep fabric edge.0 edge.1
  step_of tree edge tree_in edge_in = (legal.steps tree_in.0 tree tree_in.1 (tree_in.1, tree_in.2)) edge_in.0 edge edge_in.1 (edge_in.1, edge_in.2)

  pub wires_known : (j : ℕ) (t : PlainTree) → j < length i.trees → (k : ℕ) (d : Edge) → k < length (get_or i.trees j t).edges → HasWires fabric (get_or (get_or i.trees j t).edges k d)
  wires_known j t few k d small =
      let tree = get_or i.trees j t in
      let edge = get_or tree.edges k d in
      step_within fabric edge.0 edge.1 tiles (step_of tree edge (there i.trees j t few) (there tree.edges k d small))
    where
      there : {X : Type 0} (xs : List X) (k : ℕ) (d : X) → k < length xs → Contains xs (get_or xs k d)
      there [] k d few = absurd (omega (arith, few))
      there (x ∷ xs) zero d few = (0, omega arith, refl)
      there (x ∷ xs) (suc k) d few = let rest = there xs k d (omega (arith, few)) in (suc rest.0, omega (arith, rest.1), rest.2)

  pub line_kind : (line : ℕ × Site) → Contains i.cells line → kind_at fabric line.1 ≡ Some kinds.Lut4c
  line_kind line here = (legal.placed.cells.lines_right here.0 line here.1 (here.1, here.2)).of_kind

  -- one line puts a cell on a site
  pub one_line : (a b : ℕ × Site) → Contains i.cells a → Contains i.cells b → a.1 ≡ b.1 → a ≡ b
  one_line a b first second same =
      let site_a = at_mapped (λ (l : ℕ × Site). l.1) i.cells first.0 a (first.1, first.2) in
      let site_b = at_mapped (λ (l : ℕ × Site). l.1) i.cells second.0 b (second.1, second.2) in
      let rest = sited i.ins ++ sited i.outs in
      let places : first.0 ≡ second.0 = once_listed (sites i) first.0 second.0 a.1 legal.placed.sites (left (sited i.cells) rest first.0 a.1 site_a)
      (subst (λ (s : Site). IsAt (sites i) second.0 s) (sym same) (left (sited i.cells) rest second.0 b.1 site_b)) in
      same_at i.cells second.0 a b (subst (λ n. IsAt i.cells n a) places (first.1, first.2)) (second.1, second.2)
    where
      left : (xs ys : List Site) (k : ℕ) (s : Site) → IsAt xs k s → IsAt (xs ++ ys) k s
      left [] ys k s at = absurd (omega (arith, at.0))
      left (x ∷ xs) ys zero s at = (omega arith, at.1)
      left (x ∷ xs) ys (suc k) s at = let rest = left xs ys k s (omega (arith, at.0), at.1) in (omega (arith, rest.0), rest.1)

  module _ (blank cells bits : PlainBits) (none : (x y bit : ℕ) → blank x y bit ≡ false) (cell_ones : Adds blank cells (SomeOf (IsCellOne fabric packed) i.cells))
      (tree_ones : Adds cells bits (SomeOf (IsTreeOne fabric) i.trees)) where
    not_blank : (x y bit : ℕ) → blank x y bit ≡ true → ⊥
    not_blank x y bit h = false≢true (sym (none x y bit) ∙ h)

    -- a bit of a BEL is no select bit
    not_edge : (x y bit : ℕ) (tile : PlainTile) → tile_at fabric x y ≡ Some tile → bit < bel_bits tile → SomeOf (IsTreeOne fabric) i.trees x y bit → ⊥
    not_edge x y bit tile is low one =
        let e = one.2.2 in
        let same : e.tile ≡ tile = one_tile fabric x y e.tile tile e.tile_is is in
        omega (arith, low, field_above e.tile e.output bit e.selected.above e.selected.below, ap bel_bits same)

    -- a select bit is no bit of a BEL
    not_cell : (x y bit : ℕ) (tile : PlainTile) → tile_at fabric x y ≡ Some tile → bel_bits tile ≤ bit → SomeOf (IsCellOne fabric packed) i.cells x y bit → ⊥
    not_cell x y bit tile is high one =
        let s = one.2.2 in
        let site = one.0.1 in
        let same : s.tile ≡ tile = one_tile fabric x y s.tile tile s.tile_is is in
        let bel = lut_bel fabric site s.tile (line_kind one.0 one.1) (tile_there fabric x y site.x site.y s.tile (sym s.x_is) (sym s.y_is) s.tile_is) in
        omega (arith, high, bel_inside s.tile.bels site.bel bel.0 bel.1, bel.2, s.bit_is, s.inside, ap bel_bits same)

    cell_bits : (cell_number bit : ℕ) (site : Site) (cell : PlainCell) (tile : PlainTile) → IsBound packed i cell_number site cell → tile_at fabric site.x site.y ≡ Some tile → bit < 19 →
        bits site.x site.y (bits_before tile.bels site.bel + bit) ≡ cell_bit (is_some packed.reset) cell bit
    cell_bits number bit site cell tile bound is few =
        let at = bits_before tile.bels site.bel + bit in
        let kind = line_kind (number, site) bound.listed in
        let bel = lut_bel fabric site tile kind is in
        let low : at < bel_bits tile = omega (arith, bel_inside tile.bels site.bel bel.0 bel.1, bel.2, few) in
        bool_same (bits site.x site.y at) (cell_bit (is_some packed.reset) cell bit)
        (λ h.
        elim (tree_ones.no_others site.x site.y at h) [
          | inr edge ↦ absurd (not_edge site.x site.y at tile is low edge)
          | inl before ↦ elim (cell_ones.no_others site.x site.y at before) [
            | inl old ↦ absurd (not_blank site.x site.y at old)
            | inr one ↦ (
                let line = one.0 in
                let s = one.2.2 in
                let same : s.tile ≡ tile = one_tile fabric site.x site.y s.tile tile s.tile_is is in
                let other = lut_bel fabric line.1 tile (line_kind line one.1) (tile_there fabric site.x site.y line.1.x line.1.y tile (sym s.x_is) (sym s.y_is) is) in
                let bit_is : at ≡ bits_before tile.bels line.1.bel + s.place = s.bit_is ∙ ap (λ (t : PlainTile). bits_before t.bels line.1.bel + s.place) same in
                let places = one_bel tile.bels site.bel line.1.bel bel.0 other.0 bit s.place bel.1 other.1 (omega (arith, few, bel.2)) (omega (arith, s.inside, other.2)) bit_is in
                let sites_same : line.1 ≡ site = same_site line.1 site (sym s.x_is) (sym s.y_is) (sym places.0) in
                let lines_same : line ≡ (number, site) = one_line line (number, site) one.1 bound.listed sites_same in
                let there : IsAt packed.cells number one.2.0 = subst (λ (l : ℕ × Site). IsAt packed.cells l.0 one.2.0) lines_same one.2.1 in
                let cells_same : one.2.0 ≡ cell = same_at packed.cells number one.2.0 cell there bound.cell_is in
                ap (λ (k : PlainCell). cell_bit (is_some packed.reset) k bit) (sym cells_same) ∙ ap (cell_bit (is_some packed.reset) one.2.0) places.1 ∙ s.one)
          ]
        ])
        (λ h.
        tree_ones.kept site.x site.y at (cell_ones.set site.x site.y at (
          (number, site),
          bound.listed,
          (
            cell,
            bound.cell_is,
            record { tile = tile; place = bit; x_is = refl; y_is = refl; tile_is = is; bit_is = refl; inside = few; one = h },
          ),
        )))

    -- the select bits of an output that an edge enters
    edge_bits : (tree : PlainTree) (edge : Edge) (x y : ℕ) (tile : PlainTile) (output input : PlainWire) → Contains i.trees tree → Contains tree.edges edge → tile_at fabric x y ≡ Some tile →
        IsIndexOf fabric edge.1.0 x y output → IsMatrixOutput tile output → IsIndexOf fabric edge.0.0 x y input →
        select_field tile (bits x y) (wire_number tile output) ≡ digits (output_field tile (wire_number tile output)).1 (place_among (matrix_inputs tile (wire_number tile output)) (wire_number tile input))
    edge_bits tree edge x y tile output input tree_in edge_in is to_is is_output from_is =
        let o = wire_number tile output in
        let n = wire_number tile input in
        let field = output_field tile o in
        let value = place_among (matrix_inputs tile o) n in
        let paired = edge_paired fabric edge.0 edge.1 x y tile output input tiles (step_of tree edge tree_in edge_in) is to_is is_output from_is in
        let out_number = number_of_tile fabric x y output tile is in
        let in_number = number_of_tile fabric x y input tile is in
        let few_out : o < wires_at fabric x y = omega (arith, number_within fabric x y output to_is.is_wire, out_number) in
        let few_in : n < wires_at fabric x y = omega (arith, number_within fabric x y input from_is.is_wire, in_number) in
        let to_at : edge.1.0 ≡ wire_index fabric x y o = to_is.is_index ∙ ap (wire_index fabric x y) out_number in
        let from_at : edge.0.0 ≡ wire_index fabric x y n = from_is.is_index ∙ ap (wire_index fabric x y) in_number in
        spelled field.1 value (λ place. bits x y (field.0 + place)) (λ place few.
        let at = field.0 + place in
        let above : field.0 ≤ at = omega arith in
        let below : at < field.0 + field.1 = omega (arith, few) in
        let back : at - field.0 ≡ place = omega arith in
        bool_same (bits x y at) (table_bit value place)
        (λ h.
        elim (tree_ones.no_others x y at h) [
          | inl before ↦ elim (cell_ones.no_others x y at before) [
            | inl old ↦ absurd (not_blank x y at old)
            | inr one ↦ absurd (not_cell x y at tile is (field_above tile o at above below) one)
          ]
          | inr one ↦ (
              let other = one.2.0 in
              let e = one.2.2 in
              let same : e.tile ≡ tile = one_tile fabric x y e.tile tile e.tile_is is in
              let chosen : IsSelectOne tile e.output e.input at = subst (λ (t : PlainTile). IsSelectOne t e.output e.input at) same e.selected in
              let outputs : e.output ≡ o = one_output tile e.output o at chosen.above chosen.below above below in
              let entered : other.1 ≡ edge.1 = wire_same other.1 edge.1 (e.output_is ∙ ap (wire_index fabric x y) outputs ∙ sym to_at) in
              let edges : other ≡ edge = one_edge fabric packed i legal.reached legal.nets legal.apart one.0 tree other edge one.1 one.2.1 tree_in edge_in entered in
              let left : wire_index fabric x y e.input ≡ wire_index fabric x y n = sym e.input_is ∙ ap (λ (k : Edge). k.0.0) edges ∙ from_at in
              let inputs : e.input ≡ n = (one_place fabric x y e.input x y n e.input_in few_in left).2 in
              let here : IsSelectOne tile o e.input at = subst (λ k. IsSelectOne tile k e.input at) outputs chosen in
              let this : IsSelectOne tile o n at = subst (λ k. IsSelectOne tile o k at) inputs here in
              sym (ap (table_bit value) back) ∙ this.one)
        ])
        (λ h.
        tree_ones.set x y at (
          tree,
          tree_in,
          (
            edge,
            edge_in,
            record {
              tile = tile;
              output = o;
              input = n;
              tile_is = is;
              output_in = few_out;
              input_in = few_in;
              output_is = to_at;
              input_is = from_at;
              selected = record { paired = paired; above = above; below = below; one = ap (table_bit value) back ∙ h };
            },
          ),
        )))
      where
        wire_same : (a b : Wire) → a.0 ≡ b.0 → a ≡ b
        wire_same a b e = λ j. record { 0 = e j }

    pub configured : Configures fabric packed i bits
    configured = record {
      cells = cell_bits;
      edges = λ tree edge x y tile output input tree_in edge_in is to_is is_output from_is.
          let o = wire_number tile output in
          let n = wire_number tile input in
          let inputs = matrix_inputs tile o in
          let paired = edge_paired fabric edge.0 edge.1 x y tile output input tiles (step_of tree edge tree_in edge_in) is to_is is_output from_is in
          let few = place_in (λ other. nat_eq other n) inputs paired in
          let value = spelled_is_selected tile (bits x y) o (place_among inputs n) few (edge_bits tree edge x y tile output input tree_in edge_in is to_is is_output from_is) in
          let same : from_is.is_wire.tile ≡ tile = one_tile fabric x y from_is.is_wire.tile tile from_is.is_wire.tile_is is in
          let at : slice_get (plain_wires tile) n ≡ Some input =
          subst (λ (t : PlainTile). slice_get (plain_wires t) (wire_number t input) ≡ Some input) same (wire_at_number from_is.is_wire.tile input from_is.is_wire.is_wire) in
          ap (λ k. option_and_then (slice_get (plain_wires tile)) (input_at inputs k)) value
          ∙ ap (option_and_then (slice_get (plain_wires tile))) (input_there inputs n paired)
          ∙ at;
    }
