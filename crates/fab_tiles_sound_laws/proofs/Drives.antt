-- What the items of a tile's module drive: each output port and each net as often as it is declared.
use Rattle.std.proofs.Common.{◌≡◌, ℕ, zero, suc, ◌+◌, ◌*◌, ◌-◌, Bool, true, false, List, [], ◌∷◌, ◌++◌, map, filter, refl, sym, ap, ◌∙◌, inl, inr, arith, Option, Some, None, All, append-nil, if◌then◌else◌}
use Rattle.std.specs.List.{flat_map}
use Rattle.std.proofs.lemmas.Bool.{cases_Bool}
use Rattle.std.proofs.lemmas.List.{map-append}
use Rattle.std.proofs.lemmas.List.Concat.{flat_map-append}
use Rattle.std.proofs.lemmas.List.Elements.{All-head, All-tail, filter-append}
use Rattle.fab_syntax.specs.declared.tree.Port.{Port}
use Rattle.fab_syntax.specs.Plain.{PlainExpr, PlainItem, PlainModule, variable, assign}
use Rattle.fab_meaning.specs.Ports.{scalar}
use Rattle.fab_model.specs.declared.tiles.WireRow.{WireRow}
use Rattle.fab_model.specs.Rows.{is_jump, source_bits, dest_bits, bit_name, IsWireRow}
use Rattle.fab_model.specs.Tiles.{TileWire, source_bit, dest_bit, counted, row_wires, wire_name}
use Rattle.fab_model.proofs.Inserts.{map_counted}
use Rattle.fab_parts_sound_laws.specs.fab_gen_tile_Names.{begin_name, end_name}
use Rattle.fab_parts_sound_laws.specs.fab_gen_tile_Borders.{border, side_border, border_ports, passing_assign, beginning_assign, begin_assigns, dest_value, dest_assign, row_assigns}
use Rattle.fab_parts_sound_laws.specs.fab_gen_tile_TileModule.{is_on_side}
use Rattle.fab_parts_sound_laws.proofs.Lists.{one_each}
use Rattle.fab_parts_sound_laws.proofs.Counts.{item_drives, driven_names, times}
use Rattle.fab_parts_sound_laws.proofs.fab_tile_drives_laws_BorderBits.{border_is}

-- ---- counts and lists

pub times_both : (xs ys : List (List ℕ)) (name : List ℕ) → times (xs ++ ys) name ≡ times xs name + times ys name
times_both [] ys name = omega arith
times_both (x ∷ xs) ys name = omega (arith, times_both xs ys name)

counted_both : {X : Type 0} (p n : ℕ) (f : ℕ → X) → counted (p + n) f ≡ counted p f ++ counted n (λ i. f (p + i))
unfolding counted
counted_both zero n f =
    let all : 0 + n ≡ n = omega arith in
    let each : (i : ℕ) → i ≡ 0 + i = (λ i. omega arith) in
    ap (λ k. counted k f) all ∙ (λ j. counted n (λ i. f (each i j)))
counted_both {X} (suc p) n f =
    let all : suc p + n ≡ suc (p + n) = omega arith in
    let each : (i : ℕ) → suc (p + i) ≡ suc p + i = (λ i. omega arith) in
    ap (λ k. counted k f) all ∙ ap (λ (rest : List X). f 0 ∷ rest) (counted_both p n (λ i. f (suc i)) ∙ (λ j. counted p (λ i. f (suc i)) ++ counted n (λ i. f (each i j))))

filter_all : {X : Type 0} (p : X → Bool) (n : ℕ) (f : ℕ → X) → ((i : ℕ) → p (f i) ≡ true) → filter p (counted n f) ≡ counted n f
unfolding counted
filter_all p zero f passes = refl
filter_all {X} p (suc n) f passes =
    let here : p (f 0) ≡ true = passes 0 in
    rw here (ap (λ (rest : List X). f 0 ∷ rest) (filter_all p n (λ i. f (suc i)) (λ i. passes (suc i))))

filter_none : {X : Type 0} (p : X → Bool) (n : ℕ) (f : ℕ → X) → ((i : ℕ) → p (f i) ≡ false) → filter p (counted n f) ≡ []
unfolding counted
filter_none p zero f fails = refl
filter_none {X} p (suc n) f fails =
    let here : p (f 0) ≡ false = fails 0 in
    rw here (filter_none p n (λ i. f (suc i)) (λ i. fails (suc i)))

-- the names of outputs among ports
abbrev pub out_names : List Port → List (List ℕ)
out_names [] = []
out_names (port ∷ ports) = (if port.input then [] else port.name ∷ []) ++ out_names ports

pub out_append : (xs ys : List Port) → out_names (xs ++ ys) ≡ out_names xs ++ out_names ys
out_append [] ys = refl
out_append (x ∷ xs) ys =
    elim (cases_Bool x.input) [
      | inl t ↦ rw t (out_append xs ys)
      | inr f ↦ rw f (ap (λ rest. x.name ∷ rest) (out_append xs ys))
    ]

outs_counted : (n : ℕ) (f : ℕ → List ℕ) → out_names (counted n (λ i. scalar false (f i))) ≡ counted n f
unfolding counted
outs_counted zero f = refl
outs_counted (suc n) f = ap (λ rest. f 0 ∷ rest) (outs_counted n (λ i. f (suc i)))

ins_counted : (n : ℕ) (f : ℕ → List ℕ) → out_names (counted n (λ i. scalar true (f i))) ≡ []
unfolding counted
ins_counted zero f = refl
ins_counted (suc n) f = ins_counted n (λ i. f (suc i))

abbrev pub outputs_of : List TileWire → List (List ℕ)
outputs_of wires = map wire_name (filter (is_on_side true) wires)

pub outputs_append : (xs ys : List TileWire) → outputs_of (xs ++ ys) ≡ outputs_of xs ++ outputs_of ys
outputs_append xs ys = ap (map wire_name) (filter-append (is_on_side true) xs ys) ∙ map-append wire_name (filter (is_on_side true) xs) (filter (is_on_side true) ys)

module _ (text : List PlainModule) where
  abbrev pub drives : List PlainItem → List (List ℕ)
  drives items = driven_names text items

  pub drives_both : (xs ys : List PlainItem) → drives (xs ++ ys) ≡ drives xs ++ drives ys
  drives_both xs ys = flat_map-append (item_drives text) xs ys

  assigns_drive : (n : ℕ) (target : ℕ → List ℕ) (value : ℕ → PlainExpr) → drives (counted n (λ i. assign (target i) (value i))) ≡ counted n target
  assigns_drive n target value = one_each (item_drives text) n (λ i. assign (target i) (value i)) target (λ i. refl)

  -- ---- rows

  begins_drive : (row : WireRow) → IsWireRow row → is_jump row.dir ≡ false → (source dest : Option (List ℕ)) →
      drives (begin_assigns row source dest) ≡ counted (side_border row source) (begin_name row)
  unfolding counted
  begins_drive row is other None dest = refl
  begins_drive row is other (Some source) None =
      let each : (i : ℕ) → 0 + i ≡ i = (λ i. omega arith) in
      assigns_drive (border row) (λ output. begin_name row (0 + output)) (λ output. variable (bit_name row.source output))
      ∙ (λ j. counted (border row) (λ i. begin_name row (each i j)))
  begins_drive row is other (Some source) (Some dest) =
      let passes = (row.span - 1) * row.count in
      let whole : passes + row.count ≡ border row = sym (border_is row is other) in
      drives_both (counted passes (passing_assign row)) (counted row.count (beginning_assign row passes))
      ∙ (λ j. assigns_drive passes (begin_name row) (λ bit. variable (end_name row (bit + row.count))) j
      ++ assigns_drive row.count (λ output. begin_name row (passes + output)) (λ output. variable (bit_name row.source output)) j)
      ∙ sym (counted_both passes row.count (begin_name row))
      ∙ ap (λ n. counted n (begin_name row)) whole

  row_drives : (row : WireRow) → IsWireRow row → drives (row_assigns row) ≡ out_names (border_ports row) ++ map wire_name (counted (dest_bits row) (dest_bit row))
  row_drives row is =
      let dests : drives (counted (dest_bits row) (dest_assign row)) ≡ map wire_name (counted (dest_bits row) (dest_bit row)) =
      assigns_drive (dest_bits row) (bit_name row.dest) (dest_value row) ∙ sym (map_counted wire_name (dest_bits row) (dest_bit row)) in
      let begins = counted (side_border row row.source) (λ bit. scalar false (begin_name row bit)) in
      let ends = counted (side_border row row.dest) (λ bit. scalar true (end_name row bit)) in
      let outs : out_names (begins ++ ends) ≡ counted (side_border row row.source) (begin_name row) =
      out_append begins ends ∙ (λ j. outs_counted (side_border row row.source) (begin_name row) j ++ ins_counted (side_border row row.dest) (end_name row) j)
      ∙ append-nil (counted (side_border row row.source) (begin_name row)) in
      elim (cases_Bool (is_jump row.dir)) [
        | inl jump ↦ rw jump dests
        | inr other ↦ rw other
            (drives_both (begin_assigns row row.source row.dest) (counted (dest_bits row) (dest_assign row))
            ∙ (λ j. (begins_drive row is other row.source row.dest ∙ sym outs) j ++ dests j))
      ]

  sources_only : (row : WireRow) → outputs_of (row_wires row) ≡ map wire_name (counted (source_bits row) (source_bit row))
  sources_only row =
      ap (map wire_name)
      (filter-append (is_on_side true) (counted (source_bits row) (source_bit row)) (counted (dest_bits row) (dest_bit row))
      ∙ (λ j. filter_all (is_on_side true) (source_bits row) (source_bit row) (λ i. refl) j ++ filter_none (is_on_side true) (dest_bits row) (dest_bit row) (λ i. refl) j)
      ∙ append-nil (counted (source_bits row) (source_bit row)))

  module _ (name : List ℕ) where
    abbrev pub count : List (List ℕ) → ℕ
    count names = times names name

    pub counts : (names xs ys : List (List ℕ)) → names ≡ xs ++ ys → count names ≡ count xs + count ys
    counts names xs ys are = ap count are ∙ times_both xs ys name

    row_count : (row : WireRow) → IsWireRow row → count (drives (row_assigns row)) + count (outputs_of (row_wires row)) ≡ count (out_names (border_ports row)) + count (map wire_name (row_wires row))
    row_count row is =
        let sources = map wire_name (counted (source_bits row) (source_bit row)) in
        let dests = map wire_name (counted (dest_bits row) (dest_bit row)) in
        let driven : count (drives (row_assigns row)) ≡ count (out_names (border_ports row)) + count dests = counts _ (out_names (border_ports row)) dests (row_drives row is) in
        let outputs : count (outputs_of (row_wires row)) ≡ count sources = ap count (sources_only row) in
        let all : count (map wire_name (row_wires row)) ≡ count sources + count dests =
        counts _ sources dests (map-append wire_name (counted (source_bits row) (source_bit row)) (counted (dest_bits row) (dest_bit row))) in
        omega arith

    pub rows_count : (rows : List WireRow) → All IsWireRow rows →
        count (drives (flat_map row_assigns rows)) + count (outputs_of (flat_map row_wires rows)) ≡ count (out_names (flat_map border_ports rows)) + count (map wire_name (flat_map row_wires rows))
    rows_count [] are = refl
    rows_count (row ∷ rows) are =
        let here = row_count row (All-head IsWireRow row rows are) in
        let later = rows_count rows (All-tail IsWireRow row rows are) in
        let driven : count (drives (flat_map row_assigns (row ∷ rows))) ≡ count (drives (row_assigns row)) + count (drives (flat_map row_assigns rows)) =
        counts _ (drives (row_assigns row)) (drives (flat_map row_assigns rows)) (drives_both (row_assigns row) (flat_map row_assigns rows)) in
        let outputs : count (outputs_of (flat_map row_wires (row ∷ rows))) ≡ count (outputs_of (row_wires row)) + count (outputs_of (flat_map row_wires rows)) =
        counts _ (outputs_of (row_wires row)) (outputs_of (flat_map row_wires rows)) (outputs_append (row_wires row) (flat_map row_wires rows)) in
        let borders : count (out_names (flat_map border_ports (row ∷ rows))) ≡ count (out_names (border_ports row)) + count (out_names (flat_map border_ports rows)) =
        counts _ (out_names (border_ports row)) (out_names (flat_map border_ports rows)) (out_append (border_ports row) (flat_map border_ports rows)) in
        let all : count (map wire_name (flat_map row_wires (row ∷ rows))) ≡ count (map wire_name (row_wires row)) + count (map wire_name (flat_map row_wires rows)) =
        counts _ (map wire_name (row_wires row)) (map wire_name (flat_map row_wires rows)) (map-append wire_name (row_wires row) (flat_map row_wires rows)) in
        omega (arith, here, later)
