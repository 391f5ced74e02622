-- The border bits of a tile's rows have names of their own.
use Rattle.std.proofs.Common.{◌≡◌, ◌≢◌, ℕ, ◌+◌, ◌*◌, ◌<◌, ◌≤◌, ◌^◌, Bool, true, false, ◌||◌, List, [], ◌∷◌, ◌++◌, map, get_or, length, codes, refl, sym, ap, ◌∙◌, subst, inl, inr, arith, Option, Some, None, All, AllPairs, Contains}
use Rattle.std.specs.List.{flat_map}
use Rattle.std.specs.Fmt.{decimal}
use Rattle.std.proofs.lemmas.Bool.{cases_Bool}
use Rattle.std.proofs.lemmas.List.{append_cancel_left, length-append, map-append}
use Rattle.std.proofs.lemmas.List.Concat.{flat_map-cons}
use Rattle.std.proofs.lemmas.List.Elements.{All-nil, All-append, All-head, All-tail, All-weaker, All-contains, Contains-append_left, Contains-append_right}
use Rattle.std.specs.Bool.{MatchBool}
use Rattle.std.proofs.lemmas.Bool.{false≢true}
use Rattle.std.proofs.Math.Nat.{mul-le-mul_right}
use Rattle.fab_syntax.specs.declared.tree.Port.{Port}
use Rattle.fab_meaning.specs.Ports.{scalar}
use Rattle.fab_model.specs.declared.tiles.WireRow.{WireRow}
use Rattle.fab_model.specs.Rows.{is_jump, is_named, source_bits, dest_bits, side_bits, bit_name, IsWireRow}
use Rattle.fab_model.specs.Tiles.{TileWire, source_bit, dest_bit, counted, row_wires, wire_name}
use Rattle.fab_parts_sound_laws.specs.fab_gen_tile_Names.{border_name, begin_name, end_name}
use Rattle.fab_parts_sound_laws.specs.fab_gen_tile_Borders.{border, side_border, border_ports}
use Rattle.fab_parts_sound_laws.proofs.Names.{Differ, AreApart}
use Rattle.fab_parts_sound_laws.proofs.Lists.{length-counted, all_counted, all_flat_map, pairs_none, pairs_append, pairs_counted, pairs_across, pairs_right, contains_map, contains_counted}
use Rattle.fab_tiles_sound_laws.proofs.Digits.{same_word, same_number}
use Rattle.fab_tiles_sound_laws.proofs.Ranks.{rank}

abbrev pub PortsDiffer : Port → Port → Type 0
PortsDiffer first second = first.name ≢ second.name

abbrev pub names_of : List TileWire → List (List ℕ)
names_of wires = map wire_name wires

-- ---- a port at the border

-- a border bit of a row, of which one of these matrix names is the first bit
pub record IsBorder (names : List (List ℕ)) (port : Port) : Type 0 where
  front : List ℕ
  six : length front ≡ 6
  word : List ℕ
  bit : ℕ
  is : port.name ≡ front ++ (word ++ 95 ∷ decimal bit)
  there : Contains names (word ++ decimal 0)

drop_six : List ℕ → List ℕ
drop_six (a ∷ b ∷ c ∷ d ∷ e ∷ f ∷ rest) = rest
drop_six _ = []

dropped : (front rest : List ℕ) → length front ≡ 6 → drop_six (front ++ rest) ≡ rest
unfolding drop_six
dropped (a ∷ b ∷ c ∷ d ∷ e ∷ f ∷ []) rest six = refl
dropped [] rest six = absurd (omega arith)
dropped (a ∷ []) rest six = absurd (omega arith)
dropped (a ∷ b ∷ []) rest six = absurd (omega arith)
dropped (a ∷ b ∷ c ∷ []) rest six = absurd (omega arith)
dropped (a ∷ b ∷ c ∷ d ∷ []) rest six = absurd (omega arith)
dropped (a ∷ b ∷ c ∷ d ∷ e ∷ []) rest six = absurd (omega arith)
dropped (a ∷ b ∷ c ∷ d ∷ e ∷ f ∷ g ∷ more) rest six = absurd (omega arith)

-- border bits of rows whose matrix names are apart differ
borders_differ : (names others : List (List ℕ)) → All (λ x. All (Differ x) others) names → (first second : Port) → IsBorder names first → IsBorder others second → PortsDiffer first second
borders_differ names others across first second of_first of_second same =
    let rest : of_first.word ++ 95 ∷ decimal of_first.bit ≡ of_second.word ++ 95 ∷ decimal of_second.bit =
    sym (dropped of_first.front _ of_first.six) ∙ ap drop_six (sym of_first.is ∙ same ∙ of_second.is) ∙ dropped of_second.front _ of_second.six in
    let word : of_first.word ≡ of_second.word = same_word of_first.word of_second.word of_first.bit of_second.bit rest in
    All-contains (Differ (of_first.word ++ decimal 0)) others (of_second.word ++ decimal 0)
    (All-contains (λ x. All (Differ x) others) names (of_first.word ++ decimal 0) across of_first.there) of_second.there
    (ap (λ w. w ++ decimal 0) word)

border_more : (names others : List (List ℕ)) → ((x : List ℕ) → Contains names x → Contains others x) → (port : Port) → IsBorder names port → IsBorder others port
border_more names others more port is =
    record { front = is.front; six = is.six; word = is.word; bit = is.bit; is = is.is; there = more (is.word ++ decimal 0) is.there }

-- ---- the ports of a row

-- a side with a wire has a bit
has_bit : (row : WireRow) (word : List ℕ) (other : Option (List ℕ)) → IsWireRow row → is_jump row.dir ≡ false → 0 < border row → 0 < side_bits row (Some word) other
has_bit row word None is jump some = rw jump some
has_bit row word (Some other) is jump some = let count : 1 ≤ row.count = is.has_wires in rw jump (omega arith)

module _ (row : WireRow) (is : IsWireRow row) (jump : is_jump row.dir ≡ false) where
  abbrev names : List (List ℕ)
  names = names_of (row_wires row)

  source_there : (word : List ℕ) → row.source ≡ Some word → 0 < border row → Contains names (word ++ decimal 0)
  source_there word named some =
      let few : 0 < source_bits row = subst (λ side. 0 < side_bits row side row.dest) (sym named) (has_bit row word row.dest is jump some) in
      subst (λ side. Contains names (bit_name side 0)) named
      (contains_map wire_name (row_wires row) (source_bit row 0)
      (Contains-append_left (counted (source_bits row) (source_bit row)) (counted (dest_bits row) (dest_bit row)) (source_bit row 0) (contains_counted (source_bits row) (source_bit row) 0 few)))

  dest_there : (word : List ℕ) → row.dest ≡ Some word → 0 < border row → Contains names (word ++ decimal 0)
  dest_there word named some =
      let few : 0 < dest_bits row = subst (λ side. 0 < side_bits row side row.source) (sym named) (has_bit row word row.source is jump some) in
      subst (λ side. Contains names (bit_name side 0)) named
      (contains_map wire_name (row_wires row) (dest_bit row 0)
      (Contains-append_right (counted (source_bits row) (source_bit row)) (counted (dest_bits row) (dest_bit row)) (dest_bit row 0) (contains_counted (dest_bits row) (dest_bit row) 0 few)))

  -- the bits of a side
  of_side : (front : List ℕ) (input : Bool) (side : Option (List ℕ)) (bit : ℕ) → length front ≡ 6 → ((word : List ℕ) → side ≡ Some word → 0 < border row → Contains names (word ++ decimal 0)) →
      bit < side_border row side → IsBorder names (scalar input (front ++ border_name side bit))
  of_side front input None bit six there few = absurd (omega arith)
  of_side front input (Some word) bit six there few = record { front = front; six = six; word = word; bit = bit; is = refl; there = there word refl (omega arith) }

  abbrev begins : List Port
  begins = counted (side_border row row.source) (λ bit. scalar false (begin_name row bit))

  abbrev ends : List Port
  ends = counted (side_border row row.dest) (λ bit. scalar true (end_name row bit))

  begin_borders : All (IsBorder names) begins
  begin_borders =
      all_counted (IsBorder names) (side_border row row.source) (λ bit. scalar false (begin_name row bit))
      (λ bit few. of_side (codes "fab_o_") false row.source bit refl source_there few)

  end_borders : All (IsBorder names) ends
  end_borders =
      all_counted (IsBorder names) (side_border row row.dest) (λ bit. scalar true (end_name row bit))
      (λ bit few. of_side (codes "fab_i_") true row.dest bit refl dest_there few)

  -- bits of one side differ by their numbers
  side_differs : (front : List ℕ) (side : Option (List ℕ)) (i j : ℕ) → border row < 2 ^ 64 → i < j → j < side_border row side → front ++ border_name side i ≢ front ++ border_name side j
  side_differs front None i j few less within same = absurd (omega arith)
  side_differs front (Some word) i j few less within same =
      let equal : i ≡ j = same_number word i j (omega arith) (omega arith) (append_cancel_left front (border_name (Some word) i) (border_name (Some word) j) same) in
      omega arith

  fifth : List ℕ → ℕ
  fifth name = get_or name 4 0

  other_fifth : (o i : ℕ) → o ≡ 111 → i ≡ 105 → o ≢ i
  other_fifth o i is_o is_i same = let equal : o ≡ i = same in omega arith

  begin_end_differ : (i j : ℕ) → begin_name row i ≢ end_name row j
  unfolding fifth
  begin_end_differ i j same = other_fifth (fifth (begin_name row i)) (fifth (end_name row j)) refl refl (ap fifth same)

  row_apart : border row < 2 ^ 64 → AllPairs PortsDiffer (begins ++ ends)
  row_apart few =
      pairs_append PortsDiffer begins ends
      (pairs_counted PortsDiffer (side_border row row.source) (λ bit. scalar false (begin_name row bit)) (λ i j less within. side_differs (codes "fab_o_") row.source i j few less within))
      (pairs_counted PortsDiffer (side_border row row.dest) (λ bit. scalar true (end_name row bit)) (λ i j less within. side_differs (codes "fab_i_") row.dest i j few less within))
      (all_counted (λ first. All (PortsDiffer first) ends) (side_border row row.source) (λ bit. scalar false (begin_name row bit))
      (λ i less. all_counted (PortsDiffer (scalar false (begin_name row i))) (side_border row row.dest) (λ bit. scalar true (end_name row bit)) (λ j within. begin_end_differ i j)))

borders_of_row : (row : WireRow) → IsWireRow row → All (IsBorder (names_of (row_wires row))) (border_ports row)
borders_of_row row is =
    elim (cases_Bool (is_jump row.dir)) [
      | inl jump ↦ rw jump (All-nil (IsBorder (names_of (row_wires row))))
      | inr other ↦ rw other (All-append (IsBorder (names_of (row_wires row))) _ _ (begin_borders row is other) (end_borders row is other))
    ]

apart_in_row : (row : WireRow) → IsWireRow row → (is_jump row.dir ≡ false → border row < 2 ^ 64) → AllPairs PortsDiffer (border_ports row)
apart_in_row row is few =
    elim (cases_Bool (is_jump row.dir)) [
      | inl jump ↦ rw jump (pairs_none PortsDiffer)
      | inr other ↦ rw other (row_apart row is other (few other))
    ]

-- ---- how many bits a border has

few_bits : (row : WireRow) → IsWireRow row → is_jump row.dir ≡ false → (source dest : Option (List ℕ)) → (is_named source || is_named dest) ≡ true →
    side_bits row source dest + side_bits row dest source ≤ 4096 → border row < 2 ^ 64
few_bits row is jump None None named few = absurd (false≢true named)
few_bits row is jump None (Some dest) named few = let all : 0 + border row ≤ 4096 = rw jump at few in omega arith
few_bits row is jump (Some source) None named few = let all : border row + 0 ≤ 4096 = rw jump at few in omega arith
few_bits row is jump (Some source) (Some dest) named few =
    let all : row.count + row.count ≤ 4096 = rw jump at few in
    let span : row.span ≤ 31 = (subst (λ b. MatchBool b (row.span ≡ 0) ((1 ≤ row.span) × (row.span ≤ 31))) jump is.span_is).1 in
    let product : row.span * row.count ≤ 31 * row.count = mul-le-mul_right row.count span in
    omega arith

few_of_row : (row : WireRow) → IsWireRow row → length (row_wires row) ≤ 4096 → is_jump row.dir ≡ false → border row < 2 ^ 64
few_of_row row is few jump =
    let ends : (is_named row.source || is_named row.dest) ≡ true =
    subst (λ b. MatchBool b (is_named row.dest ≡ true) ((is_named row.source || is_named row.dest) ≡ true)) jump is.has_ends in
    few_bits row is jump row.source row.dest ends
    (omega (arith, few, length-append (counted (source_bits row) (source_bit row)) (counted (dest_bits row) (dest_bit row)), length-counted (source_bits row) (source_bit row), length-counted (dest_bits row) (dest_bit row)))

-- ---- all rows

names_split : (row : WireRow) (rows : List WireRow) → names_of (flat_map row_wires (row ∷ rows)) ≡ names_of (row_wires row) ++ names_of (flat_map row_wires rows)
names_split row rows = ap names_of (flat_map-cons row_wires row rows) ∙ map-append wire_name (row_wires row) (flat_map row_wires rows)

borders_of_rows : (rows : List WireRow) → All IsWireRow rows → All (IsBorder (names_of (flat_map row_wires rows))) (flat_map border_ports rows)
borders_of_rows [] are = All-nil (IsBorder [])
borders_of_rows (row ∷ rows) are =
    let here = names_of (row_wires row) in
    let later = names_of (flat_map row_wires rows) in
    subst (λ ports. All (IsBorder (names_of (flat_map row_wires (row ∷ rows)))) ports) (sym (flat_map-cons border_ports row rows))
    (subst (λ names. All (IsBorder names) (border_ports row ++ flat_map border_ports rows)) (sym (names_split row rows))
    (All-append (IsBorder (here ++ later)) (border_ports row) (flat_map border_ports rows)
    (All-weaker (IsBorder here) (IsBorder (here ++ later)) (border_more here (here ++ later) (Contains-append_left here later)) (border_ports row)
    (borders_of_row row (All-head IsWireRow row rows are)))
    (All-weaker (IsBorder later) (IsBorder (here ++ later)) (border_more later (here ++ later) (Contains-append_right here later)) (flat_map border_ports rows)
    (borders_of_rows rows (All-tail IsWireRow row rows are)))))

pub borders_apart : (rows : List WireRow) → All IsWireRow rows → AreApart (names_of (flat_map row_wires rows)) → length (flat_map row_wires rows) ≤ 4096 →
    AllPairs PortsDiffer (flat_map border_ports rows)
borders_apart [] are apart few = pairs_none PortsDiffer
borders_apart (row ∷ rows) are apart few =
    let here = names_of (row_wires row) in
    let later = names_of (flat_map row_wires rows) in
    let both : AreApart (here ++ later) = subst AreApart (names_split row rows) apart in
    let across : All (λ x. All (Differ x) later) here = pairs_across Differ here later both in
    let is : IsWireRow row = All-head IsWireRow row rows are in
    let long : length (flat_map row_wires (row ∷ rows)) ≡ length (row_wires row) + length (flat_map row_wires rows) =
    ap length (flat_map-cons row_wires row rows) ∙ length-append (row_wires row) (flat_map row_wires rows) in
    let all : length (flat_map row_wires (row ∷ rows)) ≤ 4096 = few in
    let of_rows = borders_of_rows rows (All-tail IsWireRow row rows are) in
    subst (AllPairs PortsDiffer) (sym (flat_map-cons border_ports row rows))
    (pairs_append PortsDiffer (border_ports row) (flat_map border_ports rows) (apart_in_row row is (few_of_row row is (omega arith)))
    (borders_apart rows (All-tail IsWireRow row rows are) (pairs_right Differ here later both) (omega arith))
    (All-weaker (IsBorder here) (λ first. All (PortsDiffer first) (flat_map border_ports rows))
    (λ first of_first. All-weaker (IsBorder later) (PortsDiffer first) (λ second of_second. borders_differ here later across first second of_first of_second) (flat_map border_ports rows) of_rows)
    (border_ports row) (borders_of_row row is)))

-- ---- ranks

abbrev pub IsBorderRank : Port → Type 0
IsBorderRank port = rank port.name ≡ 5

rank_of_row : (row : WireRow) → All IsBorderRank (border_ports row)
rank_of_row row =
    elim (cases_Bool (is_jump row.dir)) [
      | inl jump ↦ rw jump (All-nil IsBorderRank)
      | inr other ↦ rw other (All-append IsBorderRank _ _
          (all_counted IsBorderRank (side_border row row.source) (λ bit. scalar false (begin_name row bit)) (λ bit few. refl))
          (all_counted IsBorderRank (side_border row row.dest) (λ bit. scalar true (end_name row bit)) (λ bit few. refl)))
    ]

pub border_ranks : (rows : List WireRow) → All IsBorderRank (flat_map border_ports rows)
border_ranks rows = all_flat_map IsBorderRank border_ports rows (λ k d few. rank_of_row (get_or rows k d))
