-- The wires of a tile on the sides of its switch matrix.
use Rattle.std.proofs.Common.{◌≡◌, ℕ, ◌+◌, ◌<◌, ◌≤◌, zero, suc, Bool, true, false, not, cond, List, [], ◌∷◌, ◌++◌, length, map, filter, take, count_by, get_or, slice_get, Some, refl, sym, ap, ◌∙◌, arith, inl, inr, nat_eq}
use Rattle.std.specs.List.{flat_map}
use Rattle.std.proofs.lemmas.Bool.{cases_Bool, cases_lt}
use Rattle.std.proofs.lemmas.Bool.Decides.{nat_tests}
use Rattle.std.proofs.lemmas.List.{map-append, take_more, append-nil, length-map, length-append, length-take-le, get_or_append_left, get_or-map}
use Rattle.std.proofs.Math.Seq.{get_or-append_seam}
use Rattle.std.proofs.lemmas.List.Elements.{filter-append}
use Rattle.std.proofs.lemmas.List.Sums.{sum_by-cons, length-filter, count_by-le-length}
use Rattle.std.proofs.lemmas.Option.{same_Some, slice_get_within, get_or_from_slice_get, slice_get-map}
use Rattle.fab_kinds.specs.declared.kind.Kind.{Kind}
use Rattle.fab_kinds.specs.declared.kind.Kind.TheVariants as kinds
use Rattle.fab_kinds.specs.Pins.{input_count, output_count}
use Rattle.fab_model.specs.declared.tiles.WireRow.{WireRow}
use Rattle.fab_model.specs.declared.tiles.Bel.{Bel}
use Rattle.fab_model.specs.Rows.{source_bits, dest_bits}
use Rattle.fab_model.specs.Tiles.{TileWire, source_bit, dest_bit, counted, row_wires, bel_wires, wire_name, is_matrix_output}
use Rattle.fab_model.proofs.Inserts.{map_counted}
use Rattle.fab_model.proofs.Steps.{map_gives}
use Rattle.fab_gen_tile.specs.TileModule.{is_on_side, side_names}
use Rattle.fab_gen_tile.specs.inner.Places.{place_on_side}
use Rattle.fab_gen_tile.proofs.Steps.{flat_more}

-- ---- which wires are outputs

pub outputs_of_row : (row : WireRow) → map is_matrix_output (row_wires row) ≡ counted (source_bits row) (λ wire. true) ++ counted (dest_bits row) (λ wire. false)
outputs_of_row row =
    map-append is_matrix_output (counted (source_bits row) (source_bit row)) (counted (dest_bits row) (dest_bit row))
    ∙ (λ j. map_counted is_matrix_output (source_bits row) (source_bit row) j ++ map_counted is_matrix_output (dest_bits row) (dest_bit row) j)

outputs_of_kind : (kind : Kind) (prefix : List ℕ) → map is_matrix_output (bel_wires (record { kind = kind; prefix = prefix }))
    ≡ counted (input_count kind) (λ wire. true) ++ counted (output_count kind) (λ wire. false)
unfolding counted
outputs_of_kind kinds.Lut4c prefix = refl
outputs_of_kind kinds.Io prefix = refl
outputs_of_kind kinds.Mux8 prefix = refl

pub outputs_of_bel : (bel : Bel) → map is_matrix_output (bel_wires bel) ≡ counted (input_count bel.kind) (λ wire. true) ++ counted (output_count bel.kind) (λ wire. false)
outputs_of_bel bel = outputs_of_kind bel.kind bel.prefix

-- those of one part more
pub outputs_more : {X : Type 0} (wires : X → List TileWire) (xs : List X) (i : ℕ) (d : X) → i < length xs →
    map is_matrix_output (flat_map wires (take (i + 1) xs)) ≡ map is_matrix_output (flat_map wires (take i xs)) ++ map is_matrix_output (wires (get_or xs i d))
outputs_more wires xs i d within =
    ap (map is_matrix_output) (flat_more wires xs i d within) ∙ map-append is_matrix_output (flat_map wires (take i xs)) (wires (get_or xs i d))

-- ---- what passes a test, by how many pass before it

module _ {X : Type 0} (p : X → Bool) where
  pub count_first : (y : X) (ys : List X) (n : ℕ) → count_by p (take (suc n) (y ∷ ys)) ≡ cond (p y) 1 0 + count_by p (take n ys)
  count_first y ys n = sum_by-cons (λ x. cond (p x) 1 0) y (take n ys)

  -- it stands among those that pass at that place
  pub nth_passing : (xs : List X) (n : ℕ) (x : X) → slice_get xs n ≡ Some x → p x ≡ true → slice_get (filter p xs) (count_by p (take n xs)) ≡ Some x
  nth_passing [] n x is passes = cc
  nth_passing (y ∷ ys) zero x is passes = let same : y ≡ x = same_Some y x is in rw (ap p same ∙ passes) is
  nth_passing (y ∷ ys) (suc n) x is passes =
      elim (cases_Bool (p y)) [
        | inl t ↦
            let more : count_by p (take (suc n) (y ∷ ys)) ≡ suc (count_by p (take n ys)) = count_first y ys n ∙ ap (λ b. cond b 1 0 + count_by p (take n ys)) t ∙ omega arith in
            ap (slice_get (filter p (y ∷ ys))) more ∙ rw t (nth_passing ys n x is passes)
        | inr f ↦
            let same : count_by p (take (suc n) (y ∷ ys)) ≡ count_by p (take n ys) = count_first y ys n ∙ ap (λ b. cond b 1 0 + count_by p (take n ys)) f ∙ omega arith in
            ap (slice_get (filter p (y ∷ ys))) same ∙ rw f (nth_passing ys n x is passes)
      ]

  -- fewer stand before the first of two than before the second
  pub passing_before : (xs : List X) (a b : ℕ) (x : X) → slice_get xs a ≡ Some x → p x ≡ true → a < b → count_by p (take a xs) < count_by p (take b xs)
  passing_before [] a b x is passes less = cc
  passing_before (y ∷ ys) zero zero x is passes less = omega (arith, less)
  passing_before (y ∷ ys) zero (suc b) x is passes less =
      let same : p y ≡ true = ap p (same_Some y x is) ∙ passes in
      let more : count_by p (take (suc b) (y ∷ ys)) ≡ 1 + count_by p (take b ys) = count_first y ys b ∙ ap (λ t. cond t 1 0 + count_by p (take b ys)) same in
      let none : count_by p (take zero (y ∷ ys)) ≡ 0 = refl in
      omega (arith, more, none)
  passing_before (y ∷ ys) (suc a) zero x is passes less = omega (arith, less)
  passing_before (y ∷ ys) (suc a) (suc b) x is passes less =
      let rest : count_by p (take a ys) < count_by p (take b ys) = passing_before ys a b x is passes (omega (arith, less)) in
      omega (arith, rest, count_first y ys a, count_first y ys b)

  -- two that pass are the same where as many stand before each
  pub same_places : (xs : List X) (a b : ℕ) (x y : X) → slice_get xs a ≡ Some x → p x ≡ true → slice_get xs b ≡ Some y → p y ≡ true →
      nat_eq (count_by p (take a xs)) (count_by p (take b xs)) ≡ nat_eq a b
  same_places xs a b x y is passes is2 passes2 =
      elim (cases_lt a b) [
        | inl less ↦
            let before = passing_before xs a b x is passes less in
            let apart : nat_eq a b ≡ false = grind (arith, nat_tests) in
            let counts : nat_eq (count_by p (take a xs)) (count_by p (take b xs)) ≡ false = grind (arith, nat_tests) in
            counts ∙ sym apart
        | inr more ↦
            elim (cases_lt b a) [
              | inl less ↦
                  let before = passing_before xs b a y is2 passes2 less in
                  let apart : nat_eq a b ≡ false = grind (arith, nat_tests) in
                  let counts : nat_eq (count_by p (take a xs)) (count_by p (take b xs)) ≡ false = grind (arith, nat_tests) in
                  counts ∙ sym apart
              | inr less ↦
                  let same : a ≡ b = omega (arith, more, less) in
                  let both : nat_eq b b ≡ true = grind (arith, nat_tests) in
                  let counts : nat_eq (count_by p (take b xs)) (count_by p (take b xs)) ≡ true = grind (arith, nat_tests) in
                  ap (λ k. nat_eq (count_by p (take k xs)) (count_by p (take b xs))) same ∙ counts ∙ sym both ∙ ap (λ k. nat_eq k b) (sym same)
            ]
      ]

-- ---- sides

-- the names of one wire more
names_with : (b : Bool) (ws : List TileWire) (n : ℕ) (w : TileWire) → slice_get ws n ≡ Some w →
    side_names b (take (n + 1) ws) ≡ side_names b (take n ws) ++ side_names b (w ∷ [])
names_with b ws n w is =
    ap (side_names b) (take_more ws n w (slice_get_within ws n w is) ∙ ap (λ x. take n ws ++ x ∷ []) (get_or_from_slice_get ws n w w is))
    ∙ ap (map wire_name) (filter-append (is_on_side b) (take n ws) (w ∷ []))
    ∙ map-append wire_name (filter (is_on_side b) (take n ws)) (filter (is_on_side b) (w ∷ []))

own_side : (w : TileWire) (b : Bool) → is_matrix_output w ≡ b → is_on_side b w ≡ true
own_side w true is = is
own_side w false is = ap not is

other_side : (w : TileWire) (b : Bool) → is_matrix_output w ≡ b → is_on_side (not b) w ≡ false
other_side w true is = ap not is
other_side w false is = is

pub names_more : (b : Bool) (ws : List TileWire) (n : ℕ) (w : TileWire) → slice_get ws n ≡ Some w → is_on_side b w ≡ true →
    side_names b (take (n + 1) ws) ≡ side_names b (take n ws) ++ wire_name w ∷ []
names_more b ws n w is on = names_with b ws n w is ∙ ap (λ xs. side_names b (take n ws) ++ map wire_name (cond xs (w ∷ []) [])) on

pub names_same : (b : Bool) (ws : List TileWire) (n : ℕ) (w : TileWire) → slice_get ws n ≡ Some w → is_on_side b w ≡ false →
    side_names b (take (n + 1) ws) ≡ side_names b (take n ws)
names_same b ws n w is off =
    names_with b ws n w is ∙ ap (λ xs. side_names b (take n ws) ++ map wire_name (cond xs (w ∷ []) [])) off ∙ append-nil (side_names b (take n ws))

pub count_names : (b : Bool) (ws : List TileWire) (n : ℕ) → length (side_names b (take n ws)) ≡ place_on_side b ws n
count_names b ws n = length-map (filter (is_on_side b) (take n ws)) wire_name ∙ length-filter (is_on_side b) (take n ws)

-- no more names stand on a side than there are wires
pub few_names : (b : Bool) (ws : List TileWire) (n : ℕ) → n ≤ length ws → length (side_names b (take n ws)) ≤ n
few_names b ws n within =
    omega (arith, count_names b ws n, count_by-le-length (is_on_side b) (take n ws), length-take-le n ws within)

abbrev PlacedTo : (ws : List TileWire) → List ℕ → (n : ℕ) → Type 0
PlacedTo ws places n = (number : ℕ) (wire : TileWire) → number < n → slice_get ws number ≡ Some wire → get_or places number 0 ≡ place_on_side (is_matrix_output wire) ws number

placed_more : (ws : List TileWire) (n : ℕ) (w : TileWire) (places : List ℕ) (place : ℕ) → length places ≡ n → slice_get ws n ≡ Some w →
    place ≡ place_on_side (is_matrix_output w) ws n → PlacedTo ws places n → PlacedTo ws (places ++ place ∷ []) (n + 1)
placed_more ws n w places place many is place_is so_far number wire less there =
    elim (cases_lt number n) [
      | inl before ↦ get_or_append_left places (place ∷ []) 0 number (omega (arith, before, many)) ∙ so_far number wire before there
      | inr not_before ↦
          let last : number ≡ n = omega (arith, less, not_before) in
          let same : w ≡ wire = same_Some w wire (sym is ∙ ap (slice_get ws) (sym last) ∙ there) in
          ap (λ k. get_or (places ++ place ∷ []) k 0) (last ∙ sym many)
          ∙ get_or-append_seam places place [] 0
          ∙ place_is
          ∙ (λ j. place_on_side (is_matrix_output (same j)) ws (sym last j))
    ]

-- one wire more, which stands on a side
pub record OneMore (ws : List TileWire) (n : ℕ) (b : Bool) (own other : List (List ℕ)) (places : List ℕ) : Type 0 where
  pub own_is : own ≡ side_names b (take (n + 1) ws)
  pub other_is : other ≡ side_names (not b) (take (n + 1) ws)
  pub as_many : length places ≡ n + 1
  pub each : (number : ℕ) (wire : TileWire) → number < n + 1 → slice_get ws number ≡ Some wire → get_or places number 0 ≡ place_on_side (is_matrix_output wire) ws number

pub one_more : (ws : List TileWire) (n : ℕ) (name : List ℕ) (b : Bool) (own other : List (List ℕ)) (places : List ℕ) (place : ℕ) → slice_get (map wire_name ws) n ≡ Some name →
    get_or (map is_matrix_output ws) n false ≡ b → own ≡ side_names b (take n ws) → other ≡ side_names (not b) (take n ws) → place ≡ length own → length places ≡ n →
    ((number : ℕ) (wire : TileWire) → number < n → slice_get ws number ≡ Some wire → get_or places number 0 ≡ place_on_side (is_matrix_output wire) ws number) →
    OneMore ws n b (own ++ name ∷ []) other (places ++ place ∷ [])
one_more ws n name b own other places place named side own_is other_is place_is many so_far =
    let found = map_gives wire_name (slice_get ws n) name (sym (slice_get-map wire_name ws n) ∙ named) in
    let w = found.0 in
    let within : n < length ws = slice_get_within ws n w found.1 in
    let on_b : is_matrix_output w ≡ b =
    ap is_matrix_output (sym (get_or_from_slice_get ws n w w found.1)) ∙ sym (get_or-map is_matrix_output ws n w false within) ∙ side in
    let count : place ≡ place_on_side (is_matrix_output w) ws n =
    place_is ∙ ap length own_is ∙ count_names b ws n ∙ ap (λ c. place_on_side c ws n) (sym on_b) in
    record {
      own_is = ap (λ xs. xs ++ name ∷ []) own_is ∙ ap (λ x. side_names b (take n ws) ++ x ∷ []) (sym found.2) ∙ sym (names_more b ws n w found.1 (own_side w b on_b));
      other_is = other_is ∙ sym (names_same (not b) ws n w found.1 (other_side w b on_b));
      as_many = length-append places (place ∷ []) ∙ ap (λ k. k + 1) many;
      each = placed_more ws n w places place many found.1 count so_far;
    }
