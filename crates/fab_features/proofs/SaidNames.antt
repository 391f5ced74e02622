-- What the names of fields of BELs and of pairs of the switch matrix say.
use Rattle.std.proofs.Common.{◌≡◌, ℕ, zero, suc, ◌+◌, ◌-◌, ◌*◌, ◌/◌, ◌%◌, ◌<◌, ◌≤◌, Bool, true, false, ◌&&◌, cond, ltb, List, [], ◌∷◌, ◌++◌, length, get_or, codes, Contains, Option, Some, None, nat_eq, bytes_eq, slice_get, refl, ap, ◌∙◌, subst, inl, inr, arith, append_assoc, lt-ltb}
use Rattle.std.specs.Prelude.{decimal, nat_le, position}
use Rattle.std.specs.List.{list_any, position_or_len}
use Rattle.std.specs.Option.{option_and_then}
use Rattle.std.proofs.lemmas.Bool.{cases_lt}
use Rattle.std.proofs.lemmas.Bool.Decides.{nat_tests}
use Rattle.std.proofs.lemmas.Fmt.{decimal_digit, decimal_step}
use Rattle.fab_lines.specs.Numbers.{is_digit}
use Rattle.fab_select.specs.declared.pair.Pair.{Pair}
use Rattle.fab_model.specs.declared.tiles.Bel.{Bel}
use Rattle.fab_model.specs.Tiles.{PlainTile, IsTile, IsPair, matrix_names}
use Rattle.fab_model.specs.Grid.{PlainFabric, tile_at}
use Rattle.fab_model.specs.Drive.{matrix_inputs}
use Rattle.fab_fabric.specs.Fabric.{IsFabric}
use Rattle.fab_fabric.specs.Names.{place_name}
use Rattle.fab_fabric.specs.declared.wire.Site.{Site}
use Rattle.fab_fabric.proofs.Numbered.{tile_within}
use Rattle.fab_fabric.proofs.Pairs.{passes_named}
use Rattle.fab_legal.proofs.PortNumbers.{own_number}
use Rattle.fab_texts.specs.Places.{PlaceAt, place_at, letter_of, number_at}
use Rattle.fab_texts.proofs.PrintedRows.{all_append}
use Rattle.fab_fasm.specs.Parts.{parted, TwoParts}
use Rattle.fab_fasm.proofs.Cutting.{differs, parted_at}
use Rattle.fab_use_defs.specs.fab_gen_tile_Words.{IsNamed}
use Rattle.fab_features.specs.Said.{said_of, said_in, first_of, field_in, field_of, pair_in, pair_of, number_in, TwoNumbers, bel_field, choice}
use Rattle.fab_features.specs.Naming.{HasPrefixes}
use Rattle.fab_features.specs.Design.{field_name, pair_name}
use Rattle.fab_features.specs.declared.said.Said.{Said}
use Rattle.fab_features.specs.declared.said.Said.TheVariants as said
use Rattle.fab_features.proofs.Listed.{named}
use Rattle.fab_features.proofs.Words.{Undotted, decimal_undotted, IsInputName, input_name, of_all}

-- ---- places

digit_is : (n : ℕ) → n < 10 → is_digit (48 + n) ≡ true
digit_is n few = grind (arith, nat_tests)

not_zero : (n : ℕ) → 0 < n → nat_eq (48 + n) 48 ≡ false
not_zero n some = grind (arith, nat_tests)

two_digits : (n : ℕ) → 10 ≤ n → n < 100 → decimal n ≡ (48 + n / 10) ∷ (48 + n % 10) ∷ []
two_digits n more small =
    let high : n / 10 < 10 = omega arith in
    decimal_step n more (omega arith) ∙ ap (λ (ds : List ℕ). ds ++ (48 + n % 10) ∷ []) (decimal_digit (n / 10) high)

-- a number of one or two digits before another byte
number_before : (n byte : ℕ) (rest : List ℕ) → n < 100 → is_digit byte ≡ false → number_at (decimal n ++ byte ∷ rest) ≡ Some (n, byte ∷ rest)
number_before n byte rest small stop =
    elim (cases_lt n 10) [
      | inl few ↦ (
          let back : 48 + n - 48 ≡ n = omega arith in
          ap (λ (ds : List ℕ). number_at (ds ++ byte ∷ rest)) (decimal_digit n few) ∙ rw (digit_is n few, stop, back) refl)
      | inr more ↦ (
          let high : n / 10 < 10 = omega arith in
          let low : n % 10 < 10 = omega arith in
          let some : 0 < n / 10 = omega arith in
          let back : 10 * (48 + n / 10 - 48) + (48 + n % 10 - 48) ≡ n = omega arith in
          ap (λ (ds : List ℕ). number_at (ds ++ byte ∷ rest)) (two_digits n more small) ∙ rw (digit_is (n / 10) high, digit_is (n % 10) low, not_zero (n / 10) some, back) refl)
    ]

-- at the end of a text
number_last : (n : ℕ) → n < 100 → number_at (decimal n) ≡ Some (n, [])
number_last n small =
    elim (cases_lt n 10) [
      | inl few ↦ (
          let back : 48 + n - 48 ≡ n = omega arith in
          ap number_at (decimal_digit n few) ∙ rw (digit_is n few, back) refl)
      | inr more ↦ (
          let high : n / 10 < 10 = omega arith in
          let low : n % 10 < 10 = omega arith in
          let some : 0 < n / 10 = omega arith in
          let back : 10 * (48 + n / 10 - 48) + (48 + n % 10 - 48) ≡ n = omega arith in
          ap number_at (two_digits n more small) ∙ rw (digit_is (n / 10) high, digit_is (n % 10) low, not_zero (n / 10) some, back) refl)
    ]

abbrev whole_place : (x y : ℕ) → PlaceAt
whole_place x y = record { x = x; y = y; rest = [] }

place_split : (x y : ℕ) → place_name x y ≡ 88 ∷ (decimal x ++ 89 ∷ decimal y)
place_split x y = append_assoc (88 ∷ decimal x) (89 ∷ []) (decimal y)

-- a place that is written is read, and nothing is left
place_read : (x y : ℕ) → x < 32 → y < 31 → place_at (place_name x y) ≡ Some (whole_place x y)
unfolding place_at
place_read x y small_x small_y =
    let bounds : (ltb x 32 && ltb y 31) ≡ true = rw (lt-ltb x 32 small_x, lt-ltb y 31 small_y) refl in
    ap place_at (place_split x y) ∙ rw (number_before x 89 (decimal y) (omega (arith, small_x)) refl, number_last y (omega (arith, small_y)), bounds) refl

place_undotted : (x y : ℕ) → Undotted (place_name x y)
place_undotted x y =
    all_append (differs 46) (codes "X" ++ decimal x ++ codes "Y") (decimal y)
    (all_append (differs 46) (codes "X" ++ decimal x) (codes "Y") (all_append (differs 46) (codes "X") (decimal x) refl (decimal_undotted x)) refl) (decimal_undotted y)

-- ---- names are cut

dots : (place first second : List ℕ) → place ++ codes "." ++ first ++ codes "." ++ second ≡ place ++ 46 ∷ (first ++ 46 ∷ second)
dots place first second =
    append_assoc (place ++ codes "." ++ first) (codes ".") second
    ∙ append_assoc (place ++ codes ".") first (codes "." ++ second)
    ∙ append_assoc place (codes ".") (first ++ (codes "." ++ second))

-- a name of a place and two words, of which the first has no dot
cut : (fabric : PlainFabric) (x y : ℕ) (tile : PlainTile) (first second : List ℕ) → IsFabric fabric → tile_at fabric x y ≡ Some tile → Undotted first →
    said_of fabric (place_name x y ++ codes "." ++ first ++ codes "." ++ second) ≡ said_in tile x y first second
unfolding said_of
cut fabric x y tile first second is tile_is plain =
    let inside = tile_within fabric x y tile tile_is in
    let read = place_read x y (omega (arith, inside.0, is.few_columns)) (omega (arith, inside.1, is.few_rows)) in
    let last : TwoParts → PlaceAt → PlainTile → Option Said = λ words place tile. cond (nat_eq (length place.rest) 0) (said_in tile place.x place.y words.0 words.1) None in
    let third : TwoParts → PlaceAt → Option Said = λ words place. option_and_then (last words place) (tile_at fabric place.x place.y) in
    let second_step : TwoParts → TwoParts → Option Said = λ front words. option_and_then (third words) (place_at front.0) in
    let front : TwoParts = (place_name x y, first ++ 46 ∷ second) in
    let words : TwoParts = (first, second) in
    ap (said_of fabric) (dots (place_name x y) first second)
    ∙ ap (option_and_then (λ (front : TwoParts). option_and_then (second_step front) (parted 46 front.1))) (parted_at 46 (place_name x y) (first ++ 46 ∷ second) (place_undotted x y))
    ∙ ap (option_and_then (second_step front)) (parted_at 46 first second plain)
    ∙ ap (option_and_then (third words)) read
    ∙ ap (option_and_then (last words (whole_place x y))) tile_is

-- ---- fields of BELs

letter_read : (n : ℕ) → n < 26 → letter_of ((65 + n) ∷ []) ≡ Some n
letter_read n few =
    let test : (nat_le 65 (65 + n) && nat_le (65 + n) 90) ≡ true = grind (arith, nat_tests) in
    let back : 65 + n - 65 ≡ n = omega arith in
    rw (test, back) refl

letter_undotted : (n : ℕ) → Undotted ((65 + n) ∷ [])
letter_undotted n = (let differ : differs 46 (65 + n) ≡ true = grind (arith, nat_tests) in rw differ refl)

pub field_said : (fabric : PlainFabric) (site : Site) (tile : PlainTile) (found : Bel) (word : List ℕ) (field : TwoNumbers) → IsFabric fabric → tile_at fabric site.x site.y ≡ Some tile → site.bel < 26 →
    slice_get tile.bels site.bel ≡ Some found → field_of found.kind word ≡ Some field → said_of fabric (field_name site word) ≡ Some (said.OfBel (bel_field site.x site.y site.bel field.0 field.1))
field_said fabric site tile found word field is tile_is few bel_is field_is =
    let letter : List ℕ = (65 + site.bel) ∷ [] in
    let last : ℕ → Bel → Option Said = λ n bel. option_and_then (λ (f : TwoNumbers). Some (said.OfBel (bel_field site.x site.y n f.0 f.1))) (field_of bel.kind word) in
    let said_is : field_in tile site.x site.y letter word ≡ Some (said.OfBel (bel_field site.x site.y site.bel field.0 field.1)) =
    ap (option_and_then (λ n. option_and_then (last n) (slice_get tile.bels n))) (letter_read site.bel few)
    ∙ ap (option_and_then (last site.bel)) bel_is
    ∙ ap (option_and_then (λ (f : TwoNumbers). Some (said.OfBel (bel_field site.x site.y site.bel f.0 f.1)))) field_is in
    cut fabric site.x site.y tile letter word is tile_is (letter_undotted site.bel)
    ∙ ap (λ (o : Option Said). first_of o (pair_in tile site.x site.y letter word)) said_is

-- ---- pairs

no_letter : (word : List ℕ) → 2 ≤ length word → letter_of word ≡ None
no_letter [] long = absurd (omega (arith, long))
no_letter (byte ∷ []) long = absurd (omega (arith, long))
no_letter (byte ∷ next ∷ more) long = refl

-- a matrix name has its number
name_numbered : (tile : PlainTile) (number : ℕ) → IsTile tile → number < length (matrix_names tile) → number_in tile (get_or (matrix_names tile) number []) ≡ Some number
name_numbered tile number is few =
    let names = matrix_names tile in
    let name = get_or names number [] in
    let own : position_or_len (bytes_eq name) names ≡ number = own_number names name number is.apart (few, at_itself names number [] few) in
    position_is (bytes_eq name) names number own few
  where
    position_is : {X : Type 0} (p : X → Bool) (xs : List X) (n : ℕ) → position_or_len p xs ≡ n → n < length xs → position p xs ≡ Some n
    position_is p xs n same inside = rw (same, lt-ltb n (length xs) inside) refl

    at_itself : (xs : List (List ℕ)) (k : ℕ) (d : List ℕ) → k < length xs → get_or xs k (get_or xs k d) ≡ get_or xs k d
    at_itself [] k d few = absurd (omega (arith, few))
    at_itself (x ∷ xs) zero d few = refl
    at_itself (x ∷ xs) (suc k) d few = at_itself xs k d (omega (arith, few))

pub pair_said : (fabric : PlainFabric) (x y output input : ℕ) (tile : PlainTile) (pair : Pair) → IsFabric fabric → tile_at fabric x y ≡ Some tile → IsTile tile → IsNamed tile → HasPrefixes tile →
    Contains tile.pairs pair → pair.output ≡ output → pair.input ≡ input → list_any (λ other. nat_eq other input) (matrix_inputs tile output) ≡ true →
    said_of fabric (pair_name fabric x y input output) ≡ Some (said.OfPair (choice x y output input))
pair_said fabric x y output input tile pair is tile_is is_tile named_tile prefixed listed output_is input_is paired =
    let is_pair : IsPair tile pair = of_all (IsPair tile) tile.pairs pair is_tile.pairs listed in
    let names = matrix_names tile in
    let first : List ℕ = get_or names input [] in
    let second : List ℕ = get_or names output [] in
    let few_in : input < length names = omega (arith, passes_named _ tile pair.input is_pair.input, input_is) in
    let few_out : output < length names = omega (arith, passes_named _ tile pair.output is_pair.output, output_is) in
    let word : IsInputName first = subst (λ n. IsInputName (get_or names n [])) input_is (input_name tile named_tile prefixed pair.input is_pair.input) in
    let no_field : field_in tile x y first second ≡ None =
    ap (option_and_then (λ n. option_and_then (λ (bel : Bel). option_and_then (λ (f : TwoNumbers). Some (said.OfBel (bel_field x y n f.0 f.1))) (field_of bel.kind second)) (slice_get tile.bels n))) (no_letter first word.long) in
    let a_pair : pair_in tile x y first second ≡ Some (said.OfPair (choice x y output input)) =
    ap (option_and_then (λ from. option_and_then (λ to. pair_of tile x y from to) (number_in tile second))) (name_numbered tile input is_tile few_in)
    ∙ ap (option_and_then (λ to. pair_of tile x y input to)) (name_numbered tile output is_tile few_out)
    ∙ ap (λ b. cond b (Some (said.OfPair (choice x y output input))) None) paired in
    ap (said_of fabric) (named fabric x y input output tile tile_is)
    ∙ cut fabric x y tile first second is tile_is word.undotted
    ∙ ap (λ (o : Option Said). first_of o (pair_in tile x y first second)) no_field
    ∙ a_pair
