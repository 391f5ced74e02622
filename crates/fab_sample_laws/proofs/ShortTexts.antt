-- The text of a sample's netlist is short.
use Rattle.std.proofs.Common.{◌≡◌, ℕ, zero, suc, ◌+◌, ◌-◌, ◌*◌, ◌%◌, ◌≤◌, ◌<◌, List, [], ◌∷◌, ◌++◌, length, map, codes, refl, sym, ap, subst, inl, inr, arith, length-append}
use Rattle.std.specs.List.{AllByRecursion as Each, flat_map, range_with_len}
use Rattle.std.proofs.lemmas.Bool.{cases_Bool}
use Rattle.std.proofs.lemmas.Fmt.{length-decimal-le}
use Rattle.std.proofs.lemmas.List.FromFn.{length-map-range_with_len, length-range_with_len}
use Rattle.fab_base.specs.declared.TheConstants.{MAX_FILE_BYTES}
use Rattle.fab_blif_models.specs.Words.{Word}
use Rattle.fab_blif.proofs.Each.{each_joined}
use Rattle.fab_sample.specs.Netlists.{net_name, bit_of}
use Rattle.fab_sample.specs.Drawn.{net_at, drawn_cover}
use Rattle.fab_sample_laws.specs.Items.{Row, row_line, rows_text, Pattern, Item, pattern_row, item_rows, model_rows}
use Rattle.fab_sample_laws.specs.Samples.{pattern_if_on, patterns_of, input_words, output_words}
use Rattle.fab_sample_laws.proofs.TaggedWords.{tagged, run}
use Rattle.fab_sample_laws.proofs.SampleItems.{items, cover_at, latch_at, output_at, flat_items, each_number, each_flat_map, net_cases, inputs_are, output_words_are, square, large}

abbrev IsShort : Word → Type 0
IsShort word = length word ≤ 8

-- a row of few short words
record IsShortRow (row : Row) : Type 0 where
  few : length row ≤ 17
  words : Each IsShort row

pub line_length : (row : Row) → Each IsShort row → length (row_line row) ≤ 9 * length row
line_length [] all = omega arith
line_length (word ∷ []) all = omega (arith, all.0)
line_length (word ∷ next ∷ row) all = omega (arith, all.0, line_length (next ∷ row) all.1, length-append word (32 ∷ row_line (next ∷ row)))

text_length : (rows : List Row) → Each IsShortRow rows → length (rows_text rows) ≤ 154 * length rows
text_length [] all = omega arith
text_length (row ∷ rows) all =
    omega (arith, text_length rows all.1, line_length row all.0.words, all.0.few, length-append (row_line row ++ codes "\n") (rows_text rows), length-append (row_line row) (codes "\n"))

short_tagged : (letter number : ℕ) → number ≤ 256 → length (tagged letter number) ≤ 4
short_tagged letter number few = omega (arith, length-decimal-le 3 number (omega arith) (omega (arith, few)) (omega (arith, few)))

pub short_run : (letter first count : ℕ) → first + count ≤ 256 → Each IsShort (run letter first count)
short_run letter first zero few = tt
short_run letter first (suc count) few = (omega (arith, short_tagged letter first (omega (arith, few))), short_run letter (first + 1) count (omega (arith, few)))

short_patterns : (patterns : List Pattern) → Each IsShortRow (map pattern_row patterns)
short_patterns [] = tt
short_patterns (pattern ∷ patterns) = (record { few = omega arith; words = (omega arith, (omega arith, tt)) }, short_patterns patterns)

few_on : (table : ℕ) (all : List ℕ) → length (flat_map (pattern_if_on table) all) ≤ length all
few_on table [] = omega arith
few_on table (spelled ∷ all) = elim (cases_Bool (bit_of table spelled)) [
  | inl t ↦ rw t (omega (arith, few_on table all))
  | inr f ↦ rw f (omega (arith, few_on table all))
]

pub length-mapped : {X Y : Type 0} (f : X → Y) (xs : List X) → length (map f xs) ≡ length xs
length-mapped f [] = refl
length-mapped f (x ∷ xs) = ap suc (length-mapped f xs)

-- each item has nine rows at the most
nine_each : (f : ℕ → Item) → ((number : ℕ) → length (item_rows (f number)) ≤ 9) → (numbers : List ℕ) → length (flat_map item_rows (map f numbers)) ≤ 9 * length numbers
nine_each f few [] = omega arith
nine_each f few (number ∷ numbers) = omega (arith, length-append (item_rows (f number)) (flat_map item_rows (map f numbers)), few number, nine_each f few numbers)

module _ (size : ℕ) (draws later : ℕ → ℕ) (some : 1 ≤ size) (most : size ≤ 16) where
  short_net : (place : ℕ) → place < 2 * size + size * size → IsShort (net_name (net_at size place))
  short_net place below = elim (net_cases size place) [
    | inl input ↦ subst (λ net. IsShort (net_name net)) (sym input.0) (omega (arith, short_tagged 105 place (omega (arith, input.1, most))))
    | inr (inl latch) ↦ subst (λ net. IsShort (net_name net)) (sym latch.0) (omega (arith, short_tagged 113 (place - size) (omega (arith, latch.1, most))))
    | inr (inr cover) ↦ subst (λ net. IsShort (net_name net)) (sym cover.0)
        (omega (arith, short_tagged 110 (place - 2 * size) (omega (arith, below, square size draws later some most))))
  ]

  short_drawn : (word known : ℕ) → 1 ≤ known → known ≤ 2 * size + size * size → IsShort (net_name (net_at size (word % known)))
  short_drawn word known one few = short_net (word % known) (omega (arith, one, few))

  short_cover : (number : ℕ) → 0 ≤ number → number < 0 + size * size → Each IsShortRow (item_rows (cover_at size draws later number))
  short_cover number least within =
      let known = 2 * size + number in
      let one : 1 ≤ known = omega (arith, some) in
      let few : known ≤ 2 * size + size * size = omega (arith, within) in (
        record {
          few = omega arith;
          words = (
            omega arith,
            (
              short_drawn (draws (4 * number)) known one few,
              (
                short_drawn (draws (4 * number + 1)) known one few,
                (
                  short_drawn (draws (4 * number + 2)) known one few,
                  (omega (arith, short_tagged 110 number (omega (arith, within, square size draws later some most))), tt),
                ),
              ),
            ),
          );
        },
        short_patterns (patterns_of (drawn_cover size draws number).table),
      )

  short_latch : (number : ℕ) → 0 ≤ number → number < 0 + size → Each IsShortRow (item_rows (latch_at size draws later number))
  short_latch number least within =
      let wide = square size draws later some most in
      let read = later (2 * number) % (size * size) in (
        record {
          few = omega arith;
          words = (omega arith, (omega (arith, short_tagged 110 read (omega (arith, wide, large size draws later some most, some))), (omega (arith, short_tagged 113 number (omega (arith, within, most))), (omega arith, tt))));
        },
        tt,
      )

  short_output : (number : ℕ) → 0 ≤ number → number < 0 + size → Each IsShortRow (item_rows (output_at size draws later number))
  short_output number least within =
      let wide = square size draws later some most in
      let read = size * size - size + number in (
        record {
          few = omega arith;
          words = (omega arith, (omega (arith, short_tagged 110 read (omega (arith, wide, large size draws later some most, within))), (omega (arith, short_tagged 111 number (omega (arith, within, most))), tt)));
        },
        (record { few = omega arith; words = (omega arith, (omega arith, tt)) }, tt),
      )

  short_items : Each IsShortRow (flat_map item_rows (items size draws later))
  short_items =
      subst (Each IsShortRow) (sym (flat_items size draws later item_rows))
      (each_joined IsShortRow (flat_map item_rows (map (cover_at size draws later) (range_with_len 0 (size * size)))) _
      (each_flat_map IsShortRow item_rows (cover_at size draws later) (range_with_len 0 (size * size)) (each_number _ 0 (size * size) short_cover))
      (each_joined IsShortRow (flat_map item_rows (map (latch_at size draws later) (range_with_len 0 size))) _
      (each_flat_map IsShortRow item_rows (latch_at size draws later) (range_with_len 0 size) (each_number _ 0 size short_latch))
      (each_flat_map IsShortRow item_rows (output_at size draws later) (range_with_len 0 size) (each_number _ 0 size short_output))))

  rows_count : length (flat_map item_rows (items size draws later)) ≤ 9 * (size * size) + 18 * size
  rows_count =
      let first = flat_map item_rows (map (cover_at size draws later) (range_with_len 0 (size * size))) in
      let second = flat_map item_rows (map (latch_at size draws later) (range_with_len 0 size)) in
      let third = flat_map item_rows (map (output_at size draws later) (range_with_len 0 size)) in
      omega (
        arith,
        ap length (flat_items size draws later item_rows),
        length-append first (second ++ third),
        length-append second third,
        nine_each (cover_at size draws later) cover_nine (range_with_len 0 (size * size)),
        nine_each (latch_at size draws later) (λ number. omega arith) (range_with_len 0 size),
        nine_each (output_at size draws later) (λ number. omega arith) (range_with_len 0 size),
        length-range_with_len 0 (size * size),
        length-range_with_len 0 size,
      )
    where
      cover_nine : (number : ℕ) → length (item_rows (cover_at size draws later number)) ≤ 9
      cover_nine number =
          let table = (drawn_cover size draws number).table in
          omega (arith, few_on table (range_with_len 0 8), length-mapped pattern_row (patterns_of table))

  ports_row : (first : Word) (names : List Word) (letter : ℕ) → IsShort first → names ≡ run letter 0 size → IsShortRow (first ∷ names)
  ports_row first names letter short are = record {
    few = omega (arith, most, ap length are, length-map-range_with_len (tagged letter) 0 size);
    words = (short, subst (Each IsShort) (sym are) (short_run letter 0 size (omega (arith, most))));
  }

  pub short_model : length (rows_text (model_rows (codes "sample") (input_words size) (output_words size) (items size draws later))) ≤ MAX_FILE_BYTES
  short_model =
      let rows = flat_map item_rows (items size draws later) in
      let end : Row = codes ".end" ∷ [] in
      let all : Each IsShortRow (model_rows (codes "sample") (input_words size) (output_words size) (items size draws later)) = (
        record { few = omega arith; words = (omega arith, (omega arith, tt)) },
        (
          ports_row (codes ".inputs") (input_words size) 105 (omega arith) (inputs_are size draws later some most),
          (
            ports_row (codes ".outputs") (output_words size) 111 (omega arith) (output_words_are size draws later some most),
            each_joined IsShortRow rows (end ∷ []) short_items (record { few = omega arith; words = (omega arith, tt) }, tt),
          ),
        ),
      ) in
      omega (arith, text_length (model_rows (codes "sample") (input_words size) (output_words size) (items size draws later)) all, length-append rows (end ∷ []), rows_count, square size draws later some most, most)
