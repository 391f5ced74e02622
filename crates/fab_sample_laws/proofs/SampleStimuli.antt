-- The stimuli of samples are read.
use Rattle.std.proofs.Common.{◌≡◌, ℕ, zero, suc, ◌+◌, ◌-◌, ◌*◌, ◌≤◌, ◌<◌, Bool, true, false, not, List, [], ◌∷◌, ◌++◌, length, map, get_or, codes, refl, sym, ap, subst, ◌∙◌, arith, length-append}
use Rattle.std.specs.Prelude.{◌==◌, nat_lt}
use Rattle.std.specs.List.{AllByRecursion as Each, list_all, range_with_len, position_or_len}
use Rattle.std.specs.Str.{bytes_eq}
use Rattle.std.proofs.lemmas.Bool.{lt-ltb}
use Rattle.std.proofs.lemmas.Bool.Decides.{nat_tests}
use Rattle.std.proofs.lemmas.List.Elements.{All-contains_itself, All-from_recursion}
use Rattle.std.proofs.lemmas.List.FromFn.{length-map-range_with_len, get_or-map-range_with_len}
use Rattle.std.proofs.lemmas.List.Sums.{position_or_len_is}
use Rattle.fab_base.specs.declared.TheConstants.{MAX_FILE_BYTES}
use Rattle.fab_texts.specs.Rows.{Word, rows_of, words_of}
use Rattle.fab_texts.specs.Printed as printed
use Rattle.fab_texts.proofs.PrintedRows.{rows_again}
use Rattle.fab_state.specs.Spelled.{AreApart}
use Rattle.fab_stimulus.specs.Stimuli.{place_in}
use Rattle.fab_stimulus.specs.Spelled as stimuli
use Rattle.fab_stimulus.specs.Spelled.{Spells, Says, names_line, digits_line, digits_for, SpelledStimuliAreRead}
use Rattle.fab_stimulus.proofs.ReadBack.{spelled_is_read}
use Rattle.fab_sample.specs.Lines.{Line, text, words}
use Rattle.fab_draws.specs.Draws.{behind, is_one}
use Rattle.fab_sample.specs.declared.net.Net.TheVariants as sample
use Rattle.fab_sample.specs.Netlists as netlists
use Rattle.fab_sample.specs.Netlists.{stimulus_text_lines}
use Rattle.fab_sample_laws.specs.Samples.{input_words}
use Rattle.fab_sample_laws.specs.Laws.{stimulus_text, ReadsStimulus, SampleStimuliAreRead}
use Rattle.fab_sample_laws.proofs.TextLines.{is_plain, is_word, plain_word, least_word, plain_no_comment, plain_no_feed, plain_no_return, both_true, all_weaker, last_passes}
use Rattle.fab_sample_laws.proofs.Sameness.{bytes_same, not_same}
use Rattle.fab_sample_laws.proofs.TaggedWords.{tagged, tagged_one, tagged_word, run}
use Rattle.fab_sample_laws.proofs.SampleItems.{mapped_twice}
use Rattle.fab_sample_laws.proofs.ShortTexts.{line_length, short_run, length-mapped}

-- ---- rows of words, as other texts have them

joined_is : (row : List Word) → printed.spaced row ≡ words row
joined_is [] = refl
joined_is (word ∷ []) = refl
joined_is (word ∷ next ∷ row) = ap (λ (l : List ℕ). word ++ 32 ∷ l) (joined_is (next ∷ row))

text_is : (rows : List (List Word)) → text (map words rows) ≡ printed.rows_text rows
text_is [] = refl
text_is (row ∷ rows) = λ j. (sym (joined_is row) j ++ 10 ∷ []) ++ text_is rows j

plain_byte : (byte : ℕ) → is_plain byte ≡ true → printed.is_word_byte byte ≡ true
plain_byte byte h =
    let least = least_word byte (plain_word byte h) in
    let no_blank : (byte == 32) ≡ false = grind (arith, nat_tests) in
    let no_tab : (byte == 9) ≡ false = grind (arith, nat_tests) in
    rw (no_blank, no_tab, plain_no_comment byte h, plain_no_feed byte h) refl

plain_end : (byte : ℕ) → is_plain byte ≡ true → not (byte == 13) ≡ true
plain_end byte h = rw (plain_no_return byte h) refl

word_is : (word : Word) → is_word word ≡ true → printed.is_word word ≡ true
word_is word h =
    let b = both_true (not (length word == 0)) (list_all is_plain word) h in
    rw (b.0, all_weaker is_plain printed.is_word_byte plain_byte word b.1) refl

last_is : (word : Word) → is_word word ≡ true → printed.ends_line word ≡ true
last_is [] h = absurd cc
last_is (byte ∷ bytes) h =
    let b = both_true (not (length (byte ∷ bytes) == 0)) (list_all is_plain (byte ∷ bytes)) h in
    plain_end (get_or (byte ∷ bytes) (length (byte ∷ bytes) - 1) 0) (last_passes is_plain (byte ∷ bytes) 0 b.1 (omega arith))

row_is : (first : Word) (row : List Word) → is_word first ≡ true → list_all is_word row ≡ true → printed.is_row (first ∷ row) ≡ true
row_is first [] here there = rw (word_is first here, last_is first here) refl
row_is first (next ∷ row) here there =
    let b = both_true (is_word next) (list_all is_word row) there in
    rw (word_is first here) (row_is next row b.0 b.1)

-- ---- digits in the order of the ports

same_on_run : {X : Type 0} (f g : ℕ → X) (first count : ℕ) → ((number : ℕ) → first ≤ number → number < first + count → f number ≡ g number) → map f (range_with_len first count) ≡ map g (range_with_len first count)
same_on_run f g first zero same = refl
same_on_run f g first (suc count) same =
    λ j. same first (omega arith) (omega arith) j ∷ same_on_run f g (first + 1) count (λ number least most. same number (omega (arith, least)) (omega (arith, most))) j

place_of_port : (size number : ℕ) → size ≤ 16 → number < size → place_in (run 105 0 size) (tagged 105 number) ≡ number
place_of_port size number most below =
    let many = length-map-range_with_len (tagged 105) 0 size in
    let at : position_or_len (bytes_eq (tagged 105 number)) (run 105 0 size) ≡ number =
    position_or_len_is (bytes_eq (tagged 105 number)) (run 105 0 size) number [] (omega (arith, many, below))
    (λ k before. not_same (tagged 105 number) (get_or (run 105 0 size) k [])
    (λ same. let both = tagged_one 105 105 number k (omega (arith, below, most)) (omega (arith, before, below, most)) (same ∙ get_or-map-range_with_len (tagged 105) 0 size k k [] (omega (arith, before, below)) (omega arith)) in omega (arith, both.1, before)))
    (λ within. bytes_same (tagged 105 number) (get_or (run 105 0 size) number []) (sym (get_or-map-range_with_len (tagged 105) 0 size number number [] below (omega arith)))) in
    let within : nat_lt number (length (run 105 0 size)) ≡ true = ap (nat_lt number) many ∙ lt-ltb number size below in
    rw (at, within) refl

digit_is : (bit : Bool) → stimuli.digit bit ≡ netlists.digit bit
digit_is true = refl
digit_is false = refl

module _ (size : ℕ) (some : 1 ≤ size) (most : size ≤ 16) where
  digits_are : (bits : ℕ → Bool) → digits_for (run 105 0 size) (run 105 0 size) (map bits (range_with_len 0 size)) ≡ map netlists.digit (map bits (range_with_len 0 size))
  digits_are bits =
      let values = map bits (range_with_len 0 size) in
      mapped_twice (λ name. stimuli.digit (get_or values (place_in (run 105 0 size) name) false)) (tagged 105) (range_with_len 0 size)
      ∙ same_on_run (λ number. stimuli.digit (get_or values (place_in (run 105 0 size) (tagged 105 number)) false)) (λ number. netlists.digit (bits number)) 0 size
      (λ number least below.
      ap (λ n. stimuli.digit (get_or values n false)) (place_of_port size number most (omega (arith, below)))
      ∙ ap stimuli.digit (get_or-map-range_with_len bits 0 size number number false (omega (arith, below)) (omega arith))
      ∙ digit_is (bits number))
      ∙ sym (mapped_twice netlists.digit bits (range_with_len 0 size))

  digits_word : (bits : List Bool) → 1 ≤ length bits → is_word (map netlists.digit bits) ≡ true
  digits_word [] none = absurd (omega (arith, none))
  digits_word (bit ∷ bits) one =
      let filled : not (length (map netlists.digit (bit ∷ bits)) == 0) ≡ true = grind (arith, nat_tests) in
      rw (filled, all_plain (bit ∷ bits)) refl
    where
      all_plain : (all : List Bool) → list_all is_plain (map netlists.digit all) ≡ true
      all_plain [] = refl
      all_plain (true ∷ all) = all_plain all
      all_plain (false ∷ all) = all_plain all

  -- ---- a stimulus of lines that a function gives

  module _ (bits : ℕ → ℕ → Bool) where
    abbrev lines : List (List Bool)
    lines = map (λ number. map (bits number) (range_with_len 0 size)) (range_with_len 0 16)

    abbrev digits_row : List Bool → List Word
    digits_row values = map netlists.digit values ∷ []

    long_line : (number : ℕ) → 1 ≤ length (map (bits number) (range_with_len 0 size))
    long_line number = omega (arith, some, length-map-range_with_len (bits number) 0 size)

    -- each row is one that a text can hold
    rows_hold : list_all printed.is_row (run 105 0 size ∷ map digits_row lines) ≡ true
    rows_hold = rw (ports_hold size some most) (digits_hold (range_with_len 0 16))
      where
        digits_hold : (numbers : List ℕ) → list_all printed.is_row (map digits_row (map (λ number. map (bits number) (range_with_len 0 size)) numbers)) ≡ true
        digits_hold [] = refl
        digits_hold (number ∷ numbers) =
            let values = map (bits number) (range_with_len 0 size) in
            rw (row_is (map netlists.digit values) [] (digits_word values (long_line number)) refl) (digits_hold numbers)

        run_words : (first count : ℕ) → first + count ≤ 16 → list_all is_word (run 105 first count) ≡ true
        run_words first zero few = refl
        run_words first (suc count) few = rw (tagged_word 105 first refl (omega (arith, few))) (run_words (first + 1) count (omega (arith, few)))

        ports_hold : (count : ℕ) → 1 ≤ count → count ≤ 16 → printed.is_row (run 105 0 count) ≡ true
        ports_hold zero one few = absurd (omega (arith, one))
        ports_hold (suc count) one few = row_is (tagged 105 0) (run 105 1 count) (tagged_word 105 0 refl (omega arith)) (run_words 1 count (omega (arith, few)))

    -- the first row is that of the names, and each further one that of the digits
    names_are : (count : ℕ) → 1 ≤ count → names_line (run 105 0 count) ≡ run 105 0 count
    names_are zero one = absurd (omega (arith, one))
    names_are (suc count) one = refl

    digits_row_is : (digits : Word) → 1 ≤ length digits → digits_line digits ≡ digits ∷ []
    digits_row_is [] one = absurd (omega (arith, one))
    digits_row_is (digit ∷ digits) one = refl

    rows_said : (numbers : List ℕ) → map digits_row (map (λ number. map (bits number) (range_with_len 0 size)) numbers)
        ≡ map (λ values. digits_line (digits_for (run 105 0 size) (run 105 0 size) values)) (map (λ number. map (bits number) (range_with_len 0 size)) numbers)
    rows_said [] = refl
    rows_said (number ∷ numbers) =
        let values = map (bits number) (range_with_len 0 size) in
        let many = length-mapped netlists.digit values in
        let here : digits_line (digits_for (run 105 0 size) (run 105 0 size) values) ≡ digits_row values =
        ap digits_line (digits_are (bits number)) ∙ digits_row_is (map netlists.digit values) (omega (arith, many, long_line number)) in
        λ j. sym here j ∷ rows_said numbers j

    ports_apart : AreApart (run 105 0 size)
    ports_apart i j other less within same =
        let many = length-map-range_with_len (tagged 105) 0 size in
        let below : j < size = omega (arith, within, many) in
        let both = tagged_one 105 105 i j (omega (arith, less, below, most)) (omega (arith, below, most))
        (sym (get_or-map-range_with_len (tagged 105) 0 size i i other (omega (arith, less, below)) (omega arith)) ∙ same ∙ get_or-map-range_with_len (tagged 105) 0 size j j other below (omega arith)) in
        omega (arith, both.1, less)

    sizes : (numbers : List ℕ) → Each (λ values. length values ≡ length (run 105 0 size)) (map (λ number. map (bits number) (range_with_len 0 size)) numbers)
    sizes [] = tt
    sizes (number ∷ numbers) = (length-map-range_with_len (bits number) 0 size ∙ sym (length-map-range_with_len (tagged 105) 0 size), sizes numbers)

    lines_text : (numbers : List ℕ) → map words (map digits_row (map (λ number. map (bits number) (range_with_len 0 size)) numbers)) ≡ map (map netlists.digit) (map (λ number. map (bits number) (range_with_len 0 size)) numbers)
    lines_text [] = refl
    lines_text (number ∷ numbers) = ap (λ (l : List Line). map netlists.digit (map (bits number) (range_with_len 0 size)) ∷ l) (lines_text numbers)

    ports_are : input_words size ≡ run 105 0 size
    ports_are = mapped_twice netlists.net_name (λ number. sample.Input number) (range_with_len 0 size)

    bytes_are : stimulus_text size lines ≡ printed.rows_text (run 105 0 size ∷ map digits_row lines)
    bytes_are =
        (λ j. text (words (ports_are j) ∷ sym (lines_text (range_with_len 0 16)) j))
        ∙ text_is (run 105 0 size ∷ map digits_row lines)

    spelled : Spells (run 105 0 size) (rows_of (stimulus_text size lines)) lines
    spelled = record {
      names = run 105 0 size;
      named = All-contains_itself (run 105 0 size);
      only = All-contains_itself (run 105 0 size);
      apart = ports_apart;
      sizes = All-from_recursion (λ values. length values ≡ length (run 105 0 size)) lines (sizes (range_with_len 0 16));
      rows_are =
          ap (λ (bytes : List ℕ). words_of (rows_of bytes)) bytes_are
          ∙ rows_again (run 105 0 size ∷ map digits_row lines) rows_hold
          ∙ (λ j. sym (names_are size some) j ∷ rows_said (range_with_len 0 16) j);
    }

    short_lines : (numbers : List ℕ) → length (text (map (map netlists.digit) (map (λ number. map (bits number) (range_with_len 0 size)) numbers))) ≤ 17 * length numbers
    short_lines [] = omega arith
    short_lines (number ∷ numbers) =
        let values = map (bits number) (range_with_len 0 size) in
        let line = map netlists.digit values in
        omega (
          arith,
          short_lines numbers,
          length-append (line ++ codes "\n") (text (map (map netlists.digit) (map (λ n. map (bits n) (range_with_len 0 size)) numbers))),
          length-append line (codes "\n"),
          length-mapped netlists.digit values,
          length-map-range_with_len (bits number) 0 size,
          most,
        )

    short : length (stimulus_text size lines) ≤ MAX_FILE_BYTES
    short =
        let first = words (input_words size) in
        let rest = text (map (map netlists.digit) lines) in
        let few = line_length (input_words size) (subst (Each (λ word. length word ≤ 8)) (sym ports_are) (short_run 105 0 size (omega (arith, most)))) in
        omega (arith, few, ap length ports_are, length-map-range_with_len (tagged 105) 0 size, most, short_lines (range_with_len 0 16), length-append (first ++ codes "\n") rest, length-append first (codes "\n"))

    pub read : ReadsStimulus size lines (stimulus_text size lines)
    read =
        let says : Says (run 105 0 size) (rows_of (stimulus_text size lines)) lines = spelled_is_read (run 105 0 size) (rows_of (stimulus_text size lines)) lines ports_apart spelled in
        record {
          short = short;
          spelled = subst (λ (ports : List Word). Spells ports (rows_of (stimulus_text size lines)) lines) (sym ports_are) spelled;
          says = subst (λ (ports : List Word). Says ports (rows_of (stimulus_text size lines)) lines) (sym ports_are) says;
        }

pub stimuli_read : SampleStimuliAreRead
stimuli_read size draws least most =
    read size (omega (arith, least)) most (λ number place. is_one (behind (number * size) (behind (2 * size) (behind (4 * (size * size)) draws)) place))
