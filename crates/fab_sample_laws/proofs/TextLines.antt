-- The lines of a text that is made of words, and their words.
use Rattle.std.proofs.Common.{◌≡◌, ℕ, suc, ◌-◌, ◌<◌, ◌≤◌, Bool, true, false, ◌&&◌, ◌||◌, eqb, List, [], ◌∷◌, ◌++◌, length, get_or, filter, map, refl, ap, ◌∙◌, ◌⊎◌, inl, inr, arith, append_assoc, All, length-append}
use Rattle.std.specs.Prelude.{not, ◌==◌}
use Rattle.std.specs.List.{list_all, list_any, slice_split}
use Rattle.std.specs.Str.Lines.{lines, lines_of_parts, strip_carriage_return}
use Rattle.std.proofs.lemmas.Bool.{cases_Bool}
use Rattle.std.proofs.lemmas.Bool.Decides.{nat_tests}
use Rattle.std.proofs.lemmas.List.Splits.{slice_split_at, slice_split_none, length-slice_split}
use Rattle.std.proofs.lemmas.List.Elements.{All-cons, All-nil}
use Rattle.fab_lines.specs.Parts.{uncommented}
use Rattle.fab_lines.specs.Joined.{goes_on, joined, joined_lines}
use Rattle.fab_blif_models.specs.Words.{Word, is_of_word, is_foreign, words}
use Rattle.fab_lines.specs.Items.{is_filled}
use Rattle.fab_blif_models.proofs.Parts.{before_none}
use Rattle.fab_sample_laws.specs.Items.{Row, row_line, rows_text}

-- a byte of a word that means nothing else on a line: no `#`, no `\`
abbrev pub is_plain : ℕ → Bool
is_plain byte = is_of_word byte && not (byte == 35) && not (byte == 92)

abbrev pub is_word : Word → Bool
is_word word = is_filled word && list_all is_plain word

-- a line has words
abbrev pub is_row : Row → Bool
is_row row = not (length row == 0) && list_all is_word row

pub both_true : (a b : Bool) → (a && b) ≡ true → (a ≡ true) × (b ≡ true)
both_true true b h = (refl, h)
both_true false b h = absurd cc

not_true : (a : Bool) → not a ≡ true → a ≡ false
not_true true h = absurd cc
not_true false h = refl

pub all_joined : {X : Type 0} (p : X → Bool) (xs ys : List X) → list_all p xs ≡ true → list_all p ys ≡ true → list_all p (xs ++ ys) ≡ true
all_joined p [] ys h k = k
all_joined p (x ∷ xs) ys h k = let b = both_true (p x) (list_all p xs) h in rw b.0 (all_joined p xs ys b.1 k)

pub all_weaker : {X : Type 0} (p q : X → Bool) → ((x : X) → p x ≡ true → q x ≡ true) → (xs : List X) → list_all p xs ≡ true → list_all q xs ≡ true
all_weaker p q f [] h = refl
all_weaker p q f (x ∷ xs) h = let b = both_true (p x) (list_all p xs) h in rw (f x b.0) (all_weaker p q f xs b.1)

none_passes : {X : Type 0} (p q : X → Bool) → ((x : X) → p x ≡ true → q x ≡ false) → (xs : List X) → list_all p xs ≡ true → All (λ x. q x ≡ false) xs
none_passes p q f [] h = All-nil (λ x. q x ≡ false)
none_passes p q f (x ∷ xs) h = let b = both_true (p x) (list_all p xs) h in All-cons (λ x. q x ≡ false) x xs (f x b.0) (none_passes p q f xs b.1)

none_of : {X : Type 0} (p q : X → Bool) → ((x : X) → p x ≡ true → q x ≡ false) → (xs : List X) → list_all p xs ≡ true → list_any q xs ≡ false
none_of p q f [] h = refl
none_of p q f (x ∷ xs) h = let b = both_true (p x) (list_all p xs) h in rw (f x b.0) (none_of p q f xs b.1)

-- a byte of a line: plain or a blank
abbrev is_on_line : ℕ → Bool
is_on_line byte = is_plain byte || (byte == 32)

on_line : (byte : ℕ) → is_plain byte ≡ true → is_on_line byte ≡ true
on_line byte h = rw h refl

plain_or_blank : (byte : ℕ) → is_on_line byte ≡ true → (is_plain byte ≡ true) ⊎ (byte ≡ 32)
plain_or_blank byte h = elim (cases_Bool (is_plain byte)) [
  | inl t ↦ inl t
  | inr f ↦ (let blank : (byte == 32) ≡ true = rw f at h in inr (grind (arith, nat_tests)))
]

-- what holds of a plain byte and of a blank holds of all bytes of a line
by_byte : (q : ℕ → Bool) → ((byte : ℕ) → is_plain byte ≡ true → q byte ≡ false) → q 32 ≡ false → (byte : ℕ) → is_on_line byte ≡ true → q byte ≡ false
by_byte q plain blank byte h = elim (plain_or_blank byte h) [
  | inl t ↦ plain byte t
  | inr same ↦ ap q same ∙ blank
]

-- ---- what a plain byte is not

pub plain_word : (byte : ℕ) → is_plain byte ≡ true → is_of_word byte ≡ true
plain_word byte h = (both_true (is_of_word byte) (not (byte == 35)) (both_true (is_of_word byte && not (byte == 35)) (not (byte == 92)) h).0).0

pub plain_no_comment : (byte : ℕ) → is_plain byte ≡ true → (byte == 35) ≡ false
plain_no_comment byte h = not_true (byte == 35) (both_true (is_of_word byte) (not (byte == 35)) (both_true (is_of_word byte && not (byte == 35)) (not (byte == 92)) h).0).1

plain_no_split : (byte : ℕ) → is_plain byte ≡ true → not (is_of_word byte) ≡ false
plain_no_split byte h = rw (plain_word byte h) refl

plain_not_foreign : (byte : ℕ) → is_plain byte ≡ true → is_foreign byte ≡ false
plain_not_foreign byte h = rw (plain_word byte h) refl

pub least_word : (byte : ℕ) → is_of_word byte ≡ true → 33 ≤ byte
least_word byte h = grind (arith, nat_tests)

pub plain_no_feed : (byte : ℕ) → is_plain byte ≡ true → eqb byte 10 ≡ false
plain_no_feed byte h = let least = least_word byte (plain_word byte h) in grind (arith, nat_tests)

pub plain_no_return : (byte : ℕ) → is_plain byte ≡ true → eqb byte 13 ≡ false
plain_no_return byte h = let least = least_word byte (plain_word byte h) in grind (arith, nat_tests)

plain_ends : (byte : ℕ) → is_plain byte ≡ true → (byte == 92) ≡ false
plain_ends byte h = not_true (byte == 92) (both_true (is_of_word byte && not (byte == 35)) (not (byte == 92)) h).1

-- ---- one line

filled : (word : Word) → is_word word ≡ true → (is_filled word ≡ true) × (list_all is_plain word ≡ true)
filled word h = both_true (is_filled word) (list_all is_plain word) h

line_of_words : (row : Row) → list_all is_word row ≡ true → list_all is_on_line (row_line row) ≡ true
line_of_words [] h = refl
line_of_words (w ∷ []) h = all_weaker is_plain is_on_line on_line w (filled w (both_true (is_word w) true h).0).1
line_of_words (w ∷ v ∷ ws) h =
    let b = both_true (is_word w) (list_all is_word (v ∷ ws)) h in
    all_joined is_on_line w (32 ∷ row_line (v ∷ ws)) (all_weaker is_plain is_on_line on_line w (filled w b.0).1) (line_of_words (v ∷ ws) b.1)

abbrev cuts : ℕ → Bool
cuts byte = not (is_of_word byte)

words_of_line : (row : Row) → list_all is_word row ≡ true → words (row_line row) ≡ row
words_of_line [] h = refl
words_of_line (w ∷ []) h =
    let f = filled w (both_true (is_word w) true h).0 in
    ap (filter is_filled) (slice_split_none cuts w (none_passes is_plain cuts plain_no_split w f.1)) ∙ rw f.0 refl
words_of_line (w ∷ v ∷ ws) h =
    let b = both_true (is_word w) (list_all is_word (v ∷ ws)) h in
    let f = filled w b.0 in
    ap (filter is_filled) (slice_split_at cuts w 32 (row_line (v ∷ ws)) (none_passes is_plain cuts plain_no_split w f.1) refl) ∙ rw f.0 (ap (λ (l : Row). w ∷ l) (words_of_line (v ∷ ws) b.1))

pub row_words : (row : Row) → is_row row ≡ true → words (row_line row) ≡ row
row_words row h = words_of_line row (both_true (not (length row == 0)) (list_all is_word row) h).1

on_line_all : (row : Row) → is_row row ≡ true → list_all is_on_line (row_line row) ≡ true
on_line_all row h = line_of_words row (both_true (not (length row == 0)) (list_all is_word row) h).1

pub row_not_foreign : (row : Row) → is_row row ≡ true → list_any is_foreign (row_line row) ≡ false
row_not_foreign row h = none_of is_on_line is_foreign (by_byte is_foreign plain_not_foreign refl) (row_line row) (on_line_all row h)

row_no_feed : (row : Row) → is_row row ≡ true → All (λ byte. eqb byte 10 ≡ false) (row_line row)
row_no_feed row h = none_passes is_on_line (λ byte. eqb byte 10) (by_byte (λ byte. eqb byte 10) plain_no_feed refl) (row_line row) (on_line_all row h)

row_uncommented : (row : Row) → is_row row ≡ true → uncommented (row_line row) ≡ row_line row
row_uncommented row h =
    before_none (λ byte. byte == 35) (row_line row) (none_of is_on_line (λ byte. byte == 35) (by_byte (λ byte. byte == 35) plain_no_comment refl) (row_line row) (on_line_all row h))

-- ---- the last byte of a line

-- the last byte of a list, or another one where it has none
pub last_passes : (p : ℕ → Bool) (xs : List ℕ) (other : ℕ) → list_all p xs ≡ true → 0 < length xs → p (get_or xs (length xs - 1) other) ≡ true
last_passes p [] other h some = absurd (omega arith)
last_passes p (x ∷ []) other h some = (both_true (p x) true h).0
last_passes p (x ∷ y ∷ xs) other h some =
    let b = both_true (p x) (list_all p (y ∷ xs)) h in
    let later : length (x ∷ y ∷ xs) - 1 ≡ suc (length (y ∷ xs) - 1) = omega arith in
    ap (λ n. p (get_or (x ∷ y ∷ xs) n other)) later ∙ last_passes p (y ∷ xs) other b.1 (omega arith)

row_some : (row : Row) → is_row row ≡ true → 0 < length (row_line row)
row_some [] h = absurd cc
row_some (w ∷ []) h = word_some w (filled w (both_true (is_word w) true (both_true true (list_all is_word (w ∷ [])) h).1).0).0
  where
    word_some : (word : Word) → is_filled word ≡ true → 0 < length word
    word_some [] is = absurd cc
    word_some (byte ∷ bytes) is = omega arith
row_some (w ∷ v ∷ ws) h = omega (arith, length-append w (32 ∷ row_line (v ∷ ws)))

row_last : (q : ℕ → Bool) (row : Row) → ((byte : ℕ) → is_on_line byte ≡ true → q byte ≡ false) → is_row row ≡ true → q (get_or (row_line row) (length (row_line row) - 1) 0) ≡ false
row_last q row fails h = fails (get_or (row_line row) (length (row_line row) - 1) 0) (last_passes is_on_line (row_line row) 0 (on_line_all row h) (row_some row h))

strip_of : (line : List ℕ) → eqb (get_or line (length line - 1) 0) 13 ≡ false → strip_carriage_return line ≡ line
strip_of [] h = refl
strip_of (byte ∷ bytes) h = rw h refl

row_stripped : (row : Row) → is_row row ≡ true → strip_carriage_return (row_line row) ≡ row_line row
row_stripped row h = strip_of (row_line row) (row_last (λ byte. eqb byte 13) row (by_byte (λ byte. eqb byte 13) plain_no_return refl) h)

row_ends : (row : Row) → is_row row ≡ true → goes_on (row_line row) ≡ false
row_ends row h = row_last (λ byte. byte == 92) row (by_byte (λ byte. byte == 92) plain_ends refl) h

-- ---- all lines

abbrev is_feed : ℕ → Bool
is_feed byte = eqb byte 10

more_parts : (part : List ℕ) (parts : List (List ℕ)) → 0 < length parts → lines_of_parts (part ∷ parts) ≡ strip_carriage_return part ∷ lines_of_parts parts
more_parts part [] some = absurd (omega arith)
more_parts part (next ∷ parts) some = refl

lines_before : (line rest : List ℕ) → All (λ byte. is_feed byte ≡ false) line → strip_carriage_return line ≡ line → lines (line ++ 10 ∷ rest) ≡ line ∷ lines rest
lines_before line rest none whole =
    ap lines_of_parts (slice_split_at is_feed line 10 rest none refl)
    ∙ more_parts line (slice_split is_feed rest) (omega (arith, length-slice_split is_feed rest))
    ∙ ap (λ (l : List ℕ). l ∷ lines rest) whole

abbrev pub are_rows : List Row → Bool
are_rows rows = list_all is_row rows

pub rows_lines : (rows : List Row) → are_rows rows ≡ true → lines (rows_text rows) ≡ map row_line rows
rows_lines [] h = refl
rows_lines (row ∷ rows) h =
    let b = both_true (is_row row) (are_rows rows) h in
    let cut : rows_text (row ∷ rows) ≡ row_line row ++ 10 ∷ rows_text rows = append_assoc (row_line row) (10 ∷ []) (rows_text rows) in
    ap lines cut ∙ lines_before (row_line row) (rows_text rows) (row_no_feed row b.0) (row_stripped row b.0) ∙ ap (λ (l : List (List ℕ)). row_line row ∷ l) (rows_lines rows b.1)

all_uncommented : (rows : List Row) → are_rows rows ≡ true → map uncommented (map row_line rows) ≡ map row_line rows
all_uncommented [] h = refl
all_uncommented (row ∷ rows) h =
    let b = both_true (is_row row) (are_rows rows) h in
    λ j. row_uncommented row b.0 j ∷ all_uncommented rows b.1 j

all_joined_lines : (rows : List Row) → are_rows rows ≡ true → joined (map row_line rows) ≡ map row_line rows
all_joined_lines [] h = refl
all_joined_lines (row ∷ rows) h =
    let b = both_true (is_row row) (are_rows rows) h in
    rw (row_ends row b.0) (ap (λ (l : List (List ℕ)). row_line row ∷ l) (all_joined_lines rows b.1))

-- the joined lines of a text of rows are the lines of its rows
pub rows_joined : (rows : List Row) → are_rows rows ≡ true → joined_lines (rows_text rows) ≡ map row_line rows
rows_joined rows h = ap (λ (l : List (List ℕ)). joined (map uncommented l)) (rows_lines rows h) ∙ ap joined (all_uncommented rows h) ∙ all_joined_lines rows h

pub rows_words : (rows : List Row) → are_rows rows ≡ true → map words (map row_line rows) ≡ rows
rows_words [] h = refl
rows_words (row ∷ rows) h =
    let b = both_true (is_row row) (are_rows rows) h in
    λ j. row_words row b.0 j ∷ rows_words rows b.1 j
