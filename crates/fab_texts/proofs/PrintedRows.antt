-- Rows that are printed are the rows that are read.
use Rattle.std.proofs.Common.{◌≡◌, ℕ, suc, ◌+◌, ◌-◌, ◌<◌, Bool, true, false, ◌&&◌, eqb, List, [], ◌∷◌, ◌++◌, length, take, get_or, filter, refl, sym, ap, ◌∙◌, arith, append_assoc, All, length-append}
use Rattle.std.specs.Prelude.{not, ◌==◌}
use Rattle.std.specs.List.{before_first, list_all, prefix_len, slice_split}
use Rattle.std.specs.Str.Lines.{lines, lines_of_parts, strip_carriage_return}
use Rattle.std.proofs.lemmas.Bool.Decides.{nat_tests}
use Rattle.std.proofs.lemmas.List.{get_or-append-add}
use Rattle.std.proofs.lemmas.List.Splits.{slice_split_at, slice_split_none, length-slice_split}
use Rattle.std.proofs.lemmas.List.Elements.{All-cons, All-nil}
use Rattle.std.proofs.lemmas.List.Concat.{flat_map-cons}
use Rattle.fab_lines.specs.Parts.{is_blank}
use Rattle.fab_texts.specs.Rows.{words, holds_word, rows_from, words_of, rows_of}
use Rattle.fab_lines.specs.Items.{is_filled}
use Rattle.fab_texts.specs.Printed.{spaced, row_text, rows_text, is_word_byte, is_word, ends_line, is_row}

pub both_true : (a b : Bool) → (a && b) ≡ true → (a ≡ true) × (b ≡ true)
both_true true b h = (refl, h)
both_true false b h = absurd cc

pub not_true : (a : Bool) → not a ≡ true → a ≡ false
not_true true h = absurd cc
not_true false h = refl

-- a byte that may stand on a printed line
abbrev is_line_byte : ℕ → Bool
is_line_byte b = not (b == 35) && not (b == 10)

pub all_append : {X : Type 0} (p : X → Bool) (xs ys : List X) → list_all p xs ≡ true → list_all p ys ≡ true → list_all p (xs ++ ys) ≡ true
all_append p [] ys h k = k
all_append p (x ∷ xs) ys h k = let b = both_true (p x) (list_all p xs) h in rw b.0 (all_append p xs ys b.1 k)

all_weaker : {X : Type 0} (p q : X → Bool) → ((x : X) → p x ≡ true → q x ≡ true) → (xs : List X) → list_all p xs ≡ true → list_all q xs ≡ true
all_weaker p q f [] h = refl
all_weaker p q f (x ∷ xs) h = let b = both_true (p x) (list_all p xs) h in rw (f x b.0) (all_weaker p q f xs b.1)

none_passes : {X : Type 0} (p q : X → Bool) → ((x : X) → p x ≡ true → q x ≡ false) → (xs : List X) → list_all p xs ≡ true → All (λ x. q x ≡ false) xs
none_passes p q f [] h = All-nil (λ x. q x ≡ false)
none_passes p q f (x ∷ xs) h = let b = both_true (p x) (list_all p xs) h in All-cons (λ x. q x ≡ false) x xs (f x b.0) (none_passes p q f xs b.1)

one_more : (n : ℕ) → 1 + n ≡ suc n
one_more n = omega arith

none_first : {X : Type 0} (p q : X → Bool) → ((x : X) → p x ≡ true → q x ≡ false) → (xs : List X) → list_all p xs ≡ true → before_first q xs ≡ xs
none_first p q f [] h = refl
none_first p q f (x ∷ xs) h =
    let b = both_true (p x) (list_all p xs) h in
    let other : q x ≡ false = f x b.0 in
    let n = prefix_len (λ y. not (q y)) xs in
    rw other (ap (λ k. take k (x ∷ xs)) (one_more n) ∙ ap (λ ys. x ∷ ys) (none_first p q f xs b.1))

line_no_feed : (b : ℕ) → is_line_byte b ≡ true → eqb b 10 ≡ false
line_no_feed b h = not_true (eqb b 10) (both_true (not (eqb b 35)) (not (eqb b 10)) h).1

line_no_comment : (b : ℕ) → is_line_byte b ≡ true → eqb b 35 ≡ false
line_no_comment b h = not_true (eqb b 35) (both_true (not (eqb b 35)) (not (eqb b 10)) h).0

line_whole : (l : List ℕ) → ends_line l ≡ true → strip_carriage_return l ≡ l
line_whole [] h = refl
line_whole (b ∷ bs) h =
    let last : eqb (get_or (b ∷ bs) (length (b ∷ bs) - 1) 0) 13 ≡ false = not_true _ h in
    rw last refl

-- a byte of a word is no blank, and may stand on a line
word_no_blank : (b : ℕ) → is_word_byte b ≡ true → is_blank b ≡ false
word_no_blank b h =
    let q = both_true (not (is_blank b) && not (eqb b 35)) (not (eqb b 10)) h in
    not_true (is_blank b) (both_true (not (is_blank b)) (not (eqb b 35)) q.0).0

word_on_line : (b : ℕ) → is_word_byte b ≡ true → is_line_byte b ≡ true
word_on_line b h =
    let q = both_true (not (is_blank b) && not (eqb b 35)) (not (eqb b 10)) h in
    let r = both_true (not (is_blank b)) (not (eqb b 35)) q.0 in
    rw (r.1, q.1) refl

-- ---- one line

-- all its words are words
row_words : (row : List (List ℕ)) → is_row row ≡ true → list_all is_word row ≡ true
row_words [] h = refl
row_words (w ∷ []) h = rw (both_true (is_word w) (ends_line w) h).0 refl
row_words (w ∷ v ∷ ws) h = let b = both_true (is_word w) (is_row (v ∷ ws)) h in rw b.0 (row_words (v ∷ ws) b.1)

joined_on_line : (row : List (List ℕ)) → list_all is_word row ≡ true → list_all is_line_byte (spaced row) ≡ true
joined_on_line [] h = refl
joined_on_line (w ∷ []) h =
    let b = both_true (is_word w) true h in
    all_weaker is_word_byte is_line_byte word_on_line w (both_true (is_filled w) (list_all is_word_byte w) b.0).1
joined_on_line (w ∷ v ∷ ws) h =
    let b = both_true (is_word w) (list_all is_word (v ∷ ws)) h in
    all_append is_line_byte w (32 ∷ spaced (v ∷ ws)) (all_weaker is_word_byte is_line_byte word_on_line w (both_true (is_filled w) (list_all is_word_byte w) b.0).1) (joined_on_line (v ∷ ws) b.1)

words_joined : (row : List (List ℕ)) → list_all is_word row ≡ true → filter is_filled (slice_split is_blank (spaced row)) ≡ row
words_joined [] h = refl
words_joined (w ∷ []) h =
    let b = both_true (is_word w) true h in
    let f = both_true (is_filled w) (list_all is_word_byte w) b.0 in
    ap (filter is_filled) (slice_split_none is_blank w (none_passes is_word_byte is_blank word_no_blank w f.1)) ∙ rw f.0 refl
words_joined (w ∷ v ∷ ws) h =
    let b = both_true (is_word w) (list_all is_word (v ∷ ws)) h in
    let f = both_true (is_filled w) (list_all is_word_byte w) b.0 in
    ap (filter is_filled) (slice_split_at is_blank w 32 (spaced (v ∷ ws)) (none_passes is_word_byte is_blank word_no_blank w f.1) refl) ∙ rw f.0 (ap (λ xs. w ∷ xs) (words_joined (v ∷ ws) b.1))

pub row_again : (row : List (List ℕ)) → is_row row ≡ true → words (spaced row) ≡ row
row_again row h =
    let all = row_words row h in
    ap (λ (l : List ℕ). filter is_filled (slice_split is_blank l)) (none_first is_line_byte (λ b. eqb b 35) line_no_comment (spaced row) (joined_on_line row all)) ∙ words_joined row all

filled_some : (word : List ℕ) → is_filled word ≡ true → 0 < length word
filled_some [] h = absurd cc
filled_some (b ∷ bs) h = omega arith

joined_some : (row : List (List ℕ)) → is_row row ≡ true → 0 < length (spaced row)
joined_some [] h = absurd cc
joined_some (w ∷ []) h = filled_some w (both_true (is_filled w) (list_all is_word_byte w) (both_true (is_word w) (ends_line w) h).0).0
joined_some (w ∷ v ∷ ws) h = let whole = length-append w (32 ∷ spaced (v ∷ ws)) in omega (arith, whole)

ends_append : (front text : List ℕ) → 0 < length text → ends_line text ≡ true → ends_line (front ++ text) ≡ true
ends_append front text some ends =
    let whole = length-append front text in
    let place : length (front ++ text) - 1 ≡ length front + (length text - 1) = omega (arith, whole, some) in
    let last : get_or (front ++ text) (length (front ++ text) - 1) 0 ≡ get_or text (length text - 1) 0 = ap (λ n. get_or (front ++ text) n 0) place ∙ get_or-append-add front text (length text - 1) 0 in
    ap (λ b. not (b == 13)) last ∙ ends

pub joined_ends : (row : List (List ℕ)) → is_row row ≡ true → ends_line (spaced row) ≡ true
joined_ends [] h = absurd cc
joined_ends (w ∷ []) h = (both_true (is_word w) (ends_line w) h).1
joined_ends (w ∷ v ∷ ws) h =
    let b = both_true (is_word w) (is_row (v ∷ ws)) h in
    ap ends_line (sym (append_assoc w (32 ∷ []) (spaced (v ∷ ws)))) ∙ ends_append (w ++ 32 ∷ []) (spaced (v ∷ ws)) (joined_some (v ∷ ws) b.1) (joined_ends (v ∷ ws) b.1)

-- ---- all lines

abbrev is_feed : ℕ → Bool
is_feed b = eqb b 10

more_parts : (x : List ℕ) (parts : List (List ℕ)) → 0 < length parts → lines_of_parts (x ∷ parts) ≡ strip_carriage_return x ∷ lines_of_parts parts
more_parts x [] h = absurd (omega arith)
more_parts x (y ∷ more) h = refl

lines_before : (l rest : List ℕ) → All (λ b. is_feed b ≡ false) l → strip_carriage_return l ≡ l → lines (l ++ 10 ∷ rest) ≡ l ∷ lines rest
lines_before l rest none whole =
    ap lines_of_parts (slice_split_at is_feed l 10 rest none refl)
    ∙ more_parts l (slice_split is_feed rest) (omega (arith, length-slice_split is_feed rest))
    ∙ ap (λ x. x ∷ lines rest) whole

abbrev pub are_rows : List (List (List ℕ)) → Bool
are_rows rows = list_all is_row rows

row_holds : (line : ℕ) (row : List (List ℕ)) → is_row row ≡ true → not (length row == 0) ≡ true
row_holds line [] h = absurd cc
row_holds line (w ∷ ws) h = grind (arith, nat_tests)

-- the rows that are printed are read back
rows_from-printed : (number : ℕ) (rows : List (List (List ℕ))) → are_rows rows ≡ true → words_of (filter holds_word (rows_from number (lines (rows_text rows)))) ≡ rows
rows_from-printed number [] h = refl
rows_from-printed number (row ∷ rows) h =
    let b = both_true (is_row row) (are_rows rows) h in
    let cut : rows_text (row ∷ rows) ≡ spaced row ++ 10 ∷ rows_text rows = flat_map-cons row_text row rows ∙ append_assoc (spaced row) (10 ∷ []) (rows_text rows) in
    let on_line = joined_on_line row (row_words row b.0) in
    let first : lines (rows_text (row ∷ rows)) ≡ spaced row ∷ lines (rows_text rows) =
    ap lines cut ∙ lines_before (spaced row) (rows_text rows) (none_passes is_line_byte (λ x. eqb x 10) line_no_feed (spaced row) on_line) (line_whole (spaced row) (joined_ends row b.0)) in
    let again = row_again row b.0 in
    ap (λ (ls : List (List ℕ)). words_of (filter holds_word (rows_from number ls))) first
    ∙ rw (again, row_holds number row b.0) (ap (λ rs. row ∷ rs) (rows_from-printed (number + 1) rows b.1))

pub rows_again : (rows : List (List (List ℕ))) → are_rows rows ≡ true → words_of (rows_of (rows_text rows)) ≡ rows
rows_again rows h = rows_from-printed 1 rows h
