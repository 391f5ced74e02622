-- Names that end in a number behind `_`, and names that begin with a place.
use Rattle.std.proofs.Common.{◌≡◌, ◌≢◌, ℕ, ◌<◌, ◌^◌, List, [], ◌∷◌, ◌++◌, get_or, length, Option, Some, None, refl, sym, ap, ◌∙◌, subst, arith, append_assoc, codes, decimal}
use Rattle.std.specs.Char.{digit_value}
use Rattle.std.specs.Str.Parse.{AllDigits}
use Rattle.std.proofs.lemmas.Fmt.{decimal_injective}
use Rattle.std.proofs.lemmas.List.{length-append}
use Rattle.fab_fabric.specs.Names.{place_name}
use Rattle.fab_drives_laws.specs.fab_gen_tile_Names.{border_name}
use Rattle.fab_drives_laws.proofs.Places.{same_digits, digits_of}

-- ---- a number behind the last `_`

no_line : (xs ys : List ℕ) → AllDigits 10 (xs ++ 95 ∷ ys) → ⊥
no_line [] ys all = let digit : digit_value 95 < 10 = all.0 in omega (arith, digit)
no_line (x ∷ xs) ys all = no_line xs ys all.1

-- without a `_`
abbrev pub HasNoLine : List ℕ → Type 0
HasNoLine name = (xs ys : List ℕ) → name ≢ xs ++ 95 ∷ ys

digits_no_line : (digits : List ℕ) → AllDigits 10 digits → HasNoLine digits
digits_no_line digits all xs ys same = no_line xs ys (subst (AllDigits 10) same all)

pub same_ends : (xs ys ds es : List ℕ) → HasNoLine ds → HasNoLine es → xs ++ 95 ∷ ds ≡ ys ++ 95 ∷ es → (xs ≡ ys) × (ds ≡ es)
same_ends [] [] ds es of_ds of_es same = (refl, cc)
same_ends [] (y ∷ ys) ds es of_ds of_es same =
    let behind : ds ≡ ys ++ 95 ∷ es = cc in
    absurd (of_ds ys es behind)
same_ends (x ∷ xs) [] ds es of_ds of_es same =
    let behind : es ≡ xs ++ 95 ∷ ds = cc in
    absurd (of_es xs ds behind)
same_ends (x ∷ xs) (y ∷ ys) ds es of_ds of_es same =
    let head : x ≡ y = cc in
    let tails : xs ++ 95 ∷ ds ≡ ys ++ 95 ∷ es = cc in
    let parts = same_ends xs ys ds es of_ds of_es tails in
    ((λ j. head j ∷ parts.0 j), parts.1)

-- the name of a side of a row, empty where it has none
abbrev pub side_text : Option (List ℕ) → List ℕ
side_text None = []
side_text (Some name) = name

border_is : (side : Option (List ℕ)) (bit : ℕ) → border_name side bit ≡ side_text side ++ 95 ∷ decimal bit
border_is None bit = refl
border_is (Some name) bit = refl

pub same_border : (side other : Option (List ℕ)) (i j : ℕ) → i < 2 ^ 64 → j < 2 ^ 64 → border_name side i ≡ border_name other j → (side_text side ≡ side_text other) × (i ≡ j)
same_border side other i j few_i few_j same =
    let whole : side_text side ++ 95 ∷ decimal i ≡ side_text other ++ 95 ∷ decimal j = sym (border_is side i) ∙ same ∙ border_is other j in
    let parts = same_ends (side_text side) (side_text other) (decimal i) (decimal j) (digits_no_line (decimal i) (digits_of i few_i)) (digits_no_line (decimal j) (digits_of j few_j)) whole in
    (parts.0, decimal_injective i j few_i few_j parts.1)

-- ---- a port of a pad

top_no_line : HasNoLine (codes "top")
top_no_line [] ys same = let letters = ap (λ name. get_or name 0 0) same in omega (arith, letters)
top_no_line (a ∷ []) ys same = let letters = ap (λ name. get_or name 1 0) same in omega (arith, letters)
top_no_line (a ∷ b ∷ []) ys same = let letters = ap (λ name. get_or name 2 0) same in omega (arith, letters)
top_no_line (a ∷ b ∷ c ∷ xs) ys same =
    let lengths = ap length same in
    let rest = length-append xs (95 ∷ ys) in
    omega (arith, lengths, rest)

-- what ends in `_top` ends in no number
pub no_border : (side : Option (List ℕ)) (bit : ℕ) (front : List ℕ) → bit < 2 ^ 64 → border_name side bit ≢ front ++ 95 ∷ codes "top"
no_border side bit front few same =
    let whole : side_text side ++ 95 ∷ decimal bit ≡ front ++ 95 ∷ codes "top" = sym (border_is side bit) ∙ same in
    let numbers = (same_ends (side_text side) front (decimal bit) (codes "top") (digits_no_line (decimal bit) (digits_of bit few)) top_no_line whole).1 in
    let digits : AllDigits 10 (codes "top") = subst (AllDigits 10) numbers (digits_of bit few) in
    let digit : digit_value 116 < 10 = digits.0 in
    omega (arith, digit)

-- ---- a wire of a chain

chain_no_line : HasNoLine (codes "chain")
chain_no_line [] ys same = let letters = ap (λ name. get_or name 0 0) same in omega (arith, letters)
chain_no_line (a ∷ []) ys same = let letters = ap (λ name. get_or name 1 0) same in omega (arith, letters)
chain_no_line (a ∷ b ∷ []) ys same = let letters = ap (λ name. get_or name 2 0) same in omega (arith, letters)
chain_no_line (a ∷ b ∷ c ∷ []) ys same = let letters = ap (λ name. get_or name 3 0) same in omega (arith, letters)
chain_no_line (a ∷ b ∷ c ∷ d ∷ []) ys same = let letters = ap (λ name. get_or name 4 0) same in omega (arith, letters)
chain_no_line (a ∷ b ∷ c ∷ d ∷ e ∷ xs) ys same =
    let lengths = ap length same in
    let rest = length-append xs (95 ∷ ys) in
    omega (arith, lengths, rest)

-- its name ends in no number
pub no_chain_border : (side : Option (List ℕ)) (bit : ℕ) → bit < 2 ^ 64 → border_name side bit ≢ codes "fab_chain"
no_chain_border side bit few same =
    let whole : side_text side ++ 95 ∷ decimal bit ≡ codes "fab" ++ 95 ∷ codes "chain" = sym (border_is side bit) ∙ same in
    let numbers = (same_ends (side_text side) (codes "fab") (decimal bit) (codes "chain") (digits_no_line (decimal bit) (digits_of bit few)) chain_no_line whole).1 in
    let digits : AllDigits 10 (codes "chain") = subst (AllDigits 10) numbers (digits_of bit few) in
    let digit : digit_value 99 < 10 = digits.0 in
    omega (arith, digit)

-- ---- a place before `_`

-- a name of a tile in the top
abbrev pub named_at : (x y : ℕ) → List ℕ → List ℕ
named_at x y rest = place_name x y ++ 95 ∷ rest

named_is : (x y : ℕ) (rest : List ℕ) → place_name x y ++ rest ≡ 88 ∷ (decimal x ++ 89 ∷ (decimal y ++ rest))
named_is x y rest = search (append_assoc)

pub same_named : (x y x2 y2 : ℕ) (rest rest2 : List ℕ) → x < 32 → y < 32 → x2 < 32 → y2 < 32 → named_at x y rest ≡ named_at x2 y2 rest2 → (x ≡ x2) × (y ≡ y2) × (rest ≡ rest2)
same_named x y x2 y2 rest rest2 few_x few_y few_x2 few_y2 same =
    let whole : 88 ∷ (decimal x ++ 89 ∷ (decimal y ++ 95 ∷ rest)) ≡ 88 ∷ (decimal x2 ++ 89 ∷ (decimal y2 ++ 95 ∷ rest2)) = sym (named_is x y (95 ∷ rest)) ∙ same ∙ named_is x2 y2 (95 ∷ rest2) in
    let behind : decimal x ++ 89 ∷ (decimal y ++ 95 ∷ rest) ≡ decimal x2 ++ 89 ∷ (decimal y2 ++ 95 ∷ rest2) = cc in
    let columns = same_digits 89 (decimal x) (decimal x2) (decimal y ++ 95 ∷ rest) (decimal y2 ++ 95 ∷ rest2) (λ few. omega (arith, few)) (digits_of x (omega arith)) (digits_of x2 (omega arith)) behind in
    let rows = same_digits 95 (decimal y) (decimal y2) rest rest2 (λ few. omega (arith, few)) (digits_of y (omega arith)) (digits_of y2 (omega arith)) columns.1 in
    (decimal_injective x x2 (omega arith) (omega arith) columns.0, decimal_injective y y2 (omega arith) (omega arith) rows.0, rows.1)

-- a place is no name of a tile
no_digits_line : (digits others rest : List ℕ) → AllDigits 10 digits → digits ≡ others ++ 95 ∷ rest → ⊥
no_digits_line digits others rest all same = no_line others rest (subst (AllDigits 10) same all)

pub no_place : (x y x2 y2 : ℕ) (rest : List ℕ) → x < 32 → y < 32 → x2 < 32 → y2 < 32 → place_name x y ≢ named_at x2 y2 rest
no_place x y x2 y2 rest few_x few_y few_x2 few_y2 same =
    let place_is : place_name x y ≡ 88 ∷ (decimal x ++ 89 ∷ decimal y) = search (append_assoc) in
    let whole : 88 ∷ (decimal x ++ 89 ∷ decimal y) ≡ 88 ∷ (decimal x2 ++ 89 ∷ (decimal y2 ++ 95 ∷ rest)) = sym place_is ∙ same ∙ named_is x2 y2 (95 ∷ rest) in
    let behind : decimal x ++ 89 ∷ decimal y ≡ decimal x2 ++ 89 ∷ (decimal y2 ++ 95 ∷ rest) = cc in
    let columns = same_digits 89 (decimal x) (decimal x2) (decimal y) (decimal y2 ++ 95 ∷ rest) (λ few. omega (arith, few)) (digits_of x (omega arith)) (digits_of x2 (omega arith)) behind in
    no_digits_line (decimal y) (decimal y2) rest (digits_of y (omega arith)) columns.1
