-- The spelling of a constant is read as its bits.
use Rattle.std.proofs.Common.{◌≡◌, ℕ, ◌^◌, ◌<◌, ◌≤◌, Bool, true, false, ◌==◌, ◌&&◌, List, [], ◌∷◌, ◌++◌, length, map, reverse, decimal, refl, sym, ap, ◌∙◌, append_assoc, suc, arith, rules, Option, Some, None, if◌then◌else◌}
use Rattle.std.specs.List.{list_all}
use Rattle.std.proofs.lemmas.Bool.{eq-eqb}
use Rattle.std.proofs.lemmas.List.{reverse-append, reverse-reverse, length-reverse, map_push}
use Rattle.std.proofs.lemmas.List.Folds.{list_all-append}
use Rattle.std.proofs.lemmas.Fmt.{decimal_nonempty}
use Rattle.fab_syntax.specs.Spelling.{digit, constant_text}
use Rattle.fab_tokens.specs.declared.token.Token.TheVariants as tokens
use Rattle.fab_tokens.specs.declared.scanner.Scan.TheVariants as scans
use Rattle.fab_tokens.specs.Literals.{is_word_byte, is_binary, is_one, max_number, number_of, is_number, is_written, constant_of}
use Rattle.fab_tokens.specs.Scanning.{constant_token}
use Rattle.fab_tokens.specs.Told.{tokens_from}
use Rattle.fab_tokens.proofs.Words.{both, number_again, begins_again, digits_again, digits_in_word}
use Rattle.fab_tokens.proofs.Cutting.{EndsWord, literal_cut}

list_all-reverse : (p : ℕ → Bool) (xs : List ℕ) → list_all p xs ≡ true → list_all p (reverse xs) ≡ true
list_all-reverse p xs = all_of xs
  where
    all_of : (ys : List ℕ) → list_all p ys ≡ true → list_all p (reverse ys) ≡ true
    all_of [] h = refl
    all_of (y ∷ ys) h =
        let parts = both (p y) (list_all p ys) h in
        let first : p y ≡ true = parts.0 in
        let more : list_all p (reverse ys) ≡ true = all_of ys parts.1 in
        ap (list_all p) (reverse-append (y ∷ []) ys) ∙ list_all-append p (reverse ys) (y ∷ []) ∙ rw (more, first) refl

map-reverse : {X Y : Type 0} (f : X → Y) (xs : List X) → map f (reverse xs) ≡ reverse (map f xs)
map-reverse f [] = refl
map-reverse f (x ∷ xs) =
    ap (map f) (reverse-append (x ∷ []) xs) ∙ map_push f (reverse xs) x ∙ ap (λ ys. ys ++ f x ∷ []) (map-reverse f xs)
    ∙ sym (reverse-append (f x ∷ []) (map f xs))

ones_again : (bits : List Bool) → map is_one (map digit bits) ≡ bits
unfolding is_one
ones_again [] = refl
ones_again (true ∷ bits) = ap (λ bs. true ∷ bs) (ones_again bits)
ones_again (false ∷ bits) = ap (λ bs. false ∷ bs) (ones_again bits)

digits_binary : (bits : List Bool) → list_all is_binary (map digit bits) ≡ true
digits_binary [] = refl
digits_binary (true ∷ bits) = digits_binary bits
digits_binary (false ∷ bits) = digits_binary bits

digits_word : (bits : List Bool) → list_all is_word_byte (map digit bits) ≡ true
digits_word [] = refl
digits_word (true ∷ bits) = digits_word bits
digits_word (false ∷ bits) = digits_word bits

length-digits : (bits : List Bool) → length (map digit bits) ≡ length bits
length-digits [] = refl
length-digits (b ∷ bits) = ap suc (length-digits bits)

written_by : (width digits : List ℕ) → 0 < length digits → list_all is_binary digits ≡ true → is_number (length digits) (number_of width) ≡ true → is_written width digits ≡ true
written_by width [] some binary counted = absurd (omega arith)
written_by width (d ∷ digits) some binary counted = rw (binary, counted) refl

pub constant_again : (bits : List Bool) → 0 < length bits → length bits ≤ max_number → constant_of (decimal (length bits)) (98 ∷ reverse (map digit bits)) ≡ Some bits
constant_again bits some few =
    let digits = reverse (map digit bits) in
    let count : length digits ≡ length bits = length-reverse (map digit bits) ∙ length-digits bits in
    let number : number_of (decimal (length bits)) ≡ Some (length bits) = number_again (length bits) few in
    let counted : is_number (length digits) (number_of (decimal (length bits))) ≡ true = ap (is_number (length digits)) number ∙ eq-eqb (length digits) (length bits) count in
    let written : is_written (decimal (length bits)) digits ≡ true =
    written_by (decimal (length bits)) digits (omega (arith, some, count)) (list_all-reverse is_binary (map digit bits) (digits_binary bits)) counted in
    let back : reverse (map is_one digits) ≡ bits =
    ap reverse (map-reverse is_one (map digit bits)) ∙ ap (λ bs. reverse (reverse bs)) (ones_again bits) ∙ reverse-reverse bits in
    rw (written, back) refl

pub constant_cut : (bits : List Bool) (rest : List ℕ) → 0 < length bits → length bits ≤ max_number → EndsWord rest →
    tokens_from scans.Between (constant_text bits ++ rest) ≡ tokens.Constant bits ∷ tokens_from scans.Between rest
constant_cut bits rest some few ends =
    let small : length bits < 2 ^ 64 = omega (arith, few) in
    let digits = reverse (map digit bits) in
    let all : list_all is_word_byte (98 ∷ digits) ≡ true = list_all-reverse is_word_byte (map digit bits) (digits_word bits) in
    ap (tokens_from scans.Between) (append_assoc (decimal (length bits)) (39 ∷ 98 ∷ digits) rest)
    ∙ literal_cut (decimal (length bits)) (98 ∷ digits) rest (begins_again (decimal (length bits)) (decimal_nonempty (length bits) small) (digits_again (length bits) small))
    (digits_in_word (decimal (length bits)) (digits_again (length bits) small)) all ends
    ∙ ap (λ o. constant_token o ∷ tokens_from scans.Between rest) (constant_again bits some few)
