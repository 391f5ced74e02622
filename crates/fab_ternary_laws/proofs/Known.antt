-- Operators on known bits, and so the value of an expression over known names, are known.
use Rattle.std.proofs.Common.{◌≡◌, ℕ, zero, suc, ◌+◌, ◌-◌, ◌*◌, Bool, true, false, not, ◌&&◌, ◌||◌, List, [], ◌∷◌, ◌++◌, map, take, drop, slice_range, Some, option_map, if◌then◌else◌, refl, sym, ap, ap₂, ◌∙◌, arith}
use Rattle.std.specs.Str.{bytes_eq}
use Rattle.std.proofs.lemmas.Bool.{or_left, or_right}
use Rattle.std.proofs.lemmas.List.{map-append}
use Rattle.fab_bits.specs.Bits.{number, same_bit, other_bit, each_bit, same_bits}
use Rattle.fab_matrix.specs.fab_syntax.specs.declared.tree.Op.{Op}
use Rattle.fab_matrix.specs.fab_syntax.specs.declared.tree.Op.TheVariants.{And, Or, Xor, Equal, Minus}
use Rattle.fab_matrix.specs.fab_syntax.specs.Plain.{PlainExpr, PlainExprs, constant, variable, pick, part, concatenation, complement, operation, conditional, none, more}
use Rattle.fab_matrix.specs.fab_meaning.specs.Value.{value, concatenated, operated, bit_at}
use Rattle.fab_matrix.specs.fab_meaning.specs.Reads.{mentions, some_mentions}
use Rattle.fab_matrix.specs.fab_meaning.proofs.Dependence.{same_name}
use Rattle.fab_systems_laws.specs.Ternary.{Tern, no, yes, known}
use Rattle.fab_ternary_laws.specs.Operators.{tern_at, inverse, both, either, differs, each_tern, same_terns, bools, minus_of, tern_operated, one_of, evens, odds, entry}
use Rattle.fab_ternary_laws.specs.Values.{tern_value, tern_concatenated}

pub known_at : (bits : List Bool) (place : ℕ) → tern_at (map known bits) place ≡ known (bit_at bits place)
known_at [] place = refl
known_at (bit ∷ bits) zero = refl
known_at (bit ∷ bits) (suc place) = known_at bits place

known_not : (bits : List Bool) → map inverse (map known bits) ≡ map known (map not bits)
known_not [] = refl
known_not (true ∷ bits) = ap (λ ts. no ∷ ts) (known_not bits)
known_not (false ∷ bits) = ap (λ ts. yes ∷ ts) (known_not bits)

known_each : (f : Tern → Tern → Tern) (g : Bool → Bool → Bool) → ((a b : Bool) → f (known a) (known b) ≡ known (g a b)) → (xs ys : List Bool) →
    each_tern f (map known xs) (map known ys) ≡ map known (each_bit g xs ys)
known_each f g one [] ys = refl
known_each f g one (x ∷ xs) [] = refl
known_each f g one (x ∷ xs) (y ∷ ys) = ap₂ (λ t ts. t ∷ ts) (one x y) (known_each f g one xs ys)

known_both : (a b : Bool) → both (known a) (known b) ≡ known (a && b)
known_both true b = refl
known_both false b = refl

known_either : (a b : Bool) → either (known a) (known b) ≡ known (a || b)
known_either true b = refl
known_either false b = refl

known_differs : (a b : Bool) → differs (known a) (known b) ≡ known (other_bit a b)
known_differs true true = refl
known_differs true false = refl
known_differs false b = refl

known_same_bit : (a b rest : Bool) → both (inverse (differs (known a) (known b))) (known rest) ≡ known (same_bit a b && rest)
known_same_bit true true rest = refl
known_same_bit true false rest = refl
known_same_bit false true rest = refl
known_same_bit false false rest = refl

pub known_same : (xs ys : List Bool) → same_terns (map known xs) (map known ys) ≡ known (same_bits xs ys)
known_same [] [] = refl
known_same [] (y ∷ ys) = refl
known_same (x ∷ xs) [] = refl
known_same (x ∷ xs) (y ∷ ys) =
    ap (both (inverse (differs (known x) (known y)))) (known_same xs ys) ∙ known_same_bit x y (same_bits xs ys)

known_bools : (bits : List Bool) → bools (map known bits) ≡ Some bits
known_bools [] = refl
known_bools (true ∷ bits) = ap (option_map (λ more. true ∷ more)) (known_bools bits)
known_bools (false ∷ bits) = ap (option_map (λ more. false ∷ more)) (known_bools bits)

known_operated : (op : Op) (xs ys : List Bool) → tern_operated op (map known xs) (map known ys) ≡ map known (operated op xs ys)
known_operated And xs ys = known_each both (λ a b. a && b) known_both xs ys
known_operated Or xs ys = known_each either (λ a b. a || b) known_either xs ys
known_operated Xor xs ys = known_each differs other_bit known_differs xs ys
known_operated Equal xs ys = ap (λ t. t ∷ []) (known_same xs ys)
known_operated Minus xs ys = ap₂ (minus_of (map known xs)) (known_bools xs) (known_bools ys)

-- ---- entries

pub evens_map : (bits : List Bool) → evens (map known bits) ≡ map known (evens bits)
evens_map [] = refl
evens_map (x ∷ []) = refl
evens_map (x ∷ y ∷ rest) = ap (λ ts. known x ∷ ts) (evens_map rest)

pub odds_map : (bits : List Bool) → odds (map known bits) ≡ map known (odds bits)
odds_map [] = refl
odds_map (x ∷ []) = refl
odds_map (x ∷ y ∷ rest) = ap (λ ts. known y ∷ ts) (odds_map rest)

pub even_at : (bits : List Bool) (place : ℕ) → bit_at (evens bits) place ≡ bit_at bits (2 * place)
even_at [] place = refl
even_at (x ∷ []) zero = refl
even_at (x ∷ []) (suc place) = let e : 2 * suc place ≡ suc (suc (2 * place)) = omega arith in rw e refl
even_at (x ∷ y ∷ rest) zero = refl
even_at (x ∷ y ∷ rest) (suc place) = let e : 2 * suc place ≡ suc (suc (2 * place)) = omega arith in even_at rest place ∙ ap (bit_at (x ∷ y ∷ rest)) (sym e)

pub odd_at : (bits : List Bool) (place : ℕ) → bit_at (odds bits) place ≡ bit_at bits (1 + 2 * place)
odd_at [] place = refl
odd_at (x ∷ []) place = let e : 1 + 2 * place ≡ suc (2 * place) = omega arith in rw e refl
odd_at (x ∷ y ∷ rest) zero = refl
odd_at (x ∷ y ∷ rest) (suc place) = let e : 1 + 2 * suc place ≡ suc (suc (1 + 2 * place)) = omega arith in odd_at rest place ∙ ap (bit_at (x ∷ y ∷ rest)) (sym e)

pub known_entry : (bits index : List Bool) → entry (map known bits) (map known index) ≡ known (bit_at bits (number index))
known_entry bits [] = known_at bits 0
known_entry bits (true ∷ index) =
    ap (λ ts. entry ts (map known index)) (odds_map bits) ∙ known_entry (odds bits) index ∙ ap known (odd_at bits (number index))
known_entry bits (false ∷ index) =
    let e : 2 * number index ≡ 0 + 2 * number index = omega arith in
    ap (λ ts. entry ts (map known index)) (evens_map bits) ∙ known_entry (evens bits) index ∙ ap known (even_at bits (number index) ∙ ap (bit_at bits) e)

known_take : (n : ℕ) (bits : List Bool) → take n (map known bits) ≡ map known (take n bits)
known_take zero bits = refl
known_take (suc n) [] = refl
known_take (suc n) (bit ∷ bits) = ap (λ ts. known bit ∷ ts) (known_take n bits)

known_drop : (n : ℕ) (bits : List Bool) → drop n (map known bits) ≡ map known (drop n bits)
known_drop zero bits = refl
known_drop (suc n) [] = refl
known_drop (suc n) (bit ∷ bits) = known_drop n bits

pub known_range : (bits : List Bool) (low end : ℕ) → slice_range (map known bits) low end ≡ map known (slice_range bits low end)
known_range bits low end = ap (take (end - low)) (known_drop low bits) ∙ known_take (end - low) (drop low bits)

known_one : (test : Bool) (xs ys : List Bool) → one_of (known test) (map known xs) (map known ys) ≡ map known (if test then xs else ys)
known_one true xs ys = refl
known_one false xs ys = refl

module _ (names : List ℕ → List Bool) (terns : List ℕ → List Tern) where
  mutual
    pub known_value : (e : PlainExpr) → ((name : List ℕ) → mentions e name ≡ true → terns name ≡ map known (names name)) → tern_value terns e ≡ map known (value names e)
    known_value (constant bits) h = refl
    known_value (variable name) h = h name (same_name name)
    known_value (pick name index) h =
        let a : terns name ≡ map known (names name) = h name (or_left (bytes_eq name name) (mentions index name) (same_name name)) in
        let b : tern_value terns index ≡ map known (value names index) = known_value index (λ x m. h x (or_right (bytes_eq name x) (mentions index x) m)) in
        ap₂ (λ ts us. entry ts us ∷ []) a b ∙ ap (λ t. t ∷ []) (known_entry (names name) (value names index))
    known_value (part name high low) h = ap (λ ts. slice_range ts low (high + 1)) (h name (same_name name)) ∙ known_range (names name) low (high + 1)
    known_value (concatenation parts) h = known_concatenated parts h
    known_value (complement e) h = ap (map inverse) (known_value e h) ∙ known_not (value names e)
    known_value (operation op a b) h =
        ap₂ (tern_operated op) (known_value a (λ x m. h x (or_left (mentions a x) (mentions b x) m))) (known_value b (λ x m. h x (or_right (mentions a x) (mentions b x) m)))
        ∙ known_operated op (value names a) (value names b)
    known_value (conditional c a b) h =
        let test : tern_value terns c ≡ map known (value names c) = known_value c (λ x m. h x (or_left (mentions c x) (mentions a x || mentions b x) m)) in
        let first : tern_value terns a ≡ map known (value names a) = known_value a (λ x m. h x (or_right (mentions c x) (mentions a x || mentions b x) (or_left (mentions a x) (mentions b x) m))) in
        let second : tern_value terns b ≡ map known (value names b) = known_value b (λ x m. h x (or_right (mentions c x) (mentions a x || mentions b x) (or_right (mentions a x) (mentions b x) m))) in
        (λ j. one_of (tern_at (test j) 0) (first j) (second j))
        ∙ ap (λ t. one_of t (map known (value names a)) (map known (value names b))) (known_at (value names c) 0)
        ∙ known_one (bit_at (value names c) 0) (value names a) (value names b)

    pub known_concatenated : (parts : PlainExprs) → ((name : List ℕ) → some_mentions parts name ≡ true → terns name ≡ map known (names name)) →
        tern_concatenated terns parts ≡ map known (concatenated names parts)
    known_concatenated none h = refl
    known_concatenated (more e rest) h =
        ap₂ (λ ts us. ts ++ us)
        (known_concatenated rest (λ x m. h x (or_right (mentions e x) (some_mentions rest x) m)))
        (known_value e (λ x m. h x (or_left (mentions e x) (some_mentions rest x) m)))
        ∙ sym (map-append known (concatenated names rest) (value names e))
