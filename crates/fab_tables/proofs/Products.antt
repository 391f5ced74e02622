-- Products of parts, made one part after the other.
use Rattle.std.proofs.Common.{◌≡◌, ℕ, zero, suc, ◌+◌, ◌*◌, ◌-◌, ◌^◌, ◌≤◌, ◌<◌, ◌⊎◌, inl, inr, List, [], ◌∷◌, ◌++◌, map, length, min, take, drop, get_or, refl, sym, ap, ◌∙◌, arith, append_assoc, append-nil, mul_assoc, one-mul, mul-one}
use Rattle.std.specs.List.{flat_map, slice_split, before_first}
use Rattle.std.proofs.lemmas.List.{map-append, take_more, take_all}
use Rattle.std.proofs.lemmas.List.Folds.{flat_map-map}
use Rattle.std.proofs.lemmas.Grind.{flat_map-append}
use Rattle.std.proofs.lemmas.List.Splits.{length-slice_split}
use Rattle.std.proofs.lemmas.Bool.{cases_lt}
use Rattle.fab_lines.specs.Numbers.{capped}
use Rattle.fab_tables.specs.Cells.{is_bar, is_close, alternatives, choice_parts, parts_of, product, product_size}
use Rattle.fab_tables.specs.inner.Expanding.{extended, extended_by}
use Rattle.fab_tables.proofs.Seen.{map_drop_next}

-- functions that agree on all items
flat_map-same : {X A : Type 0} (f g : X → List A) (xs : List X) → ((x : X) → f x ≡ g x) → flat_map f xs ≡ flat_map g xs
flat_map-same f g [] same = refl
flat_map-same f g (x ∷ xs) same = ap (λ front. front ++ flat_map f xs) (same x) ∙ ap (λ back. g x ++ back) (flat_map-same f g xs same)

-- a list for each item of a list for each item
flat_map-flat_map : {X A B : Type 0} (g : A → List B) (f : X → List A) (xs : List X) → flat_map g (flat_map f xs) ≡ flat_map (λ x. flat_map g (f x)) xs
flat_map-flat_map g f [] = refl
flat_map-flat_map g f (x ∷ xs) = flat_map-append g (f x) (flat_map f xs) ∙ ap (λ back. flat_map g (f x) ++ back) (flat_map-flat_map g f xs)

-- a change of all that is listed
map-flat_map : {X A B : Type 0} (g : A → B) (f : X → List A) (xs : List X) → map g (flat_map f xs) ≡ flat_map (λ x. map g (f x)) xs
map-flat_map g f [] = refl
map-flat_map g f (x ∷ xs) = map-append g (f x) (flat_map f xs) ∙ ap (λ back. map g (f x) ++ back) (map-flat_map g f xs)

-- a name before another before each of the others
map-append_twice : (front next : List ℕ) (names : List (List ℕ)) → map (λ rest. (front ++ next) ++ rest) names ≡ map (λ rest. front ++ rest) (map (λ rest. next ++ rest) names)
map-append_twice front next [] = refl
map-append_twice front next (name ∷ names) = ap (λ n. n ∷ map (λ rest. (front ++ next) ++ rest) names) (append_assoc front next name) ∙ ap (λ ns. (front ++ (next ++ name)) ∷ ns) (map-append_twice front next names)

-- names before nothing
nothing_behind : (names : List (List ℕ)) → flat_map (λ name. (name ++ []) ∷ []) names ≡ names
nothing_behind [] = refl
nothing_behind (name ∷ names) = ap (λ n. n ∷ flat_map (λ other. (other ++ []) ∷ []) names) (append-nil name) ∙ ap (λ ns. name ∷ ns) (nothing_behind names)

-- each name before each of the product
extended_by-product : (names : List (List ℕ)) (parts : List (List (List ℕ))) → extended_by names parts ≡ flat_map (λ name. map (λ rest. name ++ rest) (product parts)) names
extended_by-product names [] = sym (nothing_behind names)
extended_by-product names (part ∷ parts) =
    let behind : List ℕ → List (List ℕ) = λ name. map (λ rest. name ++ rest) (product parts) in
    extended_by-product (extended names part) parts
    ∙ flat_map-flat_map behind (λ name. map (λ alternative. name ++ alternative) part) names
    ∙ flat_map-same _ _ names (λ name.
    flat_map-map behind (λ alternative. name ++ alternative) part
    ∙ flat_map-same _ _ part (λ alternative. map-append_twice name alternative (product parts))
    ∙ sym (map-flat_map (λ rest. name ++ rest) (λ alternative. map (λ rest. alternative ++ rest) (product parts)) part))

-- the product of a text and of what stands behind it
pub text_before : (text : List ℕ) (parts : List (List (List ℕ))) → extended_by (text ∷ []) parts ≡ product ((text ∷ []) ∷ parts)
text_before text parts = extended_by-product (text ∷ []) parts

-- one name more that is extended
pub extended_more : (names : List (List ℕ)) (place : ℕ) (name : List ℕ) (part : List (List ℕ)) → place < length names → name ≡ get_or names place name
    → extended (take (place + 1) names) part ≡ extended (take place names) part ++ map (λ alternative. name ++ alternative) part
extended_more names place name part below is =
    let each : List ℕ → List (List ℕ) = λ n. map (λ alternative. n ++ alternative) part in
    ap (λ ns. extended ns part) (take_more names place name below)
    ∙ flat_map-append each (take place names) (get_or names place name ∷ [])
    ∙ ap (λ back. extended (take place names) part ++ back) (append-nil (each (get_or names place name)))
    ∙ ap (λ n. extended (take place names) part ++ each n) (sym is)

-- one piece more that is behind the names
pub piece_more : {X : Type 0} (now : X → List ℕ) (choices : List X) (place : ℕ) (other : X) (old new whole : List (List ℕ)) → place < length choices → new ≡ extended_by old (choice_parts (now (get_or choices place other)))
    → extended_by old (flat_map choice_parts (map now (drop place choices))) ≡ whole → extended_by new (flat_map choice_parts (map now (drop (place + 1) choices))) ≡ whole
piece_more now choices place other old new whole below is so_far =
    ap (λ ns. extended_by ns (flat_map choice_parts (map now (drop (place + 1) choices)))) is
    ∙ sym (ap (λ ps. extended_by old (flat_map choice_parts ps)) (map_drop_next now choices place other below))
    ∙ so_far

-- ---- how many

-- numbers from 1 on have a product from 1 on
at_least : (a b : ℕ) → 1 ≤ a → 1 ≤ b → 1 ≤ a * b
at_least zero b some other = absurd (omega arith)
at_least (suc a) b some other = omega arith

times_at_least : (a b : ℕ) → 1 ≤ b → a ≤ a * b
times_at_least a zero some = absurd (omega arith)
times_at_least a (suc b) some = omega arith

-- above a bound, a factor changes nothing but for 0
capped_large : (times most : ℕ) → most < times → (factor : ℕ) → min (most * factor) most ≡ min (times * factor) most
capped_large times most above zero = omega arith
capped_large times most above (suc factor) = omega arith

-- a bound that is kept at each factor is kept of the whole
capped_product : (times factor most : ℕ) → min (min times most * factor) most ≡ min (times * factor) most
capped_product times factor most = elim (cases_lt most times) [
  | inr below ↦ (let same : min times most ≡ times = omega arith in ap (λ t. min (t * factor) most) same)
  | inl above ↦ (let same : min times most ≡ most = omega arith in ap (λ t. min (t * factor) most) same ∙ capped_large times most above factor)
]

-- one choice more that is counted
pub capped_choice : (times number rest : ℕ) → capped (capped (times * number) * rest) ≡ capped (times * (number * (1 * rest)))
capped_choice times number rest = capped_product (times * number) rest _ ∙ ap capped (mul_assoc times number rest ∙ ap (λ r. times * (number * r)) (sym (one-mul rest)))

-- each choice has an alternative, so a product is not empty
some_alternative : (piece : List ℕ) → 1 ≤ length (alternatives piece)
some_alternative piece = omega (arith, length-slice_split is_bar (before_first is_close piece))

some_product : (choices : List (List ℕ)) → 1 ≤ product_size (flat_map choice_parts choices)
some_product [] = omega arith
some_product (choice ∷ choices) =
    let rest = some_product choices in
    let first = some_alternative choice in
    at_least (length (alternatives choice)) (1 * product_size (flat_map choice_parts choices)) first (omega arith)

-- how often a name comes is at most how many names there are
pub repeats_within : (times : ℕ) (pieces : List (List ℕ)) (most : ℕ) → most < 2 ^ 64 - 1 → capped (times * product_size (parts_of pieces)) ≤ most → capped times ≡ times
repeats_within times [] most below within = omega arith
repeats_within times (text ∷ choices) most below within =
    let some = some_product choices in
    let more : times ≤ times * (1 * product_size (flat_map choice_parts choices)) = times_at_least times (1 * product_size (flat_map choice_parts choices)) (omega arith) in
    omega arith

-- one choice more that is counted
pub count_more : {X : Type 0} (now : X → List ℕ) (choices : List X) (place : ℕ) (other : X) (old new number whole : ℕ) → place < length choices → new ≡ capped (old * number) → number ≡ length (alternatives (now (get_or choices place other)))
    → capped (old * product_size (flat_map choice_parts (map now (drop place choices)))) ≡ whole → capped (new * product_size (flat_map choice_parts (map now (drop (place + 1) choices)))) ≡ whole
count_more now choices place other old new number whole below is counted so_far =
    let rest = product_size (flat_map choice_parts (map now (drop (place + 1) choices))) in
    ap (λ n. capped (n * rest)) is
    ∙ capped_choice old number rest
    ∙ ap (λ n. capped (old * (n * (1 * rest)))) counted
    ∙ sym (ap (λ ps. capped (old * product_size (flat_map choice_parts ps))) (map_drop_next now choices place other below))
    ∙ so_far

-- the count of no pieces
pub count_of_none : {X : Type 0} (now : X → List ℕ) (pieces : List X) (split : List (List ℕ)) (times given : ℕ) → length pieces < 1 → map now pieces ≡ split → given ≡ capped times → given ≡ capped (times * product_size (parts_of split))
count_of_none now [] split times given below same is = is ∙ ap capped (sym (mul-one times)) ∙ ap (λ s. capped (times * product_size (parts_of s))) same
count_of_none now (piece ∷ pieces) split times given below same is = absurd (omega arith)

-- the count of a text and the choices behind it
pub count_of_some : {X : Type 0} (now : X → List ℕ) (pieces : List X) (split : List (List ℕ)) (times given number : ℕ) → 1 ≤ length pieces → map now pieces ≡ split → given ≡ capped times
    → number ≡ capped (given * product_size (flat_map choice_parts (map now (take (length pieces - 1) (drop 1 pieces))))) → number ≡ capped (times * product_size (parts_of split))
count_of_some now [] split times given number some same is counted = absurd (omega arith)
count_of_some {X} now (piece ∷ pieces) split times given number some same is counted =
    let rest = product_size (flat_map choice_parts (map now pieces)) in
    counted
    ∙ ap (λ (ps : List X). capped (given * product_size (flat_map choice_parts (map now ps)))) (take_all (length (piece ∷ pieces) - 1) pieces (omega arith))
    ∙ ap (λ g. capped (g * rest)) is
    ∙ capped_product times rest _
    ∙ ap (λ r. capped (times * r)) (sym (one-mul rest))
    ∙ ap (λ s. capped (times * product_size (parts_of s))) same
