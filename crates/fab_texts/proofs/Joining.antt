-- Words that are joined, one after the other.
use Rattle.std.proofs.Common.{◌≡◌, ℕ, ◌+◌, ◌<◌, List, [], ◌∷◌, ◌++◌, map, take, length, get_or, refl, sym, ap, ◌∙◌, arith, append_assoc, append-nil}
use Rattle.std.proofs.lemmas.List.{map_push, take_more, length-map, length-take-le}
use Rattle.fab_texts.specs.Printed.{spaced}

pub joined_push : (words : List (List ℕ)) (word : List ℕ) → 0 < length words → spaced (words ++ word ∷ []) ≡ spaced words ++ 32 ∷ word
joined_push [] word some = absurd (omega arith)
joined_push (first ∷ []) word some = refl
joined_push (first ∷ next ∷ more) word some =
    ap (λ (rest : List ℕ). first ++ 32 ∷ rest) (joined_push (next ∷ more) word (omega arith)) ∙ sym (append_assoc first (32 ∷ spaced (next ∷ more)) (32 ∷ word))

-- one word more of a list is put
pub joined_more : {X : Type 0} (now : X → List ℕ) (items : List X) (place : ℕ) (other : X) (start out new : List ℕ) → place < length items → 0 < place
    → out ≡ start ++ spaced (map now (take place items)) → new ≡ (out ++ 32 ∷ []) ++ now (get_or items place other) → new ≡ start ++ spaced (map now (take (place + 1) items))
joined_more now items place other start out new below some so_far put =
    let word = now (get_or items place other) in
    let front = map now (take place items) in
    let whole : map now (take (place + 1) items) ≡ front ++ word ∷ [] = ap (map now) (take_more items place other below) ∙ map_push now (take place items) (get_or items place other) in
    let count : length front ≡ place = length-map (take place items) now ∙ length-take-le place items (omega (arith, below)) in
    let many : 0 < length front = omega (arith, count, some) in
    put
    ∙ append_assoc out (32 ∷ []) word
    ∙ ap (λ (text : List ℕ). text ++ 32 ∷ word) so_far
    ∙ append_assoc start (spaced front) (32 ∷ word)
    ∙ ap (λ (text : List ℕ). start ++ text) (sym (joined_push front word many) ∙ sym (ap spaced whole))

pub joined_first : {X : Type 0} (now : X → List ℕ) (items : List X) (place : ℕ) (other : X) (start out new : List ℕ) → place < length items → place ≡ 0
    → out ≡ start ++ spaced (map now (take place items)) → new ≡ out ++ now (get_or items place other) → new ≡ start ++ spaced (map now (take (place + 1) items))
joined_first now items place other start out new below none so_far put =
    let word = now (get_or items place other) in
    let nothing : take place items ≡ [] = ap (λ (n : ℕ). take n items) none in
    let whole : map now (take (place + 1) items) ≡ word ∷ [] = ap (map now) (take_more items place other below ∙ ap (λ front. front ++ get_or items place other ∷ []) nothing) in
    let before : out ≡ start = so_far ∙ ap (λ front. start ++ spaced (map now front)) nothing ∙ append-nil start in
    put ∙ ap (λ (text : List ℕ). text ++ word) before ∙ sym (ap (λ (words : List (List ℕ)). start ++ spaced words) whole)
