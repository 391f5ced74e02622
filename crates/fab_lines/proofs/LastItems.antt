-- What is left of a list without the last items that pass a test.
use Rattle.std.proofs.Common.{◌≡◌, ℕ, ◌+◌, ◌-◌, ◌<◌, ◌≤◌, Bool, true, false, List, [], ◌∷◌, ◌++◌, length, map, take, get_or, refl, sym, ap, ◌∙◌, arith, rules}
use Rattle.std.proofs.lemmas.List.{map_push, take_more}
use Rattle.fab_lines.specs.Parts.{without_back, before_kept, is_empty_cell}

-- a last item that passes goes
pub without_back-passes : {X : Type 0} (test : X → Bool) (items : List X) (last : X) → test last ≡ true → without_back test (items ++ last ∷ []) ≡ without_back test items
without_back-passes test [] last passes = rw passes refl
without_back-passes test (item ∷ items) last passes = ap (before_kept test item) (without_back-passes test items last passes)

-- before a list that is not empty an item stays
before_kept-push : {X : Type 0} (test : X → Bool) (first : X) (items : List X) (last : X) → before_kept test first (items ++ last ∷ []) ≡ first ∷ (items ++ last ∷ [])
before_kept-push test first [] last = refl
before_kept-push test first (item ∷ items) last = refl

-- before a last item that fails, all stay
pub without_back-fails : {X : Type 0} (test : X → Bool) (items : List X) (last : X) → test last ≡ false → without_back test (items ++ last ∷ []) ≡ items ++ last ∷ []
without_back-fails test [] last fails = rw fails refl
without_back-fails test (item ∷ items) last fails = ap (before_kept test item) (without_back-fails test items last fails) ∙ before_kept-push test item items last

-- a cell without a byte is empty
pub is_empty-none : (cell : List ℕ) → length cell ≤ 0 → is_empty_cell cell ≡ true
is_empty-none [] none = refl
is_empty-none (byte ∷ cell) none = absurd (omega arith)

-- a cell with a byte is not
pub is_empty-some : (cell : List ℕ) → 0 < length cell → is_empty_cell cell ≡ false
is_empty-some [] some = absurd (omega arith)
is_empty-some (byte ∷ cell) some = search rules

-- one item more that is taken
map_take-more : {X Y : Type 0} (f : X → Y) (items : List X) (count : ℕ) (other : X) → 0 < count → count ≤ length items → map f (take count items) ≡ map f (take (count - 1) items) ++ f (get_or items (count - 1) other) ∷ []
map_take-more f items count other some within =
    let one_more : count ≡ count - 1 + 1 = omega arith in
    ap (λ k. map f (take k items)) one_more
    ∙ ap (map f) (take_more items (count - 1) other (omega arith))
    ∙ map_push f (take (count - 1) items) (get_or items (count - 1) other)

-- an empty last cell goes
pub empty_goes : {X : Type 0} (f : X → List ℕ) (items : List X) (count : ℕ) (other : X) → 0 < count → count ≤ length items → length (f (get_or items (count - 1) other)) ≤ 0
    → without_back is_empty_cell (map f (take (count - 1) items)) ≡ without_back is_empty_cell (map f (take count items))
empty_goes f items count other some within none =
    sym (ap (without_back is_empty_cell) (map_take-more f items count other some within)
    ∙ without_back-passes is_empty_cell (map f (take (count - 1) items)) (f (get_or items (count - 1) other)) (is_empty-none _ none))

-- before a filled last cell, all stay
pub filled_stays : {X : Type 0} (f : X → List ℕ) (items : List X) (count : ℕ) (other : X) → 0 < count → count ≤ length items → 0 < length (f (get_or items (count - 1) other))
    → map f (take count items) ≡ without_back is_empty_cell (map f (take count items))
filled_stays f items count other some within filled =
    let more = map_take-more f items count other some within in
    more
    ∙ sym (ap (without_back is_empty_cell) more
    ∙ without_back-fails is_empty_cell (map f (take (count - 1) items)) (f (get_or items (count - 1) other)) (is_empty-some _ filled))

-- a map of a map
pub map-map : {X Y Z : Type 0} (g : Y → Z) (f : X → Y) (items : List X) → map g (map f items) ≡ map (λ x. g (f x)) items
map-map g f [] = refl
map-map g f (item ∷ items) = ap (λ rest. g (f item) ∷ rest) (map-map g f items)
