-- Lists that are counted.
use Rattle.std.proofs.Common.{◌≡◌, ℕ, ◌+◌, List, [], ◌∷◌, ◌++◌, reverse, refl, sym, ap, ◌∙◌, append_assoc}
use Rattle.std.proofs.lemmas.List.{reverse-append, append-nil}
use Rattle.fab_model.specs.Tiles.{counted}
use Rattle.fab_model.proofs.Inserts.{counted_more}

pub counted_none : {X : Type 0} (f : ℕ → X) → counted 0 f ≡ []
unfolding counted
counted_none f = refl

-- no items behind others
pub none_behind : {X : Type 0} (front : List X) (f : ℕ → X) → front ≡ front ++ counted 0 f
none_behind front f = sym (ap (λ rest. front ++ rest) (counted_none f) ∙ append-nil front)

-- one item more, behind others
pub items_more : {X : Type 0} (n : ℕ) (f : ℕ → X) (items front : List X) (item : X) → items ≡ front ++ counted n f → item ≡ f n →
    items ++ item ∷ [] ≡ front ++ counted (n + 1) f
items_more n f items front item so_far is =
    (λ j. so_far j ++ is j ∷ []) ∙ append_assoc front (counted n f) (f n ∷ []) ∙ ap (λ more. front ++ more) (sym (counted_more n f))

-- one item less of the rest, in reverse
pub reversed_more : {X : Type 0} (n : ℕ) (f : ℕ → X) (items whole : List X) (item : X) → items ++ reverse (counted (n + 1) f) ≡ whole → item ≡ f n →
    (items ++ item ∷ []) ++ reverse (counted n f) ≡ whole
reversed_more n f items whole item so_far is =
    ap (λ x. (items ++ x ∷ []) ++ reverse (counted n f)) is
    ∙ append_assoc items (f n ∷ []) (reverse (counted n f))
    ∙ ap (λ rest. items ++ rest) (sym (ap reverse (counted_more n f) ∙ reverse-append (counted n f) (f n ∷ [])))
    ∙ so_far
