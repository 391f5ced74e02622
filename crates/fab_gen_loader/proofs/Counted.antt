-- Lists that are counted.
use Rattle.std.proofs.Common.{◌≡◌, ℕ, zero, suc, ◌+◌, ◌<◌, List, [], ◌∷◌, ◌++◌, get_or, length, refl, sym, ap, ◌∙◌, arith, append_assoc}
use Rattle.std.proofs.lemmas.List.{append-nil}
use Rattle.fab_model.specs.Tiles.{counted}
use Rattle.fab_model.proofs.Inserts.{counted_more}

counted_none : {X : Type 0} (f : ℕ → X) → counted 0 f ≡ []
unfolding counted
counted_none f = refl

-- no items behind others
pub none_behind : {X : Type 0} (front : List X) (f : ℕ → X) → front ≡ front ++ counted 0 f
none_behind front f = sym (ap (λ rest. front ++ rest) (counted_none f) ∙ append-nil front)

-- one item more, behind others
pub one_behind : {X : Type 0} (n : ℕ) (f : ℕ → X) (new items front : List X) (item : X) → new ≡ items ++ item ∷ [] → items ≡ front ++ counted n f →
    item ≡ f n → new ≡ front ++ counted (n + 1) f
one_behind n f new items front item pushed so_far is =
    pushed ∙ (λ j. so_far j ++ is j ∷ []) ∙ append_assoc front (counted n f) (f n ∷ []) ∙ ap (λ more. front ++ more) (sym (counted_more n f))

pub length-counted : {X : Type 0} (n : ℕ) (f : ℕ → X) → length (counted n f) ≡ n
unfolding counted
length-counted zero f = refl
length-counted (suc n) f = ap suc (length-counted n (λ i. f (suc i)))

pub get_counted : {X : Type 0} (n : ℕ) (f : ℕ → X) (i : ℕ) (d : X) → i < n → get_or (counted n f) i d ≡ f i
unfolding counted
get_counted zero f i d l = absurd (omega arith)
get_counted (suc n) f zero d l = refl
get_counted (suc n) f (suc i) d l = get_counted n (λ i. f (suc i)) i d (omega arith)

-- four items behind others, and then more
pub four_behind : {X : Type 0} (front one two three four rest : List X) (a b c d : X) → one ≡ front ++ a ∷ [] → two ≡ one ++ b ∷ [] →
    three ≡ two ++ c ∷ [] → four ≡ three ++ d ∷ [] → four ++ rest ≡ front ++ (a ∷ b ∷ c ∷ d ∷ rest)
four_behind front one two three four rest a b c d first second third fourth =
    ap (λ xs. xs ++ rest) (fourth ∙ ap (λ xs. xs ++ d ∷ []) (third ∙ ap (λ xs. xs ++ c ∷ []) (second ∙ ap (λ xs. xs ++ b ∷ []) first)))
    ∙ append_assoc (((front ++ a ∷ []) ++ b ∷ []) ++ c ∷ []) (d ∷ []) rest
    ∙ append_assoc ((front ++ a ∷ []) ++ b ∷ []) (c ∷ []) (d ∷ rest)
    ∙ append_assoc (front ++ a ∷ []) (b ∷ []) (c ∷ d ∷ rest)
    ∙ append_assoc front (a ∷ []) (b ∷ c ∷ d ∷ rest)
