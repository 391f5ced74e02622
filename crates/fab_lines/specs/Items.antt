-- Items of a list by their place.
use Rattle.std.specs.Prelude.{ℕ, Bool, List, [], ◌∷◌, ◌==◌, not, length, slice_index_or}
use Rattle.std.specs.List.{list_any}
use Rattle.std.specs.Str.{bytes_eq}

-- whether a word is one of these
abbrev pub is_among : (names : List (List ℕ)) → (name : List ℕ) → Bool
is_among names name = list_any (bytes_eq name) names

-- whether a word has a byte
abbrev pub is_filled : (word : List ℕ) → Bool
is_filled word = not (length word == 0)

-- of the words of a line the one at a place, which is empty past the end
abbrev pub word_at : List (List ℕ) → (place : ℕ) → List ℕ
word_at words place = slice_index_or words place []

-- a list with its last item changed
abbrev pub with_last : {X : Type 0} → (X → X) → List X → List X
with_last change [] = []
with_last change (x ∷ []) = change x ∷ []
with_last change (x ∷ y ∷ more) = x ∷ with_last change (y ∷ more)
