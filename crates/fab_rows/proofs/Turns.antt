-- Items of a list in turn.
use Rattle.std.proofs.Common.{◌≡◌, ℕ, ◌+◌, ◌<◌, List, ◌∷◌, length, drop, get_or, add-one, sym}
use Rattle.std.proofs.Math.Seq.{drop-cons}

-- what is left begins with the next item
pub drop_next : {X : Type 0} (items : List X) (place : ℕ) (item : X) → place < length items → item ≡ get_or items place item → drop place items ≡ item ∷ drop (place + 1) items
drop_next items place item below is = rw (add-one, is) (drop-cons items place item below)
