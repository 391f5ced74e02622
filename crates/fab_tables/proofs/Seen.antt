-- Lists of references as they are seen.
use Rattle.std.proofs.Common.{◌≡◌, ℕ, suc, ◌+◌, ◌<◌, ◌≤◌, Bool, true, List, [], ◌∷◌, ◌-◌, map, take, drop, length, get_or, ◌&&◌, refl, ap, sym, ◌∙◌, add-one, arith}
use Rattle.std.proofs.Math.Seq.{drop-cons}
use Rattle.std.proofs.lemmas.List.{take_all}
use Rattle.std.specs.List.{list_all}
use Rattle.fab_tables.specs.Cells.{is_text, is_choice, are_pieces}

-- a test of what is seen of items
pub all_seen : {X Y : Type 0} (test : Y → Bool) (now : X → Y) (xs : List X) → list_all test (map now xs) ≡ list_all (λ x. test (now x)) xs
all_seen test now [] = refl
all_seen test now (x ∷ xs) = ap (λ b. test (now x) && b) (all_seen test now xs)

-- what is seen of the items that are left begins with the next
pub map_drop_next : {X Y : Type 0} (now : X → Y) (items : List X) (place : ℕ) (other : X) → place < length items → map now (drop place items) ≡ now (get_or items place other) ∷ map now (drop (place + 1) items)
map_drop_next {X} now items place other below =
    let next : drop (place + 1) items ≡ drop (suc place) items = ap (λ n. drop n items) (add-one place) in
    let whole : drop place items ≡ get_or items place other ∷ drop (suc place) items = drop-cons items place other below in
    ap (map now) whole ∙ ap (λ (rest : List X). now (get_or items place other) ∷ map now rest) (sym next)

-- a text and choices that are seen
pub pieces_seen : {X : Type 0} (now : X → List ℕ) (pieces : List X) (other : X) (rest : Bool) → 1 ≤ length pieces → is_text (now (get_or pieces 0 other)) ≡ true → rest ≡ list_all (λ piece. is_choice (now piece)) (take (length pieces - 1) (drop 1 pieces))
    → rest ≡ are_pieces (map now pieces)
pieces_seen now [] other rest some text choices = absurd (omega arith)
pieces_seen now (piece ∷ pieces) other rest some text choices =
    rw text (choices ∙ ap (λ ps. list_all (λ p. is_choice (now p)) ps) (take_all (length (piece ∷ pieces) - 1) pieces (omega arith)) ∙ sym (all_seen is_choice now pieces))
