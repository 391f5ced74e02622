-- A node's entry is read, or written.
use Rattle.std.proofs.Common.{◌≡◌, ◌≢◌, ◌⊎◌, ℕ, ◌+◌, ◌<◌, ◌≤◌, List, length, map, get_or, set, sym, ◌∙◌, ap, inl, inr, arith, get_or-set_same, get_or-set_other}
use Rattle.std.proofs.lemmas.Bool.{cases_eq, cases_lt}
use Rattle.std.proofs.lemmas.List.{map-set, get_or-map, length-map, get_or_past}
use Rattle.std.proofs.Math.Seq.{map-set_same}
use Rattle.fab_astar.specs.declared.tables.Node.{Node}

pub read : (f : Node → ℕ) (nodes : List Node) (w : ℕ) (n : Node) → w < length nodes → n ≡ get_or nodes w n → get_or (map f nodes) w 0 ≡ f n
read f nodes w n l e = get_or-map f nodes w n 0 l ∙ ap f (sym e)

-- a part that a write leaves as it was
pub same_part : (f : Node → ℕ) (nodes : List Node) (w : ℕ) (was now : Node) → was ≡ get_or nodes w was → f now ≡ f was → map f (set nodes w now) ≡ map f nodes
same_part f nodes w was now e same = map-set_same f nodes w now was (same ∙ ap f e)

pub part_written : (f : Node → ℕ) (nodes : List Node) (w : ℕ) (now : Node) → map f (set nodes w now) ≡ set (map f nodes) w (f now)
part_written f nodes w now = map-set f nodes w now

-- a part becomes 0, node by node
pub zeroed : (f : Node → ℕ) (nodes : List Node) (w k : ℕ) (now : Node) → f now ≡ 0 → w < length nodes → ((j : ℕ) → j < w → get_or (map f nodes) j 0 ≡ 0) → k < w + 1 → get_or (map f (set nodes w now)) k 0 ≡ 0
zeroed f nodes w k now is_zero inside before l =
    ap (λ xs. get_or xs k 0) (part_written f nodes w now)
    ∙ from_cases (cases_eq k w)
  where
    from_cases : (k ≡ w) ⊎ (k ≢ w) → get_or (set (map f nodes) w (f now)) k 0 ≡ 0
    from_cases (inl e) = rw e (get_or-set_same (map f nodes) w (f now) 0 (omega (arith, inside, length-map nodes f)) ∙ is_zero)
    from_cases (inr n) = get_or-set_other (map f nodes) w k (f now) 0 n ∙ before k (omega arith)

pub all_zero : (f : Node → ℕ) (nodes : List Node) (n : ℕ) → ((j : ℕ) → j < n → get_or (map f nodes) j 0 ≡ 0) → length nodes ≤ n → (k : ℕ) → get_or (map f nodes) k 0 ≡ 0
all_zero f nodes n before all k = elim (cases_lt k n) [
  | inl l ↦ before k l
  | inr l ↦ get_or_past (map f nodes) k 0 (omega (arith, length-map nodes f))
]
