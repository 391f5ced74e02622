-- What is left of cells without the last ones that are empty.
use Rattle.std.proofs.Common.{◌≡◌, ℕ, ◌+◌, ◌-◌, ◌<◌, ◌≤◌, List, [], ◌∷◌, ◌++◌, length, take, get_or, sym, ap, ◌∙◌, arith}
use Rattle.std.proofs.lemmas.List.{take_more}
use Rattle.fab_lines.specs.Parts.{without_back, is_empty_cell}
use Rattle.fab_lines.proofs.LastItems.{without_back-passes, without_back-fails, is_empty-none, is_empty-some}

take_last : (cells : List (List ℕ)) (count : ℕ) (other : List ℕ) → 0 < count → count ≤ length cells → take count cells ≡ take (count - 1) cells ++ get_or cells (count - 1) other ∷ []
take_last cells count other some within =
    let one_more : count ≡ count - 1 + 1 = omega arith in
    ap (λ n. take n cells) one_more ∙ take_more cells (count - 1) other (omega arith)

-- an empty last cell goes
pub empty_goes : (cells : List (List ℕ)) (count : ℕ) (other : List ℕ) → 0 < count → count ≤ length cells → length (get_or cells (count - 1) other) ≤ 0
    → without_back is_empty_cell (take (count - 1) cells) ≡ without_back is_empty_cell (take count cells)
empty_goes cells count other some within none =
    sym (ap (without_back is_empty_cell) (take_last cells count other some within)
    ∙ without_back-passes is_empty_cell (take (count - 1) cells) (get_or cells (count - 1) other) (is_empty-none (get_or cells (count - 1) other) none))

-- before a filled last cell, all stay
pub filled_stays : (cells : List (List ℕ)) (count : ℕ) (other : List ℕ) → 0 < count → count ≤ length cells → 0 < length (get_or cells (count - 1) other)
    → take count cells ≡ without_back is_empty_cell (take count cells)
filled_stays cells count other some within filled =
    let more = take_last cells count other some within in
    more
    ∙ sym (ap (without_back is_empty_cell) more
    ∙ without_back-fails is_empty_cell (take (count - 1) cells) (get_or cells (count - 1) other) (is_empty-some (get_or cells (count - 1) other) filled))
