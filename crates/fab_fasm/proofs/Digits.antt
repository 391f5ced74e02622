-- Binary digits of a number, one by one.
use Rattle.std.proofs.Common.{◌≡◌, ℕ, suc, ◌+◌, ◌-◌, ◌/◌, ◌%◌, ◌^◌, ◌≤◌, List, [], ◌∷◌, ◌++◌, sym, ap, ◌∙◌, arith, append_assoc, append-nil, add-one, div-one}
use Rattle.std.proofs.lemmas.Nat.{shr-shr}
use Rattle.fab_fasm.specs.Printing.{binary}

-- no digit yet
pub binary_none : (width number : ℕ) (out : List ℕ) → out ≡ out ++ binary (width - width) number
unfolding binary
binary_none width number out =
    let none : width - width ≡ 0 = omega arith in
    rw none (sym (append-nil out))

-- all digits
pub binary_all : (width number : ℕ) (out : List ℕ) → out ++ binary (width - 0) (number / 2 ^ 0) ≡ out ++ binary width number
binary_all width number out =
    let all : width - 0 ≡ width = omega arith in
    ap (λ n. out ++ binary n (number / 2 ^ 0)) all ∙ ap (λ n. out ++ binary width n) (div-one number)

-- one digit more, of the next lower place
pub binary_more : (width place number : ℕ) (old : List ℕ) → suc place ≤ width
    → (old ++ binary (width - suc place) (number / 2 ^ suc place)) ++ (48 + number / 2 ^ place % 2) ∷ [] ≡ old ++ binary (width - place) (number / 2 ^ place)
unfolding binary
binary_more width place number old within =
    let count : width - place ≡ suc (width - suc place) = omega arith in
    let half : number / 2 ^ place / 2 ≡ number / 2 ^ suc place = shr-shr number place 1 ∙ ap (λ n. number / 2 ^ n) (add-one place) in
    rw count (append_assoc old (binary (width - suc place) (number / 2 ^ suc place)) _ ∙ ap (λ n. old ++ (binary (width - suc place) n ++ (48 + number / 2 ^ place % 2) ∷ [])) (sym half))
