-- An order that is shuffled, place by place.
use Rattle.std.proofs.Common.{◌≡◌, ℕ, zero, suc, ◌+◌, ◌-◌, ◌<◌, ◌≤◌, ◌%◌, List, sym, ap, ◌∙◌, refl, arith}
use Rattle.std.specs.List.{swap}
use Rattle.rand_pcg.specs.Lcg.{Lcg}
use Rattle.fab_draws.specs.Draws.{after, behind, word_at}
use Rattle.fab_draws.specs.Shuffled.{shuffled}
use Rattle.fab_draws.proofs.Drawing.{words_behind}

-- the last place is exchanged, and the places before it are left
pub shuffle_more : (last : ℕ) (g new : Lcg) (order changed : List ℕ) (places other : ℕ) → 0 < last → places ≡ last + 1 → new ≡ after 1 g →
    other ≡ word_at g 0 % (last + 1) → changed ≡ swap order last other → shuffled last (word_at new) changed ≡ shuffled places (word_at g) order
shuffle_more zero g new order changed places other some is drew other_is swapped = absurd (omega arith)
shuffle_more (suc i) g new order changed places other some is drew other_is swapped =
    let words : word_at new ≡ behind 1 (word_at g) = ap word_at drew ∙ words_behind 1 g in
    let bound : suc i + 1 ≡ suc (suc i) = omega arith in
    let at : other ≡ word_at g 0 % suc (suc i) = other_is ∙ ap (λ n. word_at g 0 % n) bound in
    let exchanged : changed ≡ swap order (suc i) (word_at g 0 % suc (suc i)) = swapped ∙ ap (swap order (suc i)) at in
    let all : places ≡ suc (suc i) = omega arith in
    (λ k. shuffled (suc i) (words k) (exchanged k)) ∙ sym (ap (λ n. shuffled n (word_at g) order) all)

-- one place or none is left as it is
pub shuffle_none : (places : ℕ) (draws : ℕ → ℕ) (order : List ℕ) → places ≤ 1 → shuffled places draws order ≡ order
shuffle_none zero draws order few = refl
shuffle_none (suc zero) draws order few = refl
shuffle_none (suc (suc i)) draws order few = absurd (omega arith)
