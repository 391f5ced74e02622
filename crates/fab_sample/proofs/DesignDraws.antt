-- Covers and latches by the words that were drawn for them.
use Rattle.std.proofs.Common.{◌≡◌, ℕ, ◌+◌, ◌*◌, ap, ◌∙◌, add-zero}
use Rattle.rand_pcg.specs.Lcg.{Lcg}
use Rattle.fab_draws.specs.Draws.{after, word_at}
use Rattle.fab_sample.specs.Drawn.{cover_of, drawn_cover, latch_of, drawn_latch}
use Rattle.fab_draws.proofs.Drawing.{words_here}

pub cover_here : (size number : ℕ) (start here : Lcg) → here ≡ after (4 * number) start
    → cover_of size (2 * size + number) (word_at here 0) (word_at here 1) (word_at here 2) (word_at here 3) ≡ drawn_cover size (word_at start) number
cover_here size number start here is =
    let known = 2 * size + number in
    let n = 4 * number in
    ap (λ (draws : ℕ → ℕ). cover_of size known (draws 0) (draws 1) (draws 2) (draws 3)) (words_here n start here is)
    ∙ ap (λ (first : ℕ). cover_of size known (word_at start first) (word_at start (n + 1)) (word_at start (n + 2)) (word_at start (n + 3))) (add-zero n)

pub latch_here : (size number : ℕ) (start here : Lcg) → here ≡ after (2 * number) start
    → latch_of size (word_at here 0) (word_at here 1) ≡ drawn_latch size (word_at start) number
latch_here size number start here is =
    let n = 2 * number in
    ap (λ (draws : ℕ → ℕ). latch_of size (draws 0) (draws 1)) (words_here n start here is)
    ∙ ap (λ (first : ℕ). latch_of size (word_at start first) (word_at start (n + 1))) (add-zero n)
