-- Words that are drawn one after the other.
use Rattle.std.proofs.Common.{◌≡◌, ℕ, zero, suc, ◌+◌, ap, refl, sym, ◌∙◌, suc-add, zero-add}
use Rattle.rand_pcg.specs.Lcg.{Lcg, next_state, state_after}
use Rattle.rand_core.specs.Pcg32Seed.{pcg32_seed}
use Rattle.rand_pcg.specs.Pcg.{multiplier_64, pcg32, pcg32_of_seed}
use Rattle.fab_draws.specs.Draws.{after, behind, generator_of, word_at}

state_after-add : (w m p j k s : ℕ) → state_after w m p (j + k) s ≡ state_after w m p k (state_after w m p j s)
unfolding state_after
state_after-add w m p zero k s = ap (λ n. state_after w m p n s) (zero-add k)
state_after-add w m p (suc j) k s = ap (λ n. state_after w m p n s) (suc-add j k) ∙ state_after-add w m p j k (next_state w m p s)

pub after-after : (j k : ℕ) (g : Lcg) → after k (after j g) ≡ after (j + k) g
unfolding after
after-after j k g =
    let at : ℕ → Lcg = λ s. record g { state = s } in
    ap at (sym (state_after-add 64 multiplier_64 g.increment j k g.state))

pub after_none : (g : Lcg) → after 0 g ≡ g
unfolding after state_after
after_none g = refl

pub word_at-after : (j k : ℕ) (g : Lcg) → word_at (after j g) k ≡ word_at g (j + k)
unfolding word_at
word_at-after j k g = ap (λ (h : Lcg). (pcg32 h).0) (after-after j k g)

-- the words of a generator behind its first ones
pub words_behind : (j : ℕ) (g : Lcg) → word_at (after j g) ≡ behind j (word_at g)
words_behind j g = λ i k. word_at-after j k g i

-- one word is drawn
pub drawn : (g : Lcg) → pcg32 g ≡ (word_at g 0, after 1 g)
unfolding word_at after state_after
drawn g = refl

-- the first word behind n words, and what is left behind it
pub word_here : (n : ℕ) (g h : Lcg) → h ≡ after n g → word_at h 0 ≡ word_at g (n + 0)
word_here n g h is = ap (λ (x : Lcg). word_at x 0) is ∙ word_at-after n 0 g

pub more_drawn : (n k : ℕ) (g h new : Lcg) → h ≡ after n g → new ≡ after k h → new ≡ after (n + k) g
more_drawn n k g h new is drew = drew ∙ ap (after k) is ∙ after-after n k g

-- the words that a generator gives from here on
pub words_here : (n : ℕ) (start here : Lcg) → here ≡ after n start → word_at here ≡ behind n (word_at start)
words_here n start here is = ap word_at is ∙ words_behind n start

pub seeded : (seed : ℕ) → pcg32_of_seed (pcg32_seed 16 seed) ≡ generator_of seed
unfolding generator_of
seeded seed = refl
