use Rattle.std.proofs.Common.{◌≡◌, ◌*◌, ◌%◌, ◌∙◌, ap, ℕ, Bool}
use Rattle.fab_sample.specs.declared.design.Latch.{Latch}
use Rattle.fab_draws.specs.Draws.{is_one, word_at}
use Rattle.fab_draws.proofs.Drawing.{more_drawn, word_here}
use Rattle.fab_sample.proofs.design.draw_latch.Goals as goal

pub returns-clause-latch : goal.returns-clause-latch
returns-clause-latch c =
    let start = c.args.random.now in
    let count = c.args.size * c.args.size in
    let second = word_here 1 start c.draw_below-cover.new.random c.draw_below-cover.ensures.rest in
    let cover : c.draw_below-cover.result ≡ word_at start 0 % count =
    c.draw_below-cover.ensures.word ∙ ap (λ (n : ℕ). word_at start 0 % n) c.cover_count.ensures.value in
    let initial : c.draw_bit-initial.result ≡ is_one (word_at start 1) = c.draw_bit-initial.ensures.word ∙ ap (λ (word : ℕ). is_one word) second in
    let of_cover : ℕ → Latch = λ n. record { cover = n; initial = c.draw_bit-initial.result } in
    let of_initial : Bool → Latch = λ bit. record { cover = word_at start 0 % count; initial = bit } in
    ap of_cover cover ∙ ap of_initial initial

pub returns-clause-rest : goal.returns-clause-rest
returns-clause-rest c =
    let cover = c.draw_below-cover.new.random in
    more_drawn 1 1 c.args.random.now cover c.draw_bit-initial.new.random c.draw_below-cover.ensures.rest c.draw_bit-initial.ensures.rest
