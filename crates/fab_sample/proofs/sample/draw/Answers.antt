use Rattle.std.proofs.Common.{◌*◌, ◌∙◌, ap}
use Rattle.rand_pcg.specs.Lcg.{Lcg}
use Rattle.fab_draws.specs.Draws.{behind, word_at}
use Rattle.fab_sample.specs.Drawn.{covers, latches, stimulus_lines}
use Rattle.fab_draws.proofs.Drawing.{seeded, words_here}
use Rattle.fab_sample.proofs.sample.draw.Goals as goal

pub returns-clause-covers : goal.returns-clause-covers
returns-clause-covers c =
    let size = c.args.size in
    c.in_ok-covers.ensures.covers ∙ ap (λ (g : Lcg). covers size (word_at g)) (c.seed_from_u64-random.ensures ∙ seeded c.args.seed)

pub returns-clause-latches : goal.returns-clause-latches
returns-clause-latches c =
    let size = c.args.size in
    let start = c.seed_from_u64-random.result in
    let n = 4 * (size * size) in
    c.in_ok-latches.ensures.latches
    ∙ ap (latches size) (words_here n start c.draw_covers.new.random c.in_ok-covers.ensures.rest)
    ∙ ap (λ (g : Lcg). latches size (behind n (word_at g))) (c.seed_from_u64-random.ensures ∙ seeded c.args.seed)

pub returns-clause-stimulus : goal.returns-clause-stimulus
returns-clause-stimulus c =
    let size = c.args.size in
    let start = c.seed_from_u64-random.result in
    let n = 4 * (size * size) in
    let m = 2 * size in
    c.in_ok-stimulus.ensures
    ∙ ap (stimulus_lines size) (words_here m c.draw_covers.new.random c.draw_latches.new.random c.in_ok-latches.ensures.rest)
    ∙ ap (λ draws. stimulus_lines size (behind m draws)) (words_here n start c.draw_covers.new.random c.in_ok-covers.ensures.rest)
    ∙ ap (λ (g : Lcg). stimulus_lines size (behind m (behind n (word_at g)))) (c.seed_from_u64-random.ensures ∙ seeded c.args.seed)
