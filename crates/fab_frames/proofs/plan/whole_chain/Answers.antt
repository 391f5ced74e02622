use Rattle.std.proofs.Common.{◌≡◌, ◌∙◌, ◌+◌, ◌-◌, ◌++◌, refl, ap, arith, map, reverse}
use Rattle.fab_model.specs.Tiles.{counted}
use Rattle.fab_frames.specs.Stream.{of_chain}
use Rattle.fab_frames.specs.inner.Taking.{plain_part}
use Rattle.fab_frames.proofs.Parts.{chain_word_put, whole_chain_put}
use Rattle.fab_frames.proofs.plan.whole_chain.Goals as goal

pub loop-word-preserved : goal.loop-word-preserved
loop-word-preserved c =
    let n = c.loop-word.word - 1 in
    let one_more : n + 1 ≡ c.loop-word.word = omega arith in
    chain_word_put c.loop-word.parts.items _ _ (reverse (counted c.args.words of_chain)) n
    (ap (λ k. map plain_part c.loop-word.parts.items ++ reverse (counted k of_chain)) one_more ∙ c.loop-word.invariant) c.in_ok-push.ensures.items refl

pub returns : goal.returns
returns c = whole_chain_put c.loop-word.parts.items (reverse (counted c.args.words of_chain)) c.loop-word.word (omega arith) c.loop-word.invariant
