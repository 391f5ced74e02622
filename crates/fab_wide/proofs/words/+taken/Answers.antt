use Rattle.std.proofs.Common.{◌+◌, ◌<◌, arith, sym, ◌∙◌}
use Rattle.fab_wide.proofs.Steps.{halves, taken_same, taken_two}
use Rattle.fab_wide.proofs.words.«+taken».Goals as goal

pub taken-first-requires : goal.taken-first-requires
taken-first-requires t c =
    let more : 4 < c.args.inputs = omega (arith, c.if-inputs-le4.false) in
    let half = halves c.args.inputs c.args.words.now c.split_at.result.0.now c.split_at.result.1.now more c.requires.words c.split_at.ensures.front
    c.split_at.ensures.back in
    (omega (arith, c.decreases, more), (omega (arith, c.requires.few), half.low_words))

pub taken-requires : goal.taken-requires
taken-requires t c =
    let more : 4 < c.args.inputs = omega (arith, c.if-inputs-le4.false) in
    let half = halves c.args.inputs c.args.words.now c.split_at.result.0.now c.split_at.result.1.now more c.requires.words c.split_at.ensures.front
    c.split_at.ensures.back in
    (omega (arith, c.decreases, more), (omega (arith, c.requires.few), half.high_words))

pub returns-then-same_words-clause-value : goal.returns-then-same_words-clause-value
returns-then-same_words-clause-value t c =
    let more : 4 < c.args.inputs = omega (arith, c.if-inputs-le4.false) in
    let low = c.split_at.result.0.now in
    let high = c.split_at.result.1.now in
    let half = halves c.args.inputs c.args.words.now low high more c.requires.words c.split_at.ensures.front c.split_at.ensures.back in
    c.taken-first.ensures.value ∙ sym (taken_same c.args.inputs c.args.words.now low high more half (sym c.if-same_words.ensures))

pub returns-clause-value : goal.returns-clause-value
returns-clause-value t c =
    let more : 4 < c.args.inputs = omega (arith, c.if-inputs-le4.false) in
    let low = c.split_at.result.0.now in
    let high = c.split_at.result.1.now in
    let half = halves c.args.inputs c.args.words.now low high more c.requires.words c.split_at.ensures.front c.split_at.ensures.back in
    (λ j. 2 + (c.taken-first.ensures.value j + c.taken.ensures.value j)) ∙ sym (taken_two c.args.inputs c.args.words.now low high more half
    (sym c.if-same_words.ensures))
