use Rattle.std.proofs.Common.{rules, ◌≡◌, ℕ, ◌+◌, ◌-◌, ◌<◌, ◌∷◌, [], take, get_or, List, arith, sym, ap, ◌∙◌}
use Rattle.std.proofs.lemmas.List.{get_or_read}
use Rattle.fab_netlist.specs.Wide.{PlainWideCover}
use Rattle.fab_wide.specs.inner.Narrowing.{PlainNarrowing}
use Rattle.fab_wide.specs.inner.Words.{number_of_words}
use Rattle.fab_wide.specs.Split.{taken}
use Rattle.fab_wide.proofs.Steps.{halves, leaf_state, narrowed_same, on_ok, taken_same, taken_two, two_states}
use Rattle.fab_wide.proofs.narrowing.«+narrow».Goals as goal

pub returns-then-inputs-le4 : goal.returns-then-inputs-le4
returns-then-inputs-le4 t c =
    let line : c.cover.inside.line ≡ c.args.cover.now.line = ap (λ (z : PlainWideCover). z.line) c.cover.view_is in
    let nets : c.deref.result.now ≡ c.args.cover.now.inputs = search rules in
    on_ok c.push.result
    (λ is. is ∙ leaf_state c.args.cover.now.line c.args.cover.now.inputs c.args.inputs c.args.words.now c.args.output _ _ _ c.args.made.now
    (omega (arith, c.if-inputs-le4.true)) c.requires.words line
    (c.split_at.ensures.front ∙ ap (λ (list : List ℕ). take c.args.inputs list) nets)) c.push.ensures

pub narrow-requires : goal.narrow-requires
narrow-requires t c =
    let more : 4 < c.args.inputs = omega (arith, c.if-inputs-le4.false) in
    let low = c.split_at-2.result.0.now in
    let high = c.split_at-2.result.1.now in
    let half = halves c.args.inputs c.args.words.now low high more c.requires.words c.split_at-2.ensures.front c.split_at-2.ensures.back in
    let nets = taken_same c.args.inputs c.args.words.now low high more half (sym c.if-same_words.ensures) in (
      omega (arith, c.decreases, more),
      (
        omega (arith, c.requires.few),
        (omega (arith, c.requires.most), (half.low_words, omega (arith, c.requires.room, nets))),
      ),
    )

pub returns-then-same_words : goal.returns-then-same_words
returns-then-same_words t c =
    let more : 4 < c.args.inputs = omega (arith, c.if-inputs-le4.false) in
    let low = c.split_at-2.result.0.now in
    let high = c.split_at-2.result.1.now in
    let half = halves c.args.inputs c.args.words.now low high more c.requires.words c.split_at-2.ensures.front c.split_at-2.ensures.back in
    on_ok c.narrow.result
    (λ is. is ∙ narrowed_same c.args.cover.now.line c.args.cover.now.inputs c.args.inputs c.args.words.now low high c.args.output c.args.made.now more half
    (sym c.if-same_words.ensures)) c.narrow.ensures

pub take_two-net-requires : goal.take_two-net-requires
take_two-net-requires t c =
    let more : 4 < c.args.inputs = omega (arith, c.if-inputs-le4.false) in
    let low = c.split_at-2.result.0.now in
    let high = c.split_at-2.result.1.now in
    let half = halves c.args.inputs c.args.words.now low high more c.requires.words c.split_at-2.ensures.front c.split_at-2.ensures.back in
    omega (arith, c.requires.room, taken_two c.args.inputs c.args.words.now low high more half (sym c.if-same_words.ensures))

pub narrow-requires-2 : goal.narrow-requires-2
narrow-requires-2 t c =
    let more : 4 < c.args.inputs = omega (arith, c.if-inputs-le4.false) in
    let low = c.split_at-2.result.0.now in
    let high = c.split_at-2.result.1.now in
    let half = halves c.args.inputs c.args.words.now low high more c.requires.words c.split_at-2.ensures.front c.split_at-2.ensures.back in
    let nets = taken_two c.args.inputs c.args.words.now low high more half (sym c.if-same_words.ensures) in
    let fresh : c.take_two-net.new.self.fresh ≡ 2 + c.args.made.now.fresh = ap (λ (z : PlainNarrowing). z.fresh) c.take_two-net.ensures.takes in (
      omega (arith, c.decreases, more),
      (
        omega (arith, c.requires.few),
        (omega (arith, c.requires.most), (half.low_words, omega (arith, c.requires.room, nets, fresh))),
      ),
    )

pub narrow-requires-3 : goal.narrow-requires-3
narrow-requires-3 t c =
    let more : 4 < c.args.inputs = omega (arith, c.if-inputs-le4.false) in
    let low = c.split_at-2.result.0.now in
    let high = c.split_at-2.result.1.now in
    let half = halves c.args.inputs c.args.words.now low high more c.requires.words c.split_at-2.ensures.front c.split_at-2.ensures.back in
    let nets = taken_two c.args.inputs c.args.words.now low high more half (sym c.if-same_words.ensures) in
    let fresh : c.take_two-net.new.self.fresh ≡ 2 + c.args.made.now.fresh = ap (λ (z : PlainNarrowing). z.fresh) c.take_two-net.ensures.takes in
    let later : c.narrow-2.new.made.fresh ≡ taken (c.args.inputs - 1) (number_of_words low) + c.take_two-net.new.self.fresh =
    ap (λ (z : PlainNarrowing). z.fresh) c.in_ok-narrow.ensures in (
      omega (arith, c.decreases, more),
      (
        omega (arith, c.requires.few),
        (omega (arith, c.requires.most), (half.high_words, omega (arith, c.requires.room, nets, fresh, later))),
      ),
    )

pub returns : goal.returns
returns t c =
    let more : 4 < c.args.inputs = omega (arith, c.if-inputs-le4.false) in
    let low = c.split_at-2.result.0.now in
    let high = c.split_at-2.result.1.now in
    let half = halves c.args.inputs c.args.words.now low high more c.requires.words c.split_at-2.ensures.front c.split_at-2.ensures.back in
    let line : c.cover.inside.line ≡ c.args.cover.now.line = ap (λ (z : PlainWideCover). z.line) c.cover.view_is in
    let read : c.index-last.result.now ≡ get_or c.args.cover.now.inputs (c.args.inputs - 1) c.index-last.result.now = search rules in
    let last : c.index-last.result.now ≡ get_or c.args.cover.now.inputs (c.args.inputs - 1) 0 =
    get_or_read c.args.cover.now.inputs (c.args.inputs - 1) c.index-last.result.now (omega (arith, c.requires.few, more)) read 0 in
    on_ok c.push-2.result
    (λ is. is ∙ two_states c.args.cover.now.line c.args.cover.now.inputs c.args.inputs c.args.words.now low high c.args.output c.take_two-net.result _ _
    c.args.made.now c.take_two-net.new.self c.narrow-2.new.made c.narrow-3.new.made
    more half (sym c.if-same_words.ensures) c.take_two-net.ensures.first c.take_two-net.ensures.takes c.in_ok-narrow.ensures c.in_ok-narrow-2.ensures line
    (ap (λ (net : ℕ). c.take_two-net.result ∷ (1 + c.take_two-net.result) ∷ net ∷ []) last)) c.push-2.ensures
