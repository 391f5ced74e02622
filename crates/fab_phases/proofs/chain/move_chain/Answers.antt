use Rattle.std.proofs.Common.{ℕ, suc, ◌<◌, ◌≡◌, ◌∙◌, ◌+◌, ◌-◌, length, sym, subst, ap, arith, get_or, slice_set}
use Rattle.std.proofs.lemmas.Option.{slice_get-get_or, slice_get_within}
use Rattle.fab_systems_laws.specs.Ternary.{known}
use Rattle.fab_network.specs.Passes.{kept_tern}
use Rattle.fab_phases.proofs.Chained.{IsMovedFrom, first_bit, moved_all, moved_more}
use Rattle.fab_phases.proofs.Ticking.{no_flop}
use Rattle.fab_phases.proofs.chain.move_chain.Goals as goal

pub loop-moved-preserved : goal.loop-moved-preserved
loop-moved-preserved c =
    let flops = c.args.flops.now in
    let words = c.args.words.now in
    let old = kept_tern c.args.given.now in
    let now = c.loop-moved.given in
    let test = c.loop-moved-test.true in
    let place = length flops - 1 - c.loop-moved.moved in
    let flop = get_or flops place no_flop in
    let within : place < length flops = omega (arith, test) in
    let at = slice_get-get_or flops place no_flop within in
    let here : length flops - (c.loop-moved.moved + 1) ≡ place = omega arith in
    let before : length flops - c.loop-moved.moved ≡ suc place = omega (arith, test) in
    let inside = c.requires.within place flop at in
    let last = slice_get_within words (length words - 1) c.in-Some.last.now (sym c.in-Some.ensures.value) in
    subst (λ (from : ℕ). IsMovedFrom flops words from old (kept_tern (slice_set now flop.point c.comes_to-left.result))) (sym here)
    (moved_more flops words place old now flop c.comes_to-left.result c.requires.rises at (omega (arith, inside, c.loop-moved.auto.given)) (omega (arith, last))
    c.comes_to-left.ensures (subst (λ (from : ℕ). IsMovedFrom flops words from old (kept_tern now)) before c.loop-moved.invariant))

pub returns : goal.returns
returns c =
    let flops = c.args.flops.now in
    let words = c.args.words.now in
    let old = kept_tern c.args.given.now in
    let now = c.loop-moved.given in
    let test = c.loop-moved-test.false in
    let none : length flops - c.loop-moved.moved ≡ 0 = omega (arith, test) in
    let at_last = sym c.in-Some.ensures.value in
    let last = slice_get_within words (length words - 1) c.in-Some.last.now at_last in
    moved_all flops c.args.source words old now c.known.result c.requires.rises c.requires.apart (omega (arith, c.requires.source, c.loop-moved.auto.given)) (omega (arith, last))
    (c.known.ensures ∙ ap known (sym (first_bit words c.in-Some.last.now at_last)))
    (subst (λ (from : ℕ). IsMovedFrom flops words from old (kept_tern now)) none c.loop-moved.invariant)
