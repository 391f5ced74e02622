use Rattle.std.proofs.Common.{◌+◌, ◌∙◌, Bool, List, suc, ap, arith, length, sym, subst, take, get_or}
use Rattle.std.specs.List.{slice_get}
use Rattle.std.proofs.lemmas.List.{take_more}
use Rattle.std.proofs.lemmas.Option.{slice_get_within}
use Rattle.fab_meaning.specs.Loading.{single_bits}
use Rattle.fab_network.specs.declared.network.Drive.TheVariants.{Given}
use Rattle.fab_network.specs.Passes.{kept_tern}
use Rattle.fab_phases.specs.Words.{AreLoadSteps, word_bits}
use Rattle.fab_phases.specs.inner.Chain.{IsMoved}
use Rattle.fab_phases.specs.declared.loading.LoadedFlop.{LoadedFlop}
use Rattle.fab_phases.proofs.Chained.{chain_apart, chain_of, chain_within, words_step}
use Rattle.fab_phases.proofs.Stepping.{all_bits, bits_more, steps_then}
use Rattle.fab_phases.proofs.words.load_bits.Goals as goal

pub move_chain-requires-clause-source : goal.move_chain-requires-clause-source
move_chain-requires-clause-source c =
    let at = c.requires.loading.1 in
    let within = slice_get_within c.args.network.now.drives.items (c.args.point + 0) Given (at.inputs 0 (omega arith)).0 in
    omega (arith, within, c.requires.points, c.requires.given)

pub move_chain-requires-clause-within : goal.move_chain-requires-clause-within
move_chain-requires-clause-within c place flop e =
    let at = c.requires.loading.1 in
    chain_within c.args.network.now at.asked c.requires.loading.0 c.args.loading.now (length c.args.given.now) at.gathered (c.requires.points ∙ sym c.requires.given) place flop
    (ap (λ (flops : List LoadedFlop). slice_get flops place) (sym c.deref.ensures.value) ∙ e)

pub move_chain-requires-clause-apart : goal.move_chain-requires-clause-apart
move_chain-requires-clause-apart c place flop e =
    let at = c.requires.loading.1 in
    let chain = chain_of c.args.network.now at.asked c.requires.loading.0 c.args.loading.now c.args.point (c.is_behind.ensures c.if-is_behind.true) at.gathered in
    chain_apart c.args.network.now at.asked c.requires.loading.0 c.args.loading.now c.args.point at.gathered chain place flop
    (ap (λ (flops : List LoadedFlop). slice_get flops place) (sym c.deref.ensures.value) ∙ e)

pub move_chain-requires-clause-rises : goal.move_chain-requires-clause-rises
move_chain-requires-clause-rises c place flop next e f =
    let at = c.requires.loading.1 in
    let chain = chain_of c.args.network.now at.asked c.requires.loading.0 c.args.loading.now c.args.point (c.is_behind.ensures c.if-is_behind.true) at.gathered in
    let same = sym c.deref.ensures.value in
    chain.chain.rises place flop next (ap (λ (flops : List LoadedFlop). slice_get flops place) same ∙ e) (ap (λ (flops : List LoadedFlop). slice_get flops (suc place)) same ∙ f)

pub returns-then-is_behind-clause-steps : goal.returns-then-is_behind-clause-steps
returns-then-is_behind-clause-steps c loads at =
    words_step c.args.network.now c.args.loading.now loads c.args.point c.args.demand.now c.args.words.now c.args.given.now c.move_chain.new.given c.requires.solvable
    (c.is_behind.ensures c.if-is_behind.true) at
    (subst (λ (flops : List LoadedFlop). IsMoved flops c.args.point c.args.words.now (kept_tern c.args.given.now) (kept_tern c.move_chain.new.given)) c.deref.ensures.value
    c.move_chain.ensures)

pub loop-word-preserved : goal.loop-word-preserved
loop-word-preserved c = record {
  points = c.load_word_bits.ensures.points ∙ c.loop-word.invariant.points;
  loading = λ loads at. c.load_word_bits.ensures.loading loads (c.loop-word.invariant.loading loads at);
  steps = λ loads at.
      let words = c.args.words.now in
      let word = get_or words c.loop-word.word-index 0 in
      let before = take c.loop-word.word-index words in
      subst (λ (pieces : List (List Bool)). AreLoadSteps c.args.network.now loads c.args.point pieces (kept_tern c.args.given.now) (kept_tern c.load_word_bits.new.given))
      (sym (ap all_bits (take_more words c.loop-word.word-index 0 c.loop-word-test.true) ∙ bits_more before word))
      (steps_then c.args.network.now loads c.args.point (all_bits before) (single_bits (word_bits word)) (kept_tern c.args.given.now) (kept_tern c.loop-word.given)
      (kept_tern c.load_word_bits.new.given) (c.loop-word.invariant.steps loads at) (c.load_word_bits.ensures.steps loads (c.loop-word.invariant.loading loads at)));
}
