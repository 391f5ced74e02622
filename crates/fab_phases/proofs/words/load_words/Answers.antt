use Rattle.std.proofs.Common.{◌∙◌, ℕ, Bool, List, refl, arith, ap, map, sym, subst, take, get_or}
use Rattle.std.proofs.lemmas.List.{take_all, take_more}
use Rattle.fab_network.specs.Passes.{kept_tern}
use Rattle.fab_phases.specs.Words.{AreLoadSteps, word_bits}
use Rattle.fab_ternary.specs.declared.Tern.{Tern}
use Rattle.fab_phases.specs.inner.Enables.{IsWatching}
use Rattle.fab_phases.specs.declared.watched.Watching.{Watching}
use Rattle.fab_phases.proofs.Lists.{some_grows}
use Rattle.fab_phases.proofs.Stepping.{steps_more, words_more}
use Rattle.fab_phases.proofs.words.load_words.Goals as goal

pub loop-word-preserved : goal.loop-word-preserved
loop-word-preserved c = record {
  points = c.load_word.ensures.points ∙ c.loop-word.invariant.points;
  loading = λ loads at. c.load_word.ensures.loading loads (c.loop-word.invariant.loading loads at);
  watching = c.load_word.ensures.watching;
  steps = λ loads at.
      let words = c.args.words.now in
      let word = get_or words c.loop-word.word-index 0 in
      let before = take c.loop-word.word-index words in
      subst (λ (pieces : List (List Bool)). AreLoadSteps c.args.network.now loads c.args.first pieces (kept_tern c.args.given.now) (kept_tern c.load_word.new.given))
      (sym (ap (map word_bits) (take_more words c.loop-word.word-index 0 c.loop-word-test.true) ∙ words_more before word))
      (steps_more c.args.network.now loads c.args.first (map word_bits before) (word_bits word) (kept_tern c.args.given.now) (kept_tern c.loop-word.given)
      (kept_tern c.load_word.new.given) (c.loop-word.invariant.steps loads at) (c.load_word.ensures.step loads (c.loop-word.invariant.loading loads at)));
}

pub loop-word-init : goal.loop-word-init
loop-word-init c = record {
  points = refl;
  loading = λ loads at. at;
  steps = λ loads at point. refl;
  watching = some_grows (λ (watching : Watching). (given : List Tern) → IsWatching c.args.network.now c.args.loading.now c.args.demand.now given watching)
      (IsWatching c.args.network.now c.args.loading.now c.args.demand.now c.args.given.now) (λ watching is. is c.args.given.now) c.watching_of-watching.result
      c.watching_of-watching.ensures;
}

pub watching_of-watching-requires-clause-loading : goal.watching_of-watching-requires-clause-loading
watching_of-watching-requires-clause-loading c = (c.requires.loading.0, c.args.first, 32, c.args.given.now, c.requires.loading.1)

pub returns-clause-steps : goal.returns-clause-steps
returns-clause-steps c loads at =
    subst (λ (words : List ℕ). AreLoadSteps c.args.network.now loads c.args.first (map word_bits words) (kept_tern c.args.given.now) (kept_tern c.loop-word.given))
    (take_all c.loop-word.word-index c.args.words.now (omega arith)) (c.loop-word.invariant.steps loads at)
