use Rattle.std.proofs.Common.{◌≡◌, Bool, List, length, map, take}
use Rattle.std.specs.Prelude.{IfSome}
use Rattle.fab_network.specs.Passes.{kept_tern}
use Rattle.fab_phases.specs.Words.{AreLoadSteps, IsLoadingAt, word_bits}
use Rattle.fab_phases.specs.inner.Enables.{IsWatching}
use Rattle.fab_phases.proofs.words.load_words.Given as goal

abbrev pub invariant-loop-word : goal.invariant-loop-word
invariant-loop-word l = record {
  points : length l.demand.leads ≡ length l.fn.demand.leads;
  loading : (loads : List Bool) → IsLoadingAt l.network l.loading loads l.first 32 l.fn.demand l.fn.given → IsLoadingAt l.network l.loading loads l.first 32 l.demand l.given;
  steps : (loads : List Bool) → IsLoadingAt l.network l.loading loads l.first 32 l.fn.demand l.fn.given →
      AreLoadSteps l.network loads l.first (map word_bits (take l.word-index l.words)) (kept_tern l.fn.given) (kept_tern l.given);
  watching : IfSome l.watching (IsWatching l.network l.loading l.demand l.given);
}
