use Rattle.std.proofs.Common.{◌≡◌, Bool, List, length, take}
use Rattle.fab_meaning.specs.Loading.{single_bits}
use Rattle.fab_network.specs.Passes.{kept_tern}
use Rattle.fab_phases.specs.Words.{AreLoadSteps, IsLoadingAt, word_bits}
use Rattle.fab_phases.proofs.words.load_word_bits.Given as goal

abbrev pub invariant-loop-place : goal.invariant-loop-place
invariant-loop-place l = record {
  points : length l.demand.leads ≡ length l.fn.demand.leads;
  loading : (loads : List Bool) → IsLoadingAt l.network l.loading loads l.point 1 l.fn.demand l.fn.given → IsLoadingAt l.network l.loading loads l.point 1 l.demand l.given;
  steps : (loads : List Bool) → IsLoadingAt l.network l.loading loads l.point 1 l.fn.demand l.fn.given →
      AreLoadSteps l.network loads l.point (take l.place (single_bits (word_bits l.word))) (kept_tern l.fn.given) (kept_tern l.given);
}
