use Rattle.std.proofs.Common.{◌≡◌, ◌++◌, take, drop}
use Rattle.fab_wide.specs.inner.Words.{marked}
use Rattle.fab_wide.proofs.marks.mark_few.Given as goal

abbrev pub invariant-loop-word : goal.invariant-loop-word
invariant-loop-word l = record {
  at : l.place ≡ l.word-index;
  so_far : l.words ≡ marked l.care l.value l.bits 0 (take l.word-index l.initial.words) ++ drop l.word-index l.initial.words;
}
