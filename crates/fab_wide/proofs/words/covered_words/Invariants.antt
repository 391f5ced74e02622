use Rattle.std.proofs.Common.{◌≡◌, take}
use Rattle.fab_wide.specs.inner.Words.{covered_words}
use Rattle.fab_wide.proofs.words.covered_words.Given as goal

abbrev pub invariant-loop-row : goal.invariant-loop-row
invariant-loop-row l = l.words.items ≡ covered_words (take l.row-index l.cover.rows) 0 l.count
