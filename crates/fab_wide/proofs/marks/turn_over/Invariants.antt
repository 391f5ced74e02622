use Rattle.std.proofs.Common.{◌≡◌, ◌-◌, ◌++◌, take, drop, map}
use Rattle.fab_wide.proofs.marks.turn_over.Given as goal

abbrev pub invariant-loop-word : goal.invariant-loop-word
invariant-loop-word l = l.words ≡ map (λ word. 65535 - word) (take l.word-index l.initial.words) ++ drop l.word-index l.initial.words
