use Rattle.std.proofs.Common.{◌≡◌, ◌≤◌, length, map, take}
use Rattle.fab_stimulus.specs.Stimuli.{once}
use Rattle.fab_stimulus.proofs.lines.once.Given as goal

abbrev pub invariant-loop-word : goal.invariant-loop-word
invariant-loop-word l = record {
  seen : l.different ≡ once (map (λ w. w.now) (take l.word-index l.words));
  counted : l.count ≡ length l.different;
  few : l.count ≤ l.word-index;
}
