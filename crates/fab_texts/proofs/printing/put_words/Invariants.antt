use Rattle.std.proofs.Common.{◌≡◌, ◌++◌, map, take}
use Rattle.fab_texts.specs.Printed.{spaced}
use Rattle.fab_texts.proofs.printing.put_words.Given as goal

abbrev pub invariant-loop-place : goal.invariant-loop-place
invariant-loop-place l = l.out.items ≡ l.fn.out.items ++ spaced (map (λ w. w.now) (take l.place l.words))
