use Rattle.std.proofs.Common.{◌≡◌, ◌++◌, take}
use Rattle.fab_blif.specs.Judged.{input_uses}
use Rattle.fab_blif.proofs.judge.put_cover_inputs.Given as goal

abbrev pub invariant-loop-cover : goal.invariant-loop-cover
invariant-loop-cover l = l.uses.items ≡ l.fn.uses.items ++ input_uses (take l.cover-index l.covers)
