use Rattle.std.proofs.Common.{◌≡◌, ℕ, take}
use Rattle.std.specs.List.{list_any}
use Rattle.fab_blif.specs.Judged.{is_among, is_of}
use Rattle.fab_blif.proofs.judge.nets_in.Given as goal

abbrev pub invariant-loop-used : goal.invariant-loop-used
invariant-loop-used l = (net : ℕ) → is_among l.nets.keys net ≡ list_any (is_of net) (take l.used-index l.uses)
