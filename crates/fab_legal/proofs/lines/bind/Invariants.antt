use Rattle.std.proofs.Common.{take}
use Rattle.fab_legal.specs.Turns.{FirstAreRight}
use Rattle.fab_legal.specs.Lines.{IsRightLine}
use Rattle.fab_legal.specs.inner.Keeping.{AreNoted, Below}
use Rattle.fab_legal.proofs.lines.bind.Given as goal

abbrev pub invariant-loop-place : goal.invariant-loop-place
invariant-loop-place l = record {
  noted : AreNoted (take l.place l.lines) l.count l.sites.items;
  right : FirstAreRight (IsRightLine l.fabric l.kind (Below l.count)) l.lines l.place;
}
