use Rattle.std.proofs.Common.{◌≡◌, length, take}
use Rattle.std.specs.Prelude.{All}
use Rattle.fab_syntax.specs.Sound.{ClockFits}
use Rattle.fab_sound.specs.inner.Checks.{library_text}
use Rattle.fab_sound.proofs.Leading.{ServeBefore}
use Rattle.fab_sound.proofs.clocks.clocks_fit.Given as goal

abbrev pub invariant-loop-known : goal.invariant-loop-known
invariant-loop-known l = record {
  counted : length l.serving.items ≡ l.known-index;
  fit : All (λ m. All (ClockFits (library_text l.library) m) m.items) (take l.known-index (library_text l.library));
  serve : ServeBefore l.library l.serving.items l.known-index;
}
