use Rattle.std.proofs.Common.{◌≡◌, ℕ, ◌<◌, true}
use Rattle.fab_syntax.specs.Plain.{plain_text}
use Rattle.fab_meaning.specs.Points.{Point}
use Rattle.fab_load_points.specs.inner.Causes.{StandsFor}
use Rattle.fab_load_points.specs.inner.Known.{AreKnown}
use Rattle.fab_load_points.specs.inner.Flops.{among, AreLoaderFlops, IsLoaderPoint}
use Rattle.fab_load_points.proofs.flops.loader_flops.Given as goal

abbrev pub invariant-loop-point : goal.invariant-loop-point
invariant-loop-point l = record {
  known : AreKnown (plain_text l.equations) l.known;
  flops : AreLoaderFlops (plain_text l.equations) l.flops.items;
  all : (number : ℕ) (at : Point) → StandsFor (plain_text l.equations) number at → number < l.point → IsLoaderPoint (plain_text l.equations) at →
      among (plain_text l.equations) l.flops.items at ≡ true;
}
