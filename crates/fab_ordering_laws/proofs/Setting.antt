-- A text whose latches loading sets, and the laws that are used of it.
use Rattle.std.proofs.Common.{List}
use Rattle.fab_syntax.specs.Plain.{PlainModule}
use Rattle.fab_syntax.specs.Sound.{IsSound}
use Rattle.fab_meaning.specs.Loaded.{LoadedPointsStay}
use Rattle.fab_sound.specs.Narrow.{AreNarrow}
use Rattle.fab_solutions_laws.specs.Laws.{DriversGrow, DriversFit}
use Rattle.fab_simulation_laws.specs.Laws.{LoadingIsKnown}
use Rattle.fab_ordering_laws.specs.Laws.{LatchesLoad}

pub record Setting : Type 0 where
  pub stay : LoadedPointsStay
  pub knows : LoadingIsKnown
  pub grow : DriversGrow
  pub fit : DriversFit
  pub text : List PlainModule
  pub sound : IsSound text
  pub narrow : AreNarrow text
  pub latches : LatchesLoad text
