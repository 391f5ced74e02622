-- A ranked system of points has a solution, by as many rounds as there are ranks, and all its solutions agree.
use Rattle.fab_meaning.specs.Points.{Point}
use Rattle.fab_systems_laws.specs.System.{SettlesOnce}
use Rattle.fab_systems_laws.proofs.Solutions.{settled_by_rounds, settled_agree}
use Rattle.fab_systems_laws.proofs.Rounds.{rounds}

pub solved_once : SettlesOnce Point
solved_once has given reads rank ranks next ranked only =
    ((λ old. (rounds has next old ranks, settled_by_rounds has given reads rank ranks next ranked only old)), settled_agree has given reads rank ranks next ranked only)
