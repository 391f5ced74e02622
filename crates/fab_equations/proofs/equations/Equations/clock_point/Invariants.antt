use Rattle.std.proofs.Common.{◌≡◌}
use Rattle.fab_syntax.specs.Plain.{plain_text}
use Rattle.fab_values.specs.fab_meaning.specs.Runs.{clock_of}
use Rattle.fab_equations.specs.Lookups.{IsClock}
use Rattle.fab_equations.proofs.equations.Equations.clock_point.Given as goal

abbrev pub invariant-loop-join : goal.invariant-loop-join
invariant-loop-join l =
    (now : IsClock (plain_text l.self) l.instance l.declared)
    × ((first : IsClock (plain_text l.self) l.fn.instance l.fn.declared) →
    clock_of (plain_text l.self) first.i.path first.d.name ≡ clock_of (plain_text l.self) now.i.path now.d.name)

abbrev pub decreases-loop-join : goal.decreases-loop-join
decreases-loop-join l = l.instance
