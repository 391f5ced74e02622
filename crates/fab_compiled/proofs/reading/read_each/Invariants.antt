use Rattle.std.proofs.Common.{◌+◌, length}
use Rattle.fab_solutions_laws.specs.fab_ternary_laws_Shown.{first_terns}
use Rattle.fab_compiled.specs.Terns.{seen}
use Rattle.fab_compiled.proofs.Written.{plain, IsPartly}
use Rattle.fab_compiled.proofs.reading.read_each.Given as goal

-- the points so far
abbrev pub invariant-loop-next : goal.invariant-loop-next
invariant-loop-next l =
    IsPartly l.next (first_terns (length l.initial.bits) (λ k. seen l.view.terns.now l.view.leads.now (l.first + (l.place + k)))) (plain l.initial.bits) (plain l.bits)
