use Rattle.std.proofs.Common.{◌-◌, length}
use Rattle.fab_network.specs.Passes.{kept_tern}
use Rattle.fab_phases.proofs.Chained.{IsMovedFrom}
use Rattle.fab_phases.proofs.chain.move_chain.Given as goal

abbrev pub invariant-loop-moved : goal.invariant-loop-moved
invariant-loop-moved l = IsMovedFrom l.flops l.words (length l.flops - l.moved) (kept_tern l.fn.given) (kept_tern l.given)
