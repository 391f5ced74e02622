use Rattle.std.proofs.Common.{◌≡◌, ◌≤◌, length}
use Rattle.fab_tokens.specs.Literals.{number_from}
use Rattle.fab_tokens.proofs.literal.number_from.Given as goal

abbrev pub invariant-loop-first : goal.invariant-loop-first
invariant-loop-first l = record {
  so_far : number_from l.value l.rest ≡ number_from 0 l.digits;
  fits : l.value ≤ 4294967294;
}

abbrev pub decreases-loop-first : goal.decreases-loop-first
decreases-loop-first l = length l.rest
