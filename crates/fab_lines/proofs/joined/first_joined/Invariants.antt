use Rattle.std.proofs.Common.{◌≡◌, ◌+◌, ◌≤◌, ◌<◌, length}
use Rattle.fab_lines.specs.Joined.{joined_lines}
use Rattle.fab_lines.proofs.JoinedLines.{pending}
use Rattle.fab_lines.proofs.joined.first_joined.Given as goal

abbrev pub invariant-loop-rest : goal.invariant-loop-rest
invariant-loop-rest l = record {
  so_far : joined_lines l.bytes ≡ pending l.line.items l.count (joined_lines l.rest);
  some : 0 < l.count + length l.rest;
  room : l.count + length l.rest ≤ length l.bytes;
}

abbrev pub decreases-loop-rest : goal.decreases-loop-rest
decreases-loop-rest l = length l.rest
