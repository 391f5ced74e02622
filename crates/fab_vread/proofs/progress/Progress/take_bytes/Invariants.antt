use Rattle.std.proofs.Common.{◌≡◌, ◌≤◌, ◌+◌, length}
use Rattle.fab_vread.specs.inner.Machine.{read_from}
use Rattle.fab_vread.specs.inner.Progress.{plain_progress}
use Rattle.fab_vread.proofs.progress.Progress.take_bytes.Given as goal

abbrev pub invariant-loop-byte : goal.invariant-loop-byte
invariant-loop-byte l = record {
  so_far : read_from l.file (plain_progress l.self) l.rest ≡ read_from l.file (plain_progress l.fn.self) l.bytes;
  lines : l.self.line + length l.rest ≤ l.fn.self.line + length l.bytes;
}

abbrev pub decreases-loop-byte : goal.decreases-loop-byte
decreases-loop-byte l = length l.rest
