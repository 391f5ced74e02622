-- What is read so far was at the front of the file.
use Rattle.std.proofs.Common.{vec_len, ◌≤◌, ◌-◌}
use Rattle.std.specs.Io.KnownBytes.{Consumes}
use Rattle.fab_base.specs.declared.TheConstants.{MAX_FILE_BYTES}
use Rattle.fab_desk.proofs.file_desk.read_all.Given as goal

abbrev pub invariant-loop-count : goal.invariant-loop-count
invariant-loop-count g l = (vec_len l.bytes ≤ MAX_FILE_BYTES) × Consumes (g.F.Read.remaining l.initial.file) (g.F.Read.remaining l.file) l.bytes.items

abbrev pub decreases-loop-count : goal.decreases-loop-count
decreases-loop-count g l = MAX_FILE_BYTES - vec_len l.bytes
