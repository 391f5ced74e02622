use Rattle.std.proofs.Common.{◌≤◌, ◌+◌, length}
use Rattle.fab_base.specs.declared.TheConstants.{MAX_FILE_BYTES}
use Rattle.fab_vread.specs.Pieces.{fed_len}
use Rattle.fab_verilog_examples.proofs.pieces.feed_by.Given as goal

abbrev pub invariant-loop-rest : goal.invariant-loop-rest
invariant-loop-rest l = fed_len l.reader + length l.rest ≤ MAX_FILE_BYTES

abbrev pub decreases-loop-rest : goal.decreases-loop-rest
decreases-loop-rest l = length l.rest
