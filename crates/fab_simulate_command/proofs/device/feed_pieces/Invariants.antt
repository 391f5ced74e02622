use Rattle.std.proofs.Common.{◌≡◌, ◌≤◌, ◌+◌, ◌++◌, ℕ, List, length}
use Rattle.std.specs.Slice.Iter.{chunks_rest}
use Rattle.fab_base.specs.declared.TheConstants.{MAX_FILE_BYTES}
use Rattle.fab_vread.specs.Pieces.{HasRead, fed_len}
use Rattle.fab_simulate_command.proofs.device.feed_pieces.Given as goal

abbrev pub invariant-loop-piece : goal.invariant-loop-piece
invariant-loop-piece l =
    (fed_len l.reader + length (chunks_rest l.piece-iterator) ≤ MAX_FILE_BYTES)
    × (done : List ℕ) × (done ++ chunks_rest l.piece-iterator ≡ l.fn.bytes) × ((file before : List ℕ) → HasRead file before l.fn.reader → HasRead file (before ++ done) l.reader)
