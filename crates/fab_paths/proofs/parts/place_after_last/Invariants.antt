use Rattle.std.proofs.Common.{◌≡◌, ◌+◌, ◌≤◌, ◌==◌, length, take}
use Rattle.std.specs.Prelude.{not}
use Rattle.std.specs.List.{suffix_len}
use Rattle.fab_paths.proofs.parts.place_after_last.Given as goal

-- none of the bytes passed is the one that is sought
abbrev pub invariant-loop-place : goal.invariant-loop-place
invariant-loop-place l = record {
  within : l.place ≤ length l.bytes;
  passed : l.place + suffix_len (λ byte. not (byte == l.sought)) l.bytes
      ≡ length l.bytes + suffix_len (λ byte. not (byte == l.sought)) (take l.place l.bytes);
}

abbrev pub decreases-loop-place : goal.decreases-loop-place
decreases-loop-place l = l.place
