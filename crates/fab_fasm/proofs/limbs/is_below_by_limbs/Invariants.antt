use Rattle.std.proofs.Common.{◌≡◌, ◌≤◌, take, vec_len}
use Rattle.fab_fasm.specs.inner.Limbs.{IsWaiting, waiting_number}
use Rattle.fab_fasm.specs.Numbers.{number_of}
use Rattle.fab_fasm.proofs.limbs.is_below_by_limbs.Given as goal

abbrev pub invariant-loop-byte : goal.invariant-loop-byte
invariant-loop-byte l = record {
  number : waiting_number l.number.limbs.items l.number.scale l.number.waiting ≡ number_of 10 (take l.byte-index l.text);
  waiting : IsWaiting 1000000000 l.number.scale l.number.waiting;
  few : vec_len l.number.limbs ≤ l.most;
}
