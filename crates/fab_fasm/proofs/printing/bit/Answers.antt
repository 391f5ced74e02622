use Rattle.std.proofs.Common.{◌%◌, sym, ap, arith}
use Rattle.std.proofs.Math.Nat.{div-eq_of_lt}
use Rattle.fab_fasm.proofs.Powers.{fits_more}
use Rattle.fab_fasm.proofs.printing.bit.Goals as goal

pub returns-else-place-lt128 : goal.returns-else-place-lt128
returns-else-place-lt128 c = ap (λ n. n % 2) (sym (div-eq_of_lt (fits_more c.args.number 128 c.args.place (omega arith) (omega arith))))
