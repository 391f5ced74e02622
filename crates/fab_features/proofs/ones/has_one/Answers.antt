use Rattle.std.proofs.Common.{◌≡◌, ◌/◌, ◌%◌, ◌^◌, nat_eq, ap, sym, arith}
use Rattle.std.proofs.Math.Nat.{div-eq_of_lt}
use Rattle.fab_fasm.proofs.Powers.{fits_more}
use Rattle.fab_features.proofs.ones.has_one.Goals as goal

pub returns-else-place-lt128 : goal.returns-else-place-lt128
returns-else-place-lt128 c =
    let none : c.args.value / 2 ^ c.args.place ≡ 0 = div-eq_of_lt (fits_more c.args.value 128 c.args.place (omega arith) (omega arith)) in
    sym (ap (λ n. nat_eq (n % 2) 1) none)
