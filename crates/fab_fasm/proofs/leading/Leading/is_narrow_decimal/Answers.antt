use Rattle.std.proofs.Common.{sym, arith}
use Rattle.fab_fasm.proofs.FirstDigits.{few_digits, many_digits}
use Rattle.fab_fasm.proofs.leading.Leading.is_narrow_decimal.Goals as goal

pub returns-then-behind-from : goal.returns-then-behind-from
returns-then-behind-from c number begins = sym (few_digits c.args.self.digit c.args.self.behind number c.args.bits begins c.requires (omega arith))

pub returns-then-from-behind : goal.returns-then-from-behind
returns-then-from-behind c number begins = sym (many_digits c.args.self.digit c.args.self.behind number c.args.bits begins (λ is. omega (arith, is)) (omega arith))
