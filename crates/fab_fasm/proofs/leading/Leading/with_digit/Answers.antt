use Rattle.std.proofs.Common.{arith}
use Rattle.fab_fasm.specs.Numbers.{radix}
use Rattle.fab_fasm.proofs.FirstDigits.{first_digit, later_digit}
use Rattle.fab_fasm.proofs.leading.Leading.with_digit.Goals as goal

pub returns-then-self-eq0-clause-begins : goal.returns-then-self-eq0-clause-begins
returns-then-self-eq0-clause-begins c number begins = first_digit (radix c.args.base) c.args.digit number c.args.self.digit c.args.self.behind begins c.if-self-eq0.true

pub returns-clause-begins : goal.returns-clause-begins
returns-clause-begins c number begins = later_digit (radix c.args.base) c.args.digit number c.args.self.digit c.args.self.behind begins (λ is. omega (arith, is)) c.requires.digit
