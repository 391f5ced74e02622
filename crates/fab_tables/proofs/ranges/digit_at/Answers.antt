use Rattle.std.proofs.Common.{◌≡◌, ◌+◌, ◌-◌, length, take, ap, ◌∙◌, arith}
use Rattle.fab_lines.specs.Numbers.{number_of}
use Rattle.fab_tables.proofs.Runs.{digit_more}
use Rattle.fab_tables.proofs.ranges.digit_at.Goals as goal

pub returns-clause-next : goal.returns-clause-next
returns-clause-next c =
    let zeros = c.args.places - length c.args.word.now in
    let place = c.args.place - zeros in
    let next : c.args.place + 1 - zeros ≡ place + 1 = omega arith in
    ap (λ n. number_of (take n c.args.word.now)) next ∙ digit_more c.args.word.now place c.from.result c.requires.digits (omega arith) c.from.ensures
