use Rattle.std.proofs.Common.{arith, rules, inr, refl}
use Rattle.std.specs.String.{string_bytes}
use Rattle.fab_words.proofs.Taken.{ended_at, ended_open, usage_along}
use Rattle.fab_words.proofs.arguments.Arguments.take_all.Goals as goal

pub returns-in_err-named-clause-usage : goal.returns-in_err-named-clause-usage
returns-in_err-named-clause-usage c =
    let ends = ended_at string_bytes c.args.words.now c.loop-word.word-index c.word-item.result c.as_str.result.now _ _ _ c.as_str.ensures.value (omega arith) c.word-item.is c.loop-word.invariant in
    let why = usage_along c.in_err-named.field-0.0 ends c.in_err-named.ensures.usage in
    search (rules, why)

pub returns-in-Some-clause-usage : goal.returns-in-Some-clause-usage
returns-in-Some-clause-usage c =
    inr (refl, ended_open string_bytes c.args.words.now c.loop-word.word-index _ _ _ c.in-Some.field-0.now (omega arith) (rw c.in-Some.is) c.loop-word.invariant)
