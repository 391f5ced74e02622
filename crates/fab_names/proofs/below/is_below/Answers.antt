use Rattle.std.proofs.Common.{ℕ, ◌+◌, ◌-◌, ◌*◌, ◌∙◌, ap, sym, min, take, length}
use Rattle.fab_lines.specs.Numbers.{number_of}
use Rattle.fab_names.proofs.Leads.{lead_more}
use Rattle.fab_names.proofs.below.is_below.Goals as goal

pub loop-place-preserved : goal.loop-place-preserved
loop-place-preserved c =
    let place = c.loop-place.place in
    let width = c.max-width.result in
    let count = c.args.count.now in
    let digits = c.args.digits.now in
    let front = number_of (take (place - (width - length count)) count) in
    let back = number_of (take (place - (width - length digits)) digits) in
    let gained = c.digit_at.result in
    let lost = c.digit_at-lost.result in
    c.min-lead.ensures
    ∙ ap (λ (x : ℕ). min x 32) c.saturating_sub.ensures
    ∙ ap (λ (lead : ℕ). min (10 * lead + c.args.factor * gained + 31 - (310 + lost)) 32) c.loop-place.invariant
    ∙ lead_more c.args.factor front back gained lost c.requires.small c.digit_at.ensures.digit c.digit_at-lost.ensures.digit
    ∙ ap (λ (n : ℕ). min (c.args.factor * n + 31 - (back * 10 + lost)) 32) (sym c.digit_at.ensures.more)
    ∙ ap (λ (n : ℕ). min (c.args.factor * number_of (take (place + 1 - (width - length count)) count) + 31 - n) 32) (sym c.digit_at-lost.ensures.more)
