use Rattle.std.proofs.Common.{◌≡◌, ◌+◌, ◌-◌, ◌*◌, min, length, take, sym, ap, ◌∙◌, arith}
use Rattle.fab_lines.specs.Numbers.{number_of}
use Rattle.fab_tables.proofs.Runs.{lead_more, lead_none}
use Rattle.fab_tables.proofs.ranges.lead.Goals as goal
use Rattle.fab_tables.proofs.ranges.lead.Goals.{then-lead-gt0, else-lead-gt0}

pub loop-place-preserved : goal.loop-place-preserved
loop-place-preserved c =
    let places = c.max-places.result in
    let above = number_of (take (c.loop-place.place - (places - length c.args.first.now)) c.args.first.now) in
    let below = number_of (take (c.loop-place.place - (places - length c.args.second.now)) c.args.second.now) in
    let same : min (number_of (take (c.loop-place.place + 1 - (places - length c.args.first.now)) c.args.first.now) + 1 - number_of (take (c.loop-place.place + 1 - (places - length c.args.second.now)) c.args.second.now)) 33
    ≡ min (above * 10 + c.digit_at-above.result + 1 - (below * 10 + c.digit_at-below.result)) 33 =
    λ j. min (c.digit_at-above.ensures.next j + 1 - c.digit_at-below.ensures.next j) 33 in
    elim c.if-lead-gt0.branch [
      | then-lead-gt0 w ↦
          w.lead-is
          ∙ w.min-lead.ensures
          ∙ ap (λ n. min n 33) w.saturating_sub.ensures
          ∙ lead_more above below c.digit_at-above.result c.digit_at-below.result c.loop-place.lead c.digit_at-above.ensures.digit c.digit_at-below.ensures.digit w.if-lead-gt0.true c.loop-place.invariant
          ∙ sym same
      | else-lead-gt0 w ↦
          w.lead-is
          ∙ lead_none above below c.digit_at-above.result c.digit_at-below.result c.loop-place.lead c.digit_at-above.ensures.digit c.digit_at-below.ensures.digit w.if-lead-gt0.false c.loop-place.invariant
          ∙ sym same
    ]
