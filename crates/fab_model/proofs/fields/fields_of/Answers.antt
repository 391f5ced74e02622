use Rattle.std.proofs.Common.{◌<◌, ◌∙◌, ℕ, All, List, length, sym, subst, subst₂, ap, map, get_or, sum_by, take, ◌≡◌, ◌+◌}
use Rattle.fab_model.specs.Tiles.{pair_numbers}
use Rattle.fab_model.proofs.LaidOut.{widths_are, ordered_within, fields_by_widths}
use Rattle.fab_model.specs.inner.Numbering.{width_in}
use Rattle.fab_model.proofs.fields.fields_of.Goals as goal

pub laid_out-requires : goal.laid_out-requires
laid_out-requires c =
    subst₂ (λ (n : ℕ) (outputs : List ℕ). All (λ output. output < n) outputs)
    (sym (ap length c.deref.ensures.value ∙ c.in_ok-counts.ensures.len)) (sym (c.as_slice.ensures.keys ∙ c.in_ok-order.ensures))
    (ordered_within c.args.outputs c.args.pairs.now c.requires)

pub returns : goal.returns
returns c =
    let keys = c.as_slice.ensures.keys in
    let widths : ℕ → ℕ = width_in c.deref.result.now in
    let h = c.in_ok-fields.ensures in
    fields_by_widths c.args.first (map pair_numbers c.args.pairs.now) c.in_ok-order.order.keys c.in_ok-fields.fields.items c.in_ok-fields.bits
    widths
    (ap width_in c.deref.ensures.value ∙ widths_are c.in_ok-counts.counts.items (map pair_numbers c.args.pairs.now) c.in_ok-counts.ensures.counts)
    c.in_ok-order.ensures
    (h.len ∙ ap length keys)
    (subst (λ (outputs : List ℕ). (place : ℕ) → place < length outputs →
    get_or c.in_ok-fields.fields.items place (0, 0) ≡ (c.args.first + sum_by widths (take place outputs), widths (get_or outputs place 0))) keys h.fields)
    (h.bits ∙ ap (λ (outputs : List ℕ). c.args.first + sum_by widths outputs) keys)
