use Rattle.std.proofs.Common.{◌≡◌, ◌+◌, ◌-◌, ◌*◌, ℕ, Bool, false, get_or, ap, ◌∙◌, sym, arith}
use Rattle.fab_bits.specs.Bits.{bit_number, number, first_bits}
use Rattle.fab_lines.specs.Numbers.{capped}
use Rattle.fab_features.proofs.Values.{one_lower, capped_step}
use Rattle.fab_features.proofs.spelled.value_of.Goals as goal

pub loop-place-preserved : goal.loop-place-preserved
loop-place-preserved c =
    let l = c.loop-place in
    let low = c.args.low in
    let width = c.args.width in
    let f : ℕ → Bool = λ n. get_or c.args.bits.now n false in
    let so_far : ℕ = number (first_bits l.place (λ k. f (low + (width - l.place) + k))) in
    let low_is : c.from.result ≡ low = cc in
    let rest_is : c.from-in-loop-place.result ≡ width - 1 - l.place = cc in
    let index : c.from.result + c.from-in-loop-place.result ≡ low + (width - 1 - l.place) = omega (arith, low_is, rest_is) in
    let bit = c.bit_value-bit.result in
    let bit_is : bit ≡ bit_number (f (low + (width - 1 - l.place))) = c.bit_value-bit.ensures ∙ ap (λ n. bit_number (f n)) index in
    c.saturating_add-value.ensures
    ∙ ap (λ m. capped (m + bit)) c.saturating_mul.ensures
    ∙ ap (λ v. capped (capped (v * 2) + bit)) l.invariant
    ∙ capped_step so_far bit
    ∙ ap (λ b. capped (b + 2 * so_far)) bit_is
    ∙ ap capped (sym (one_lower f low width l.place c.loop-place-test.true))
