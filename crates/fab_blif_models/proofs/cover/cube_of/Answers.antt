use Rattle.std.proofs.Common.{◌≡◌, ◌-◌, ◌<◌, ◌≤◌, ◌^◌, ℕ, List, Bool, get_or, map, sym, ap, ◌∙◌, arith, drop, length}
use Rattle.std.proofs.Math.Seq.{drop-length}
use Rattle.std.proofs.lemmas.Nat.{pow_pos}
use Rattle.fab_bits.specs.Bits.{bit_number, number}
use Rattle.fab_blif_models.specs.Covers.{is_asked, is_one}
use Rattle.fab_blif_models.proofs.Cubes.{bits_small, signs_before}
use Rattle.fab_blif_models.proofs.cover.cube_of.Goals as goal

pub loop-place-init : goal.loop-place-init
loop-place-init c =
    let pattern = c.args.pattern.now in
    let none : (test : ℕ → Bool) → 0 ≡ number (map test (drop (length pattern) pattern)) = λ test. sym (ap (λ (signs : List ℕ). number (map test signs)) (drop-length pattern)) in
    let some : 0 < 2 ^ (16 - length pattern) = pow_pos (16 - length pattern) in
    record { within = omega arith; care = none is_asked; value = none is_one; care_small = some; value_small = some }

pub loop-place-preserved : goal.loop-place-preserved
loop-place-preserved c =
    let pattern = c.args.pattern.now in
    let kept = c.loop-place.invariant in
    let place = c.loop-place.place in
    let sign = get_or pattern (place - 1) 0 in
    let short : place ≤ 16 = omega (arith, kept.within, c.requires) in
    let asked : c.bit_number.result ≡ bit_number (is_asked sign) = c.bit_number.ensures.value ∙ ap bit_number c.is_asked.ensures in
    let one : c.bit_number-in-loop-place.result ≡ bit_number (is_one sign) = c.bit_number-in-loop-place.ensures.value ∙ ap bit_number c.is_one.ensures in
    record {
      within = omega (arith, kept.within);
      care = signs_before is_asked pattern place c.loop-place.care c.bit_number.result c.loop-place-test.true kept.within kept.care asked;
      value = signs_before is_one pattern place c.loop-place.value c.bit_number-in-loop-place.result c.loop-place-test.true kept.within kept.value one;
      care_small = bits_small place c.loop-place.care c.bit_number.result c.loop-place-test.true short kept.care_small c.bit_number.ensures.small;
      value_small = bits_small place c.loop-place.value c.bit_number-in-loop-place.result c.loop-place-test.true short kept.value_small c.bit_number-in-loop-place.ensures.small;
    }
