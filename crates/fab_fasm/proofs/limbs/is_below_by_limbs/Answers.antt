use Rattle.std.proofs.Common.{◌≡◌, ap, ◌∙◌, sym, arith, false, true, Bool, ℕ, ◌+◌, ◌*◌, ◌^◌, ◌/◌, ◌≤◌, get_or, ltb, div-add-mod', lit≤, lit<}
use Rattle.std.specs.Bool.{MatchBool}
use Rattle.std.proofs.lemmas.Bool.{le-ltb}
use Rattle.fab_fasm.specs.inner.Limbs.{limbs_number}
use Rattle.fab_fasm.specs.Numbers.{next, number_of}
use Rattle.fab_fasm.proofs.Numerals.{number_more, number_grows}
use Rattle.fab_fasm.proofs.Powers.{power_more}
use Rattle.fab_fasm.proofs.limbs.is_below_by_limbs.Goals as goal

-- a number that takes more limbs than a power of two
too_great : (number bits : ℕ) → 2 ^ (32 * (bits / 32 + 1)) ≤ number → false ≡ ltb number (2 ^ bits)
too_great number bits large =
    let parts = div-add-mod' bits 32 in
    let power = power_more bits (32 * (bits / 32 + 1)) (omega (arith, parts)) in
    sym (le-ltb number (2 ^ bits) (omega (arith, large, power)))

-- what one answer of two says
said : (answer : Bool) (same : Type 0) (large : Type 0) → MatchBool answer same large → answer ≡ true → same
said true same large is so = is
said false same large is so = absurd cc

denied : (answer : Bool) (same : Type 0) (large : Type 0) → MatchBool answer same large → answer ≡ false → large
denied true same large is so = absurd cc
denied false same large is so = is

pub loop-byte-init : goal.loop-byte-init
unfolding limbs_number
loop-byte-init c = record { number = ap (λ (n : ℕ). n * 1 + 0) (ap limbs_number c.new.ensures.items); waiting = record { below = lit< tt; few = lit≤ tt }; few = omega arith }

pub loop-byte-preserved : goal.loop-byte-preserved
loop-byte-preserved c =
    let text = c.args.text.now in
    let place = c.loop-byte.byte-index in
    record {
      number = said _ _ _ c.in_ok-push_byte.ensures.number c.if-not-branch.false ∙ ap (λ (n : ℕ). next 10 n (get_or text place 0)) c.loop-byte.invariant.number ∙ sym (number_more 10 text place c.loop-byte-test.true);
      waiting = c.in_ok-push_byte.ensures.waiting;
      few = c.in_ok-push_byte.ensures.few;
    }

pub returns-then-not-branch : goal.returns-then-not-branch
returns-then-not-branch c =
    let text = c.args.text.now in
    let large = denied _ _ _ c.in_ok-push_byte.ensures.number c.if-not-branch.true in
    let grows = number_grows 10 text c.loop-byte.byte-index (lit≤ tt) in
    too_great (number_of 10 text) c.args.bits (omega (arith, large, c.loop-byte.invariant.number, grows))

pub returns-then-not-branch-2 : goal.returns-then-not-branch-2
returns-then-not-branch-2 c =
    let text = c.args.text.now in
    let large = denied _ _ _ c.in_ok-grow.ensures.number c.if-not-branch-2.true in
    let grows = number_grows 10 text c.loop-byte.byte-index (lit≤ tt) in
    too_great (number_of 10 text) c.args.bits (omega (arith, large, c.loop-byte.invariant.number, grows))
