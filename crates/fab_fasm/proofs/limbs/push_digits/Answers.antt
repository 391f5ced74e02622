use Rattle.std.proofs.Common.{◌≡◌, ◌<◌, ◌+◌, ◌*◌, ◌^◌, arith, length, get_or, refl}
use Rattle.fab_fasm.specs.inner.Limbs.{limbs_number}
use Rattle.fab_fasm.proofs.LimbSums.{limb_carried, rest_stays, sum_bound}
use Rattle.fab_fasm.proofs.limbs.push_digits.Goals as goal

pub overflow_add-sum : goal.overflow_add-sum
overflow_add-sum c =
    let few : c.from-in-loop-limb.result < 2 ^ 32 = omega arith in
    let bound = sum_bound c.from.result c.from-in-loop-limb.result c.loop-limb.carry (omega arith) few c.loop-limb.invariant.small in
    omega arith

pub loop-limb-init : goal.loop-limb-init
unfolding limbs_number
loop-limb-init c = record { carried = omega arith; rest = refl; small = omega arith }

pub loop-limb-preserved : goal.loop-limb-preserved
loop-limb-preserved c =
    let below : c.loop-limb.limb-index < length c.loop-limb.limbs = omega arith in
    let sum : c.from.result * c.from-in-loop-limb.result + c.loop-limb.carry ≡ get_or c.loop-limb.limbs c.loop-limb.limb-index 0 * c.args.scale + c.loop-limb.carry = cc in
    let few : c.from-in-loop-limb.result < 2 ^ 32 = omega arith in
    let bound = sum_bound c.from.result c.from-in-loop-limb.result c.loop-limb.carry (omega arith) few c.loop-limb.invariant.small in
    record {
      carried = limb_carried c.loop-limb.limbs c.args.limbs.now c.loop-limb.limb-index c.args.scale c.loop-limb.carry c.args.digits (c.from.result * c.from-in-loop-limb.result + c.loop-limb.carry) below c.loop-limb-test.true c.loop-limb.invariant.rest sum c.loop-limb.invariant.carried;
      rest = rest_stays c.loop-limb.limbs c.args.limbs.now c.loop-limb.limb-index _ below c.loop-limb-test.true c.loop-limb.invariant.rest;
      small = omega arith;
    }
