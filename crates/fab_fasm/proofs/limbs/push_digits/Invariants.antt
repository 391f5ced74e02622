use Rattle.std.proofs.Common.{◌≡◌, ◌<◌, ◌+◌, ◌*◌, ◌^◌, take, drop}
use Rattle.fab_fasm.specs.inner.Limbs.{limbs_number}
use Rattle.fab_fasm.proofs.limbs.push_digits.Given as goal

abbrev pub invariant-loop-limb : goal.invariant-loop-limb
invariant-loop-limb l = record {
  carried : limbs_number (take l.limb-index l.limbs) + 2 ^ (32 * l.limb-index) * l.carry ≡ limbs_number (take l.limb-index l.initial.limbs) * l.scale + l.digits;
  rest : drop l.limb-index l.limbs ≡ drop l.limb-index l.initial.limbs;
  small : l.carry < 2 ^ 32;
}
