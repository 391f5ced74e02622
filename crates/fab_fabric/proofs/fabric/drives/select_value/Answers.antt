use Rattle.std.proofs.Common.{◌≡◌, ◌+◌, ◌*◌, arith, ap, ◌∙◌, refl, inl, inr}
use Rattle.std.proofs.lemmas.Bool.{cases_Bool}
use Rattle.fab_model.specs.fab_bits.specs.Bits.{bit_number}
use Rattle.fab_fabric.proofs.Selecting.{bit_more, all_bits, value_small}
use Rattle.fab_fabric.proofs.fabric.drives.select_value.Goals as goal

pub loop-taken-preserved : goal.loop-taken-preserved
loop-taken-preserved c =
    let l = c.loop-taken in
    let bit : c.from.result ≡ bit_number c.bit_at.result = c.from.ensures ∙ elim (cases_Bool c.bit_at.result) [ inl t ↦ rw t refl | inr f ↦ rw f refl ] in
    record {
      value =
          ap (λ n. 2 * l.value + n) bit
          ∙ bit_more c.args.bits.now c.args.low c.args.width l.taken l.value c.bit_at.result c.loop-taken-test.true l.invariant.value c.bit_at.ensures;
      small = omega (arith, value_small l.taken l.value c.bit_at.result l.invariant.small, bit);
    }

pub returns : goal.returns
returns c =
    let l = c.loop-taken in
    let all : l.taken ≡ c.args.width = omega (arith, c.loop-taken-test.false, l.auto.taken-end) in
    all_bits c.args.bits.now c.args.low c.args.width l.taken l.value all l.invariant.value
