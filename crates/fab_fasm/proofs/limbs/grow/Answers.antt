use Rattle.std.proofs.Common.{◌≡◌, ap, ◌∙◌, sym, length, ◌+◌, ◌*◌, ◌^◌}
use Rattle.fab_fasm.specs.inner.Limbs.{limbs_number}
use Rattle.fab_fasm.proofs.LimbSums.{grown}
use Rattle.fab_fasm.proofs.limbs.grow.Goals as goal

pub returns-clause-number : goal.returns-clause-number
returns-clause-number c =
    let len : length c.deref_mut.result.now ≡ c.args.limbs.now.len = c.deref_mut.ensures.len in
    grown c.push.new.self.items c.push_digits-carry.new.limbs c.args.limbs.now.items c.args.limbs.now.len c.push_digits-carry.result _ c.in_ok-push.ensures.items
    (c.push_digits-carry.auto.limbs ∙ len)
    (ap length (sym c.deref_mut.ensures.value) ∙ len)
    (ap (λ n. limbs_number c.push_digits-carry.new.limbs + 2 ^ (32 * n) * c.push_digits-carry.result) (sym len) ∙ c.push_digits-carry.ensures ∙ ap (λ l. limbs_number l * c.args.scale + c.args.digits) c.deref_mut.ensures.value)
