use Rattle.std.proofs.Common.{◌/◌, ◌%◌, arith, sym, ◌∙◌, div-add-mod'}
use Rattle.std.proofs.lemmas.Bool.{le-leb}
use Rattle.std.proofs.lemmas.Bool.{lt-ltb}
use Rattle.fab_fasm.proofs.LimbSums.{narrow_short, narrow_last}
use Rattle.fab_fasm.proofs.limbs.is_narrow.Goals as goal

pub returns-then-limbs-whole : goal.returns-then-limbs-whole
returns-then-limbs-whole c =
    let parts = div-add-mod' c.args.bits 32 in
    let below = narrow_short c.args.limbs.now (c.args.bits / 32) c.args.bits (λ k. omega (arith, c.type_inv.limbs k)) c.if-limbs-whole.true (omega arith) in
    le-leb _ _ c.if-limbs-whole.true ∙ sym (lt-ltb _ _ below)

pub returns-else-limbs-whole : goal.returns-else-limbs-whole
returns-else-limbs-whole c =
    let parts = div-add-mod' c.args.bits 32 in
    narrow_last c.args.limbs.now (c.args.bits / 32) (c.args.bits % 32) c.args.bits (λ k. omega (arith, c.type_inv.limbs k)) (omega arith) (omega arith)
