use Rattle.std.proofs.Common.{◌++◌, length, ap, ◌∙◌, arith}
use Rattle.fab_compiled.proofs.Adding.{room_laid}
use Rattle.fab_compiled.proofs.Written.{plain}
use Rattle.fab_compiled.proofs.reading.add_constant.Goals as goal

pub returns : goal.returns
returns c =
    let old = c.args.bits.now.items in
    room_laid old c.resize.new.self.items c.deref_mut.result.now c.len-low.result (length c.args.constant.now) c.args.bits.now.len
    (omega (arith, c.len-low.ensures)) (omega arith)
    c.in_ok-resize.ensures.items c.deref_mut.ensures.value c.resize.new.self.len c.write_constant.new.bits _ _ (omega arith) c.write_constant.auto.bits
    ∙ ap (λ ts. plain old ++ ts) c.write_constant.ensures
