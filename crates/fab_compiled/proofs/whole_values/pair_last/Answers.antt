use Rattle.std.proofs.Common.{sym, subst, arith}
use Rattle.fab_solutions_laws.specs.fab_ternary_laws_Operators.{each_tern}
use Rattle.fab_compiled.specs.Pairs.{by}
use Rattle.fab_compiled.specs.inner.Pairs.{AreLast}
use Rattle.fab_compiled.proofs.Adding.{halves_done}
use Rattle.fab_compiled.proofs.Written.{plain}
use Rattle.fab_compiled.proofs.whole_values.pair_last.Goals as goal

pub returns : goal.returns
returns c before left right last =
    let bits = c.deref_mut.result.now in
    halves_done c.args.low c.args.middle before left right bits
    (subst (λ xs. AreLast c.args.low c.args.middle before left right (plain xs)) (sym c.deref_mut.ensures.value) last)
    (each_tern (by c.args.pairing)) c.args.bits.now.len c.pair_halves.new.halves _ _ c.truncate.new.self.items c.requires.low (omega (arith, c.requires.middle, c.requires.low, c.deref_mut.ensures.len))
    (omega (arith, c.requires.middle, c.requires.low))
    (omega (arith, c.requires.middle, c.requires.low, c.pair_halves.auto.halves)) c.truncate.ensures.items c.pair_halves.ensures
