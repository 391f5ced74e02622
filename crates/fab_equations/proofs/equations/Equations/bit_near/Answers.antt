use Rattle.std.proofs.Common.{◌≡◌, ◌-◌, slice_get, Some, subst, sym, arith}
use Rattle.std.specs.List.Sorted.{IsNonDecreasingBy}
use Rattle.std.proofs.lemmas.Option.{slice_get_within}
use Rattle.fab_syntax.specs.Plain.{plain_text}
use Rattle.fab_equations.specs.Lookups.{IsLastAtMost}
use Rattle.fab_equations.proofs.Located.{firsts_here, bit_found, bit_fits}
use Rattle.fab_equations.proofs.equations.Equations.bit_near.Goals as goal

pub last_near-declared-requires-clause-starts : goal.last_near-declared-requires-clause-starts
last_near-declared-requires-clause-starts c =
    subst (λ ns. slice_get ns 0 ≡ Some 0) (sym c.deref.ensures.value)
    (firsts_here (plain_text c.args.self.now) c.args.point c.instance_near-instance.result c.here-here.result c.instance_near-instance.ensures c.here-here.ensures).0

pub last_near-declared-requires-clause-rises : goal.last_near-declared-requires-clause-rises
last_near-declared-requires-clause-rises c =
    subst (IsNonDecreasingBy (λ n. n)) (sym c.deref.ensures.value)
    (firsts_here (plain_text c.args.self.now) c.args.point c.instance_near-instance.result c.here-here.result c.instance_near-instance.ensures c.here-here.ensures).1

pub index-requires : goal.index-requires
index-requires c =
    let last = subst (λ ns. IsLastAtMost (λ n. n) ns (c.args.point - c.here-here.result.placed.first) c.last_near-declared.result) c.deref.ensures.value c.last_near-declared.ensures in
    omega (arith, slice_get_within c.here-here.result.table.now.firsts.items c.last_near-declared.result last.x last.is, c.here-here.result.table.now.firsts.ok)

pub overflow_sub-result : goal.overflow_sub-result
overflow_sub-result c =
    let last = subst (λ ns. IsLastAtMost (λ n. n) ns (c.args.point - c.here-here.result.placed.first) c.last_near-declared.result) c.deref.ensures.value c.last_near-declared.ensures in
    bit_fits c.here-here.result.table.now.firsts.items (c.args.point - c.here-here.result.placed.first) c.last_near-declared.result c.index.result.now last c.index.ensures

pub returns : goal.returns
returns c =
    let last = subst (λ ns. IsLastAtMost (λ n. n) ns (c.args.point - c.here-here.result.placed.first) c.last_near-declared.result) c.deref.ensures.value c.last_near-declared.ensures in
    bit_found (plain_text c.args.self.now) c.args.point c.instance_near-instance.result c.last_near-declared.result c.here-here.result c.index.result.now
    c.instance_near-instance.ensures c.here-here.ensures last c.index.ensures
