use Rattle.std.proofs.Common.{◌∙◌, arith}
use Rattle.fab_syntax.specs.Plain.{plain_text}
use Rattle.fab_equations.proofs.Clocked.{same_clock, clock_named, clock_above, clock_within, clock_at_end}
use Rattle.fab_equations.proofs.equations.Equations.clock_point.Goals as goal

pub loop-join-init : goal.loop-join-init
loop-join-init c = (c.requires, λ first. same_clock (plain_text c.args.self.now) c.args.instance c.args.declared first c.requires)

pub joined-requires : goal.joined-requires
joined-requires c =
    let now = c.loop-join.invariant.0 in
    record { i = now.i; is = now.is; d = now.d; declares = now.declares; role = now.role }

pub named-declared-requires : goal.named-declared-requires
named-declared-requires c =
    clock_named (plain_text c.args.self.now) c.loop-join.instance c.loop-join.declared c.loop-join.invariant.0 c.in-Some.join c.in-Some.ensures

pub loop-join-preserved : goal.loop-join-preserved
loop-join-preserved c =
    let up = clock_above (plain_text c.args.self.now) c.loop-join.instance c.loop-join.declared c.loop-join.invariant.0 c.in-Some.join c.in-Some.ensures
    c.named-declared.result c.named-declared.ensures in
    (up.0, λ first. c.loop-join.invariant.1 first ∙ up.1)

pub index-requires : goal.index-requires
index-requires c =
    let within = clock_within (plain_text c.args.self.now) c.loop-join.instance c.loop-join.declared c.here.result c.here.ensures c.loop-join.invariant.0 c.in_default.ensures in
    omega (arith, within, c.here.result.table.now.firsts.ok)

pub returns : goal.returns
returns c =
    let now = c.loop-join.invariant.0 in
    let end = clock_at_end (plain_text c.args.self.now) c.loop-join.instance c.loop-join.declared c.here.result c.here.ensures now c.in_default.ensures c.index.result.now c.index.ensures in
    λ clock. (now.d.name, c.loop-join.invariant.1 clock ∙ end.0, end.1)
