use Rattle.std.proofs.Common.{◌<◌, ◌∙◌, sym, subst, arith}
use Rattle.std.specs.Str.{IsUtf8}
use Rattle.std.proofs.lemmas.Result.{err_from_is_err_and}
use Rattle.std.proofs.lemmas.List.Elements.{All-get_or}
use Rattle.fab_outputs.specs.declared.storing.Output.{Output}
use Rattle.fab_outputs.proofs.OneByOne.{stored_so_far, stopped_at, higher_fault}
use Rattle.fab_outputs.proofs.storing.store_all.Goals as goal

pub store-requires : goal.store-requires
store-requires g c =
    let output = c.output-item.result in
    subst (λ (o : Output). IsUtf8 o.name) (sym c.output-item.is) (All-get_or (λ (o : Output). IsUtf8 o.name) c.args.outputs.now c.loop-output.output-index output c.loop-output-test.true c.requires)

pub returns-in_err-store-clause-stopped : goal.returns-in_err-store-clause-stopped
returns-in_err-store-clause-stopped g c =
    let residual = err_from_is_err_and c.from_residual.result c.from_residual.ensures.1 in
    let fault = c.in_err-store.field-0.0 in
    let output = c.output-item.result in
    let before = g.D.Desk.writes c.loop-output.desk in
    let more = c.loop-output.invariant.2 in
    let rose : g.D.Desk.writes c.loop-output.desk < g.D.Desk.writes c.store.new.desk → g.D.Desk.writes c.args.desk.now < g.D.Desk.writes c.store.new.desk = λ up. omega (arith, up, more) in
    rw (residual.1, residual.2)
    (stopped_at (g.D.Desk.told c.args.desk.now) (g.D.Desk.told c.loop-output.desk) (g.D.Desk.told c.store.new.desk) _ fault c.args.outputs.now c.loop-output.output-index output
    c.loop-output-test.true c.output-item.is c.loop-output.invariant.0 c.in_err-store.ensures.err (higher_fault output.name _ _ fault rose c.in_err-store.ensures.fault))

pub loop-output-preserved : goal.loop-output-preserved
loop-output-preserved g c =
    let before = c.loop-output.invariant in
    let reads = c.in_ok-store.ensures.reads in
    let writes = c.in_ok-store.ensures.writes in
    let more = before.2 in (
      stored_so_far (g.D.Desk.told c.args.desk.now) (g.D.Desk.told c.loop-output.desk) (g.D.Desk.told c.store.new.desk) c.args.outputs.now c.loop-output.output-index c.output-item.result c.deref.result.now
          c.loop-output-test.true c.output-item.is c.deref.ensures.value before.0 c.in_ok-store.ensures.ok,
      reads ∙ before.1,
      omega (arith, writes, more),
    )
