use Rattle.std.proofs.Common.{rules, arith, ◌≡◌, ◌≤◌, ◌∙◌, List, length, ap}
use Rattle.std.proofs.lemmas.List.{take_all}
use Rattle.fab_netlist.specs.declared.wide.Cube.{Cube}
use Rattle.fab_netlist.proofs.Rows.{rows_bits, rows_step}
use Rattle.fab_netlist.proofs.wide.WideCover.covered.Goals as goal

pub loop-cube-preserved : goal.loop-cube-preserved
loop-cube-preserved c =
    let rows : c.deref-cube-items.result.now ≡ c.args.self.now.rows = search rules in
    rows_step c.args.self.now.rows c.deref-cube-items.result.now c.args.place c.loop-cube.cube-index c.loop-cube.covered c.covered_at-covered.result _ rows c.loop-cube-test.true c.loop-cube.invariant
    c.covered_at-covered.ensures

pub returns : goal.returns
returns c =
    let rows : c.deref-cube-items.result.now ≡ c.args.self.now.rows = search rules in
    let enough : length c.args.self.now.rows ≤ c.loop-cube.cube-index = omega (arith, c.loop-cube-test.false, ap length rows) in
    c.loop-cube.invariant ∙ ap (λ (some : List Cube). rows_bits some c.args.place) (take_all c.loop-cube.cube-index c.args.self.now.rows enough)
