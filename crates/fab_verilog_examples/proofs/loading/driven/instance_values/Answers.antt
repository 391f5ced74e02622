use Rattle.std.proofs.Common.{◌≡◌, ℕ, ◌+◌, ap, ◌∙◌, arith}
use Rattle.std.specs.declared.ops.Range.{Range}
use Rattle.fab_syntax.specs.Plain.{plain_text}
use Rattle.fab_values.specs.Declarations.{bits_of, declarations}
use Rattle.fab_equations.specs.Instances.{Instance, instances}
use Rattle.fab_equations.specs.Numbering.{IsInstanceOfNumber, points_before}
use Rattle.fab_equations.proofs.Numbering.{some_there}
use Rattle.fab_verilog_examples.proofs.loading.driven.instance_values.Goals as goal

pub set-requires : goal.set-requires
set-requires c =
    let text = plain_text c.args.equations.now in
    let here : (i : Instance) × IsInstanceOfNumber text c.args.instance i = some_there (instances text) c.args.instance c.requires in
    let range = c.points_of-start.ensures here.0 here.1 in
    let start : c.points_of-start.result.start ≡ points_before text c.args.instance = ap (λ (r : Range ℕ). r.start) range in
    let end : c.points_of-start.result.end ≡ points_before text c.args.instance + bits_of (declarations here.0.here) = ap (λ (r : Range ℕ). r.end) range in
    let same : bits_of c.loop-point.values.declarations ≡ bits_of (declarations here.0.here) =
    ap bits_of (c.loop-point.invariant ∙ c.in_ok-values.ensures.declarations here.0 here.1) in
    omega (arith, start, end, same, c.loop-point-test.true, c.loop-point.auto.point)

pub returns : goal.returns
returns c = λ i numbered. c.loop-point.invariant ∙ c.in_ok-values.ensures.declarations i numbered
