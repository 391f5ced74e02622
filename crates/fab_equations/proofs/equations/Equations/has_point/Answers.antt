use Rattle.std.proofs.Common.{◌≡◌, ◌+◌, ◌<◌, ap, arith}
use Rattle.fab_syntax.specs.Plain.{plain_text}
use Rattle.fab_values.specs.Declarations.{bits_of, declarations}
use Rattle.fab_equations.specs.Instances.{Instance, instances}
use Rattle.fab_equations.specs.Numbering.{IsInstanceOfNumber, points_before}
use Rattle.fab_equations.proofs.Numbering.{some_there}
use Rattle.fab_equations.proofs.equations.Equations.has_point.Goals as goal

pub returns-then-own-point : goal.returns-then-own-point
returns-then-own-point c below =
    let text = plain_text c.args.self.now in
    let there : (i : Instance) × IsInstanceOfNumber text c.args.instance i = some_there (instances text) c.args.instance (omega (arith, c.if-instance-instances.false, c.instances.ensures)) in
    let own = c.points_of-own.ensures there.0 there.1 in
    let start : c.points_of-own.result.start ≡ points_before text c.args.instance = ap (λ r. r.start) own in
    let end : c.points_of-own.result.end ≡ points_before text c.args.instance + bits_of (declarations there.0.here) = ap (λ r. r.end) own in
    let less : c.args.point < c.points_of-own.result.end = grind (arith, below) in
    record {
      i = there.0;
      is = there.1;
      begins = omega (arith, start, c.if-own-point.true);
      ends = omega (arith, end, less);
    }
