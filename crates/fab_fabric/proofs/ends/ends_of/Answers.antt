use Rattle.std.proofs.Common.{arith, ◌≡◌, ◌∙◌, length}
use Rattle.fab_fabric.specs.inner.Index.{has_side}
use Rattle.fab_fabric.proofs.Passing.{passing_all}
use Rattle.fab_fabric.proofs.ends.ends_of.Goals as goal

pub returns : goal.returns
returns c =
    let l = c.loop-number in
    let all : l.number ≡ length c.args.rows.now = omega (arith, c.loop-number-test.false, l.auto.number-end) in
    record {
      as_many = l.invariant.as_many ∙ all;
      before = λ row few. l.invariant.before row (omega (arith, few, all));
      numbers = passing_all (has_side c.args.side c.args.dir) c.args.rows.now l.found.items l.number all l.invariant.numbers;
    }
