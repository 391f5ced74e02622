use Rattle.std.proofs.Common.{ℕ, List, subst}
use Rattle.fab_syntax.specs.Plain.{plain_text}
use Rattle.fab_meaning.specs.Points.{point}
use Rattle.fab_equations.specs.Equations.{IsPoint}
use Rattle.fab_load_points.proofs.Reading.{pushed_added}
use Rattle.fab_load_points.proofs.causes.add_name.Goals as goal

pub returns-in_ok-push : goal.returns-in_ok-push
returns-in_ok-push c i is =
    let text = plain_text c.args.equations.now in
    let first = c.in-Some.first in
    pushed_added text i.path c.args.name.now c.args.reads.now.items c.push.new.self.items first c.in_ok-push.ensures.items
    (subst (λ (name : List ℕ). IsPoint text first (point i.path name 0)) c.bytes.ensures (c.in-Some.ensures i is))
