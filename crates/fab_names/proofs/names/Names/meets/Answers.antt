use Rattle.std.proofs.Common.{Bool, ◌||◌, ap, ◌∙◌}
use Rattle.fab_names.specs.inner.Sides.{opt_meets}
use Rattle.fab_names.proofs.Twice.{twice_sides}
use Rattle.fab_names.proofs.names.Names.meets.Goals as goal

pub returns : goal.returns
returns c =
    let names = c.args.self.now in
    let source = c.args.source.now in
    let dest = c.args.dest.now in
    c.either-2.ensures
    ∙ ap (λ (b : Bool). b || c.either.result) c.meets_side-first.ensures
    ∙ ap (λ (b : Bool). opt_meets names source || b) (c.either.ensures ∙ ap (λ (b : Bool). b || c.sides_meet-both.result) c.meets_side-second.ensures ∙ ap (λ (b : Bool). opt_meets names dest || b) c.sides_meet-both.ensures)
    ∙ twice_sides names source dest
