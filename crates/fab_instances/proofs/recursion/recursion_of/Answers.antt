use Rattle.std.proofs.Common.{ℕ, Bor, Option, subst}
use Rattle.std.specs.Option.{IfSome}
use Rattle.fab_base.specs.declared.name.Name.{Name}
use Rattle.fab_blif_models.specs.Plain.{plain_models}
use Rattle.fab_instances.specs.Order.{IsRecursive}
use Rattle.fab_instances.proofs.Levels.{least_recursive, none_recursive}
use Rattle.fab_instances.proofs.recursion.recursion_of.Goals as goal

pub returns-in_default : goal.returns-in_default
returns-in_default c =
    none_recursive (plain_models c.args.models.now) c.args.ranks.now (c.never_falls.ensures c.if-never_falls.true) (λ line name level. c.in_default.ensures line name level)

pub returns-then-found-line : goal.returns-then-found-line
returns-then-found-line c =
    let models = plain_models c.args.models.now in
    let found = c.in-Some-2.found in
    let recursive : IsRecursive models found.0 found.1.now =
    subst (λ (at : Option (ℕ × Bor Name)). IfSome at (λ at. IsRecursive models at.0 at.1.now)) c.in-Some-2.is c.in_ok-found.ensures in
    least_recursive models c.args.ranks.now (c.never_falls.ensures c.if-never_falls.true) (c.in-Some.line, c.in-Some.name.now) (found.0, found.1.now) c.in-Some.ensures recursive c.if-found-line.true
