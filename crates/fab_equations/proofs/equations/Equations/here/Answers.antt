use Rattle.std.proofs.Common.{subst, refl, arith}
use Rattle.fab_syntax.specs.Plain.{plain_text}
use Rattle.fab_equations.specs.inner.Placed.{Keeps}
use Rattle.fab_equations.proofs.Located.{kept_number, kept_here}
use Rattle.fab_equations.proofs.equations.Equations.here.Goals as goal

pub index-requires : goal.index-requires
index-requires c =
    let inside = c.self.inside in
    let keeps = subst (λ t. Keeps (plain_text t) inside.tables.items inside.exprs.items inside.placed.items inside.points) c.self.view_is c.self.invariant in
    let within = kept_number (plain_text c.args.self.now) inside.tables.items inside.exprs.items inside.placed.items inside.points keeps c.args.instance c.index-placed.result.now
    c.requires c.index-placed.ensures in
    omega (arith, within, inside.tables.ok)

pub returns : goal.returns
returns c =
    let inside = c.self.inside in
    let keeps = subst (λ t. Keeps (plain_text t) inside.tables.items inside.exprs.items inside.placed.items inside.points) c.self.view_is c.self.invariant in
    kept_here (plain_text c.args.self.now) inside.tables.items inside.exprs.items inside.placed.items inside.points keeps c.args.instance c.index-placed.result.now
    c.index.result.now c.requires c.index-placed.ensures c.index.ensures c.index.result refl
