use Rattle.std.proofs.Common.{◌+◌, subst, sym, arith}
use Rattle.std.proofs.lemmas.Option.{slice_get_within}
use Rattle.fab_syntax.specs.Plain.{plain_text}
use Rattle.fab_equations.specs.Instances.{instances}
use Rattle.fab_equations.specs.Lookups.{IsChild}
use Rattle.fab_equations.proofs.Driven.{place_within, child_there}
use Rattle.fab_equations.proofs.equations.Equations.child_of.Goals as goal

pub here-requires : goal.here-requires
here-requires c = slice_get_within (instances (plain_text c.args.self.now)) c.args.instance c.requires.i c.requires.is

pub index-requires : goal.index-requires
index-requires c =
    let within = place_within (plain_text c.args.self.now) c.args.instance c.args.child c.requires c.here.result c.here.ensures in
    omega (arith, within, c.here.result.table.now.children.ok)

pub overflow_add-result : goal.overflow_add-result
overflow_add-result c =
    let there = child_there (plain_text c.args.self.now) c.args.instance c.args.child c.requires c.here.result c.here.ensures c.index.result.now c.index.ensures in
    omega (arith, there.small, c.from.ensures)

pub overflow_cast-result : goal.overflow_cast-result
overflow_cast-result c =
    let there = child_there (plain_text c.args.self.now) c.args.instance c.args.child c.requires c.here.result c.here.ensures c.index.result.now c.index.ensures in
    omega (arith, there.small, c.from.ensures)

pub returns : goal.returns
returns c =
    let there = child_there (plain_text c.args.self.now) c.args.instance c.args.child c.requires c.here.result c.here.ensures c.index.result.now c.index.ensures in
    subst (λ n. IsChild (plain_text c.args.self.now) c.args.instance c.args.child (n + c.index.result.now.offset)) (sym c.from.ensures) there.child
