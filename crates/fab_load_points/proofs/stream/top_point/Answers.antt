use Rattle.std.proofs.Common.{◌∙◌, sym, arith}
use Rattle.fab_syntax.specs.Plain.{plain_text}
use Rattle.fab_equations.specs.Instances.{instances}
use Rattle.fab_equations.proofs.Numbering.{some_there}
use Rattle.fab_load_points.proofs.Names.{no_instance, top_first}
use Rattle.fab_load_points.proofs.stream.top_point.Goals as goal

pub returns-then-instances-eq0 : goal.returns-then-instances-eq0
returns-then-instances-eq0 c =
    no_instance (plain_text c.args.equations.now) c.requires (sym c.instances.ensures ∙ c.if-instances-eq0.true) c.args.name.now

pub returns : goal.returns
returns c =
    let there = some_there (instances (plain_text c.args.equations.now)) 0 (omega (arith, c.instances.ensures)) in
    top_first (plain_text c.args.equations.now) c.requires there.0 there.1 c.args.name.now c.first_point.result (c.first_point.ensures there.0 there.1)
