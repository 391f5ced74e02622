use Rattle.std.proofs.lemmas.Option.{slice_get_within}
use Rattle.fab_syntax.specs.Plain.{plain_text}
use Rattle.fab_equations.specs.Instances.{instances}
use Rattle.fab_verilog_examples.proofs.loading.points.add_instance.Goals as goal

pub points_of-point-items-requires : goal.points_of-point-items-requires
points_of-point-items-requires c =
    slice_get_within (instances (plain_text c.args.equations.now)) c.in_ok-declared.field-0.instance c.in_ok-declared.ensures.i c.in_ok-declared.ensures.is
