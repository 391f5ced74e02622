use Rattle.std.proofs.Common.{subst}
use Rattle.fab_values.specs.Declarations.{declarations}
use Rattle.fab_values.specs.Evaluation.{IsFit}
use Rattle.fab_compiled.proofs.compiler.parts_fit.Goals as goal

pub returns : goal.returns
returns c i is = subst (IsFit (declarations i.here)) c.requires.parts (c.requires.fit i is)
