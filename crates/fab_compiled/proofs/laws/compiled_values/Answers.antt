use Rattle.fab_compiled.proofs.Placed.{compiled_values as they_have}
use Rattle.fab_compiled.proofs.laws.compiled_values.Goals as goal

pub returns : goal.returns
returns c text sound number i is t s same e tree wide compiled = they_have text sound number i is t s same e tree wide compiled
