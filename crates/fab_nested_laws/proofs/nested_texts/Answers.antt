use Rattle.fab_nested_laws.proofs.Lifted.{nested}
use Rattle.fab_nested_laws.proofs.nested_texts.Goals as goal

pub returns : goal.returns
returns c inner outer i stands = nested inner outer i stands
