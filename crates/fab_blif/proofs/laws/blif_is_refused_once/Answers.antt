use Rattle.fab_blif.proofs.Content.{refused_for_content}
use Rattle.fab_blif.proofs.Once.{numbered_once, refused_once}
use Rattle.fab_blif.proofs.laws.blif_is_refused_once.Goals as goal

pub returns-clause-one_refusal : goal.returns-clause-one_refusal
returns-clause-one_refusal c = refused_once

pub returns-clause-one_number : goal.returns-clause-one_number
returns-clause-one_number c = numbered_once

pub returns-clause-content : goal.returns-clause-content
returns-clause-content c = refused_for_content
