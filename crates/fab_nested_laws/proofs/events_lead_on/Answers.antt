use Rattle.fab_nested_laws.proofs.Next.{events_lead_on}
use Rattle.fab_nested_laws.proofs.events_lead_on.Goals as goal

pub returns : goal.returns
returns c = events_lead_on
