use Rattle.fab_nested_laws.proofs.Next.{events_leave_one}
use Rattle.fab_nested_laws.proofs.events_leave_one.Goals as goal

pub returns : goal.returns
returns c = events_leave_one
