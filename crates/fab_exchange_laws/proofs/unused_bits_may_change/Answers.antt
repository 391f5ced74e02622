use Rattle.fab_exchange_laws.proofs.Unread.{unused_change}
use Rattle.fab_exchange_laws.proofs.unused_bits_may_change.Goals as goal

pub returns : goal.returns
returns c = unused_change
