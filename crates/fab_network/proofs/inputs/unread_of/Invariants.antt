use Rattle.std.proofs.Common.{ℕ, ◌+◌, ◌<◌}
use Rattle.fab_network.specs.Tables.{IsRead}
use Rattle.fab_network.proofs.inputs.unread_of.Given as goal

-- the points so far are read
abbrev pub invariant-loop-next : goal.invariant-loop-next
invariant-loop-next l = (k : ℕ) → k < l.next → IsRead l.marks l.view.terns.now l.view.leads.now l.inputs (l.first + (l.place + k))
