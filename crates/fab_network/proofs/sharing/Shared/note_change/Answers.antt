use Rattle.fab_network.proofs.Shares.{still_shared}
use Rattle.fab_network.proofs.sharing.Shared.note_change.Goals as goal

pub returns : goal.returns
returns c trees count t u grow shared bit kept at =
    still_shared trees count t u grow c.args.self.now.exact (record { tree = c.args.self.now.tree; first = c.args.self.now.first; bit = bit }) kept (shared bit kept at)
