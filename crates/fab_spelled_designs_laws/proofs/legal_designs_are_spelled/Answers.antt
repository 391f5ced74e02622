use Rattle.fab_spelled_designs_laws.proofs.Designs.{has_lines, has_state, has_text}
use Rattle.fab_spelled_designs_laws.proofs.legal_designs_are_spelled.Goals as goal

pub returns : goal.returns
returns c = λ files names design reset implementation spelled legal. record {
  text = has_text files names design spelled reset implementation legal;
  state = has_state files names design spelled reset implementation legal;
  features = has_lines files names design spelled reset implementation legal;
}
