use Rattle.fab_network.proofs.sharing.KeptValues.note_change.Goals as goal

pub returns : goal.returns
returns c trees count t u grow shared = record {
  points = c.note_change.ensures trees count t u grow shared.points;
  gates = c.note_change-2.ensures trees count t u grow shared.gates;
}
