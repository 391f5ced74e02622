use Rattle.fab_network.proofs.sharing.KeptValues.new.Goals as goal

pub returns : goal.returns
returns c trees count t = record { points = c.new.ensures trees count t; gates = c.new-2.ensures trees count t }
