use Rattle.fab_spelled_designs_laws.proofs.Designs.{fabric_is, netlist_made, tiles_are}
use Rattle.fab_spelled_designs_laws.proofs.spelled_designs_are_sound.Goals as goal

pub returns : goal.returns
returns c = λ files names design spelled. record {
  fabric = fabric_is files names design spelled;
  tiles = tiles_are files names design spelled;
  netlist = netlist_made files names design spelled;
}
