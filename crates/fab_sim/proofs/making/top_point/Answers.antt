use Rattle.fab_syntax.specs.Plain.{plain_text}
use Rattle.fab_wiring.proofs.Clocking.{clock_found}
use Rattle.fab_sim.proofs.making.top_point.Goals as goal

pub returns : goal.returns
returns c = clock_found (plain_text c.args.equations.now) c.args.name.now c.requires c.place_of.result c.place_of.ensures.found c.place_of.ensures.absent
