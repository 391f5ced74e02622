use Rattle.std.proofs.Common.{arith}
use Rattle.fab_fabric.specs.Fabric.{fabric_of}
use Rattle.fab_fabric.proofs.Firsts.{wires_read, no_wires_read}
use Rattle.fab_fabric.proofs.fabric.wires_in.Goals as goal

pub returns-in-Some : goal.returns-in-Some
returns-in-Some c =
    wires_read (fabric_of c.args.types.now c.args.columns c.args.grid.now) c.args.x c.args.y _ c.in-Some.number c.index-types-number.result c.matrix_names.result
    c.requires.is_fabric c.requires.x (omega (arith, c.requires.y, c.requires.rows)) c.in-Some.is c.index-types-number.is c.matrix_names.ensures.count

pub returns-in-None : goal.returns-in-None
returns-in-None c =
    no_wires_read (fabric_of c.args.types.now c.args.columns c.args.grid.now) c.args.x c.args.y _ c.requires.is_fabric c.requires.x (omega (arith, c.requires.y, c.requires.rows)) c.in-None.is
