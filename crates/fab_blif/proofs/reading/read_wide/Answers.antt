use Rattle.fab_blif.proofs.Readings.{acyclic, made, never_read, read_unless}
use Rattle.fab_blif.proofs.reading.read_wide.Goals as goal

pub returns-clause-made : goal.returns-clause-made
returns-clause-made c = made c.args.bytes.now c.read.result c.read.ensures.fine c.read.ensures.netlist

pub returns-clause-acyclic : goal.returns-clause-acyclic
returns-clause-acyclic c = acyclic 16 c.args.bytes.now c.read.result c.read.ensures.fine c.read.ensures.netlist

pub returns-clause-reads : goal.returns-clause-reads
returns-clause-reads c = read_unless 16 c.args.file.now c.args.bytes.now c.read.result c.read.ensures.refused

pub returns-clause-refuses : goal.returns-clause-refuses
returns-clause-refuses c = never_read 16 c.args.file.now c.args.bytes.now c.read.result c.read.ensures.fine
