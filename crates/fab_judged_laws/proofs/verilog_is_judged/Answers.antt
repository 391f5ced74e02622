use Rattle.fab_judged_laws.proofs.Verilogs.{verilog_judged}
use Rattle.fab_judged_laws.proofs.verilog_is_judged.Goals as goal

pub returns : goal.returns
returns c = verilog_judged
