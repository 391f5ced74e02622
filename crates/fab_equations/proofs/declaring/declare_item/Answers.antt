use Rattle.std.proofs.Common.{[]}
use Rattle.fab_equations.proofs.NamedOnce.{new_name, pushed_firsts}
use Rattle.fab_equations.proofs.declaring.declare_item.Goals as goal

pub declare-requires : goal.declare-requires
declare-requires c = new_name c.args.declared.now.names _ [] (rw c.in-Wire.is at c.requires)

pub declare-requires-in-Reg : goal.declare-requires-in-Reg
declare-requires-in-Reg c = new_name c.args.declared.now.names _ [] (rw c.in-Reg.is at c.requires)

pub returns-in-Wire-clause-firsts : goal.returns-in-Wire-clause-firsts
returns-in-Wire-clause-firsts c =
    pushed_firsts c.declare.result c.args.declared.now.names c.declare.new.self.names _ c.args.declared.now.firsts.items c.declare.new.self.firsts.items
    c.declare.ensures.names c.declare.ensures.firsts

pub returns-in-Reg-clause-firsts : goal.returns-in-Reg-clause-firsts
returns-in-Reg-clause-firsts c =
    pushed_firsts c.declare-in-Reg.result c.args.declared.now.names c.declare-in-Reg.new.self.names _ c.args.declared.now.firsts.items c.declare-in-Reg.new.self.firsts.items
    c.declare-in-Reg.ensures.names c.declare-in-Reg.ensures.firsts
