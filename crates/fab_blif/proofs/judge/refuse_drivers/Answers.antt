use Rattle.fab_blif.proofs.Drivers.{drivers_refused, once_told}
use Rattle.fab_blif.proofs.judge.refuse_drivers.Goals as goal

pub returns-in-None-clause-once : goal.returns-in-None-clause-once
returns-in-None-clause-once c = once_told c.args.design.now c.in_ok-drivers.drivers.items c.in_ok-second_driver.field-0 c.in_ok-drivers.ensures c.in_ok-second_driver.ensures.none c.in-None.is

pub returns-clause-refused : goal.returns-clause-refused
returns-clause-refused c =
    drivers_refused c.args.file.now c.args.design.now c.in_ok-drivers.drivers.items c.in_ok-second_driver.field-0 c.in-Some.line c.malformed.result c.in_ok-drivers.ensures c.in_ok-second_driver.ensures.second c.in-Some.is
    c.malformed.ensures
