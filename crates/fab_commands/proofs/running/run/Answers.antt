use Rattle.fab_commands.proofs.Ending.{fault_answered, job_answered}
use Rattle.fab_commands.proofs.running.run.Goals as goal

pub returns-in-Ok : goal.returns-in-Ok
returns-in-Ok g c = job_answered _ c.in-Ok.ensures.done c.in-Ok.ensures.puts

pub returns-in-Err : goal.returns-in-Err
returns-in-Err g c =
    fault_answered _ c.in-Err.fault c.report.result (g.S.Sink.so_far c.perform.new.out) (g.S.Sink.faults c.perform.new.out) c.perform.ensures.faults
    c.report.ensures.faults c.in-Err.ensures.cause c.in-Err.ensures.leaves c.in-Err.ensures.stands c.report.ensures.reported
