use Rattle.std.proofs.Common.{◌≡◌, ◌∙◌, Bool, List, map, ap, subst}
use Rattle.fab_simulate_command.specs.Simulating.{Traces}
use Rattle.fab_simulate_command.proofs.simulating.stimulated.Goals as goal

pub returns-in_ok-trace_text-in-Ok-clause-traced : goal.returns-in_ok-trace_text-in-Ok-clause-traced
returns-in_ok-trace_text-in-Ok-clause-traced g c = λ text new files is.
    let lines_are : map (λ line. line.items) c.deref.result.now ≡ c.in-Ok.read = ap (map (λ line. line.items)) c.deref.ensures.value ∙ c.read.view_is in
    record {
      lines = c.in-Ok.read;
      given = c.in-Ok.ensures.spelled files is;
      traces =
          subst (λ (l : List (List Bool)). Traces text c.args.state.now c.args.order c.args.words.now l c.in_ok-trace_text-in-Ok.field-0.items) lines_are
          (c.in_ok-trace_text-in-Ok.ensures text new);
    }
