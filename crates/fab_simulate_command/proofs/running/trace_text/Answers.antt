use Rattle.std.proofs.Common.{◌≡◌, List, map, sym, subst}
use Rattle.fab_simulate_command.proofs.Traced.{traced_is_printed}
use Rattle.fab_simulate_command.proofs.running.trace_text.Goals as goal

pub returns : goal.returns
returns g c = λ text new.
    traced_is_printed text c.args.state.now c.args.order c.args.words.now (map (λ line. line.items) c.args.lines.now) c.in_ok-traced.traced.items c.deref.result.now c.deref.ensures.value c.print_trace.result
    (c.in_ok-traced.ensures text new) c.print_trace.ensures
