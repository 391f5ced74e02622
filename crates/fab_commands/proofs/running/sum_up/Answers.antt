use Rattle.std.proofs.Common.{ℕ, List, ◌++◌, ap, ◌∙◌, option_map}
use Rattle.fab_commands.proofs.running.sum_up.Goals as goal

pub returns-in-Ok-clause-put : goal.returns-in-Ok-clause-put
returns-in-Ok-clause-put g c = record {
  text = c.in_ok-text.text.items;
  summary = c.in_ok-text.ensures;
  put = c.in-Ok.ensures.ok ∙ ap (λ (bytes : List ℕ). option_map (λ (old : List ℕ). old ++ bytes) (g.S.Sink.so_far c.args.out.now)) c.deref.ensures.value;
}
