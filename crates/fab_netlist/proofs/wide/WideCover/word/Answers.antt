use Rattle.std.proofs.Common.{rules, ap, ◌-◌, ◌∙◌}
use Rattle.fab_netlist.proofs.Rows.{word_on, word_off}
use Rattle.fab_netlist.proofs.wide.WideCover.word.Goals as goal

pub returns-then-self : goal.returns-then-self
returns-then-self c = c.covered-covered.ensures ∙ word_on c.args.self.now.on c.args.self.now.rows c.args.place (search rules)

pub returns-else-self : goal.returns-else-self
returns-else-self c = ap (λ n. 65535 - n) c.covered-covered.ensures ∙ word_off c.args.self.now.on c.args.self.now.rows c.args.place (search rules)
