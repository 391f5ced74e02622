use Rattle.std.proofs.Common.{map, rules, arith, []}
use Rattle.clap.specs.Words.{rule_of}
use Rattle.fab_words.specs.inner.Matching.{positional_rule}
use Rattle.fab_words.proofs.Told.{told_more, local_more}
use Rattle.fab_words.proofs.matching.push_positionals.Goals as goal

pub loop-name-preserved : goal.loop-name-preserved
loop-name-preserved c =
    let argument = c.required.result in
    record {
      rules = told_more (λ name. positional_rule name.now) (map rule_of c.args.arguments.now.items) c.args.names.now c.loop-name.name-index
          (record { ref_ptr = (0, 0); now = [] }) c.loop-name.arguments.items c.push.new.self.items argument
          c.loop-name.invariant.rules (omega arith) (search rules) (search rules);
      local = λ all. local_more c.loop-name.arguments.items c.push.new.self.items argument (search rules) (search rules) (c.loop-name.invariant.local all);
    }
