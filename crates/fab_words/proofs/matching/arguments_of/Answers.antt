use Rattle.fab_words.proofs.Told.{two_told}
use Rattle.fab_words.proofs.matching.arguments_of.Goals as goal

pub returns-clause-rules : goal.returns-clause-rules
returns-clause-rules c =
    two_told (λ name. name.now) _ _ _ c.args.synopsis.now.positionals.now c.args.synopsis.now.options.now c.new-arguments.ensures.items
    c.in_ok-push_positionals.ensures.rules c.in_ok-push_options.ensures.rules
