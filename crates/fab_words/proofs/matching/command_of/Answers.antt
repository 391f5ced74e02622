use Rattle.std.proofs.lemmas.Result.{IfOk-weaker}
use Rattle.fab_words.specs.inner.Plain.{plain_synopsis}
use Rattle.fab_words.proofs.Told.{form_told}
use Rattle.fab_words.proofs.matching.command_of.Goals as goal

pub returns : goal.returns
returns c =
    IfOk-weaker c.args-2.result _ _ (λ made added. form_told
    (plain_synopsis c.args.synopsis.now) c.new.result c.disable_help_flag.result c.disable_version_flag.result made c.in_ok-arguments.arguments.items
    c.new.ensures.app c.disable_help_flag.ensures c.disable_version_flag.ensures c.in_ok-arguments.ensures.rules c.in_ok-arguments.ensures.local added)
    c.args-2.ensures
