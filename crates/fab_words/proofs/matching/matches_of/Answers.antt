use Rattle.std.proofs.Common.{◌≡◌, ◌∙◌, ap}
use Rattle.std.proofs.lemmas.Result.{IfErr-weaker, IfOk-weaker}
use Rattle.clap.specs.Words.{app_of}
use Rattle.fab_words.specs.Forms.{synopsis}
use Rattle.fab_words.specs.inner.Matching.{app}
use Rattle.fab_words.proofs.Parsed.{words_given, words_taken}
use Rattle.fab_words.proofs.matching.matches_of.Goals as goal

pub returns-clause-values : goal.returns-clause-values
returns-clause-values c =
    let told : app_of c.in_ok-command.command ≡ app (synopsis c.args.form) = c.in_ok-command.ensures ∙ ap app c.synopsis.ensures in
    IfOk-weaker c.try_get_matches_from.result _ _ (λ m has. words_given c.args.form _ (app_of c.in_ok-command.command) m told has)
    c.try_get_matches_from.ensures.matches

pub returns-clause-memory : goal.returns-clause-memory
returns-clause-memory c =
    let told : app_of c.in_ok-command.command ≡ app (synopsis c.args.form) = c.in_ok-command.ensures ∙ ap app c.synopsis.ensures in
    IfErr-weaker c.try_get_matches_from.result _ _ (λ e why. why (words_taken c.args.form _ (app_of c.in_ok-command.command) told c.requires))
    c.try_get_matches_from.ensures.passes
