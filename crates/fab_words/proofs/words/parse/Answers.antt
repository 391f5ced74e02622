use Rattle.std.proofs.Common.{◌∙◌, map, string_bytes}
use Rattle.std.proofs.lemmas.Result.{IfErr-weaker, IfOk-weaker}
use Rattle.fab_words.proofs.Jobs.{job_given}
use Rattle.fab_words.proofs.Taken.{usage_along}
use Rattle.fab_words.proofs.words.parse.Goals as goal

pub returns-clause-job : goal.returns-clause-job
returns-clause-job c =
    let same = job_given c.in_ok-form.form (map string_bytes c.args.words.now) c.in-Ok.matches c.in_ok-form.ensures.form c.in_ok-form.ensures.values
    c.in-Ok.ensures.values in
    IfOk-weaker c.job_of_form.result _ _ (λ job is. same ∙ is) c.job_of_form.ensures.job

pub returns-clause-usage : goal.returns-clause-usage
returns-clause-usage c =
    let same = job_given c.in_ok-form.form (map string_bytes c.args.words.now) c.in-Ok.matches c.in_ok-form.ensures.form c.in_ok-form.ensures.values
    c.in-Ok.ensures.values in
    IfErr-weaker c.job_of_form.result _ _ (λ fault is. usage_along fault (λ none. same ∙ none) is) c.job_of_form.ensures.usage
