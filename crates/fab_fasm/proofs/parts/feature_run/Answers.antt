use Rattle.std.proofs.Common.{◌≡◌, ◌∙◌, ap, length, take, drop}
use Rattle.std.specs.Prelude.{unwrap_or, not}
use Rattle.fab_lines.proofs.FirstLine.{position_or_length}
use Rattle.fab_fasm.specs.Parts.{run, run_length, is_of_feature}
use Rattle.fab_fasm.proofs.parts.feature_run.Goals as goal

pub returns-clause-word : goal.returns-clause-word
unfolding run
returns-clause-word c =
    let end : c.unwrap_or.result ≡ run_length is_of_feature c.args.text.now = c.unwrap_or.ensures ∙ ap (λ p. unwrap_or p (length c.args.text.now)) c.feature_end.ensures ∙ position_or_length (λ byte. not (is_of_feature byte)) c.args.text.now in
    c.split_at.ensures.front ∙ ap (λ k. take k c.args.text.now) end

pub returns-clause-rest : goal.returns-clause-rest
unfolding run
returns-clause-rest c =
    let end : c.unwrap_or.result ≡ run_length is_of_feature c.args.text.now = c.unwrap_or.ensures ∙ ap (λ p. unwrap_or p (length c.args.text.now)) c.feature_end.ensures ∙ position_or_length (λ byte. not (is_of_feature byte)) c.args.text.now in
    c.split_at.ensures.back ∙ ap (λ k. drop k c.args.text.now) end
