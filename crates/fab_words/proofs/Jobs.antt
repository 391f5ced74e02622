-- The job of a form by what clap gives.
use Rattle.std.proofs.Common.{◌≡◌, ◌∙◌, ℕ, true, List, Option, Some, None, refl, sym, ap, option_and_then}
use Rattle.std.specs.Prelude.{is_some}
use Rattle.std.specs.Option.{ForSome}
use Rattle.std.proofs.lemmas.Bool.{false≢true}
use Rattle.clap.specs.Words.{found_of, first_value}
use Rattle.clap.specs.declared.parser.matches.ArgMatches.{ArgMatches}
use Rattle.fab_words.specs.Arguments.{PlainSetting, value_of}
use Rattle.fab_words.specs.Forms.{synopsis, values_in}
use Rattle.fab_words.specs.inner.Matching.{Gives}
use Rattle.fab_words.specs.Words.{job_in, job_of, job_of_form}
use Rattle.fab_words.specs.declared.forms.Form.{Form}

pub job_given : (known : Form) (words : List (List ℕ)) (matches : ArgMatches) → job_of words ≡ job_in words known
    → is_some (values_in (synopsis known) words) ≡ true
    → ForSome (values_in (synopsis known) words) (Gives matches) → job_of words ≡ job_of_form known (first_value (found_of matches))
job_given known words matches is some gives = is ∙ go (values_in (synopsis known) words) some gives
  where
    go : (values : Option (List PlainSetting)) → is_some values ≡ true → ForSome values (Gives matches)
        → option_and_then (λ given. job_of_form known (λ name. value_of name given)) values ≡ job_of_form known (first_value (found_of matches))
    go None some2 gives2 = absurd (false≢true some2)
    go (Some values) some2 gives2 =
        let each = gives2 values refl in
        let same : ◌≡◌ {A = List ℕ → Option (List ℕ)} (first_value (found_of matches)) (λ name. value_of name values) = λ i name. each name i in
        ap (job_of_form known) (sym same)
