use Rattle.std.proofs.Common.{◌≡◌, drop}
use Rattle.std.specs.Prelude.{find}
use Rattle.std.specs.Str.{bytes_eq}
use Rattle.fab_words.specs.Forms.{synopsis}
use Rattle.fab_words.proofs.forms.form_among.Given as goal

abbrev pub invariant-loop-form : goal.invariant-loop-form
invariant-loop-form l =
    find (λ known. bytes_eq (synopsis known).command l.command) (drop l.form-index l.forms)
    ≡ find (λ known. bytes_eq (synopsis known).command l.command) l.forms
