-- The text of a name.
use Rattle.std.proofs.Common.{◌≡◌, ℕ, true, Bor, List, Some, None, Result, Ok, Err, option_map, inl, inr, refl, ap, if◌then◌else◌}
use Rattle.std.specs.Prelude.{MatchResult}
use Rattle.std.specs.Result.{result_ok}
use Rattle.std.specs.Str.{IsUtf8, is_utf8}
use Rattle.std.proofs.lemmas.Bool.{cases_Bool}
use Rattle.std.proofs.lemmas.Str.{IsUtf8-from_is_utf8, is_utf8-from_IsUtf8}

-- a conversion gives the text, where there is one
pub text_shown : {E : Type 0} (bytes : List ℕ) (Q : E → Type 0) (made : Result (Bor (List ℕ)) E) → MatchResult made (λ s. (s.now ≡ bytes) × IsUtf8 bytes) (λ e. ¬ (IsUtf8 bytes) × Q e)
    → option_map (λ text. text.now) (result_ok made) ≡ (if is_utf8 bytes then Some bytes else None)
text_shown bytes Q (Ok text) cases =
    let is : is_utf8 bytes ≡ true = is_utf8-from_IsUtf8 bytes cases.1 in
    rw is (ap (λ b. Some b) cases.0)
text_shown bytes Q (Err e) cases =
    elim (cases_Bool (is_utf8 bytes)) [
      | inl t ↦ absurd (cases.0 (IsUtf8-from_is_utf8 bytes t))
      | inr f ↦ rw f refl
    ]
