-- Which bytes are text.
use Rattle.std.proofs.Common.{◌≡◌, ℕ, ◌&&◌, Bool, true, false, List, Result, Ok, Err, is_ok, length, refl, sym, ◌∙◌, subst}
use Rattle.std.specs.Prelude.{MatchResult, not, ◌==◌}
use Rattle.std.specs.Str.{IsUtf8, is_utf8}
use Rattle.std.proofs.lemmas.Str.{IsUtf8-from_is_utf8, is_utf8-from_IsUtf8}
use Rattle.fab_paths.specs.Paths.{is_file_name}

false_unless_true : (b : Bool) → ¬ (b ≡ true) → b ≡ false
false_unless_true true h = absurd (h refl)
false_unless_true false h = refl

first_of_both : (a b : Bool) → (a && b) ≡ true → a ≡ true
first_of_both true b h = refl
first_of_both false b h = h

-- a conversion to text succeeds exactly where bytes are text
pub ok_of_text : {X E : Type 0} (bytes : List ℕ) (P : X → Type 0) (Q : E → Type 0) (made : Result X E)
    → MatchResult made (λ x. P x × IsUtf8 bytes) (λ e. ¬ (IsUtf8 bytes) × Q e) → is_ok made ≡ is_utf8 bytes
ok_of_text bytes P Q (Ok x) cases = sym (is_utf8-from_IsUtf8 bytes cases.1)
ok_of_text bytes P Q (Err e) cases = sym (false_unless_true (is_utf8 bytes) (λ text. cases.0 (IsUtf8-from_is_utf8 bytes text)))

-- the name of a file is text
pub text_of_name : (bytes name : List ℕ) (tested : Bool) → tested ≡ is_file_name bytes → tested ≡ true → name ≡ bytes → IsUtf8 name
unfolding is_file_name
text_of_name bytes name tested is good same =
    let text : is_utf8 bytes ≡ true = first_of_both (is_utf8 bytes) (not (length bytes == 0)) (sym is ∙ good) in
    subst IsUtf8 (sym same) (IsUtf8-from_is_utf8 bytes text)
