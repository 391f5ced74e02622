-- A line that begins with a word.
use Rattle.std.proofs.Common.{◌≡◌, ℕ, false, List, length, eqb, cond, Option, Result, Err, refl, sym, ap, subst, ◌∙◌}
use Rattle.fab_base.specs.declared.problem.Problem.{Problem}
use Rattle.fab_base.specs.declared.problem.Problem.TheVariants as problems
use Rattle.fab_base.specs.declared.words.Reason.TheVariants as reasons
use Rattle.fab_base.specs.Reading.{Answers}
use Rattle.fab_fasm.specs.declared.feature.Feature.{Feature}
use Rattle.fab_fasm.specs.Parts.{TwoParts, run, is_of_feature, has_return, unblanked}
use Rattle.fab_fasm.specs.Fasm.{feature_line, line_of_text, line_of}

pub line_of_word : (line : ℕ) (text word rest : List ℕ) (result : Result (Option Feature) Problem) → word ≡ (run is_of_feature text).0 → rest ≡ (run is_of_feature text).1 → eqb (length word) 0 ≡ false
    → Answers (λ said. said) result (feature_line line (word, rest)) → Answers (λ said. said) result (line_of_text line text)
line_of_word line text word rest result is_word is_rest some answered =
    let parts : (word, rest) ≡ run is_of_feature text =
    ap (λ (w : List ℕ). let p : TwoParts = (w, rest) in p) is_word ∙ ap (λ (r : List ℕ). let p : TwoParts = ((run is_of_feature text).0, r) in p) is_rest in
    let filled : eqb (length (run is_of_feature text).0) 0 ≡ false = sym (ap (λ (w : List ℕ). eqb (length w) 0) is_word) ∙ some in
    let same : feature_line line (word, rest) ≡ line_of_text line text = ap (feature_line line) parts ∙ sym (rw filled refl) in
    subst (λ (given : Result (Option Feature) Problem). Answers (λ said. said) result given) same answered

-- a line without carriage returns
pub unreturned_line : (line : ℕ) (text : List ℕ) → has_return false text ≡ false → line_of_text line (unblanked text) ≡ line_of line text
unfolding line_of
unreturned_line line text none = sym (ap (λ b. cond b (Err (problems.Malformed reasons.Feature)) (line_of_text line (unblanked text))) none)
