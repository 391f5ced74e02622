-- What a line keeps to that is not refused, and so the lines of a text of which none is refused.
use Rattle.std.proofs.Common.{◌≡◌, ℕ, ◌+◌, ◌-◌, ◌≤◌, Bool, true, false, not, ◌&&◌, ◌==◌, List, [], ◌∷◌, ◌++◌, length, map, Option, Some, None, if◌then◌else◌, refl, sym, ap, subst, ◌∙◌, arith, append-nil, append_assoc, codes}
use Rattle.std.specs.List.{list_any, list_all}
use Rattle.std.proofs.lemmas.Bool.{ltb-false, eqb-true, not-false, and_parts}
use Rattle.std.proofs.lemmas.List.{map_push}
use Rattle.fab_base.specs.declared.words.Reason.{Reason}
use Rattle.fab_base.specs.declared.words.Reason.TheVariants as reasons
use Rattle.fab_base.specs.declared.problem.Problem.{Problem}
use Rattle.fab_base.specs.declared.problem.Problem.TheVariants as problems
use Rattle.fab_lines.specs.Order.{IsFine}
use Rattle.fab_lines.proofs.Judging.{fine_front}
use Rattle.fab_blif_models.specs.declared.words.Kind.{Kind}
use Rattle.fab_blif_models.specs.declared.words.Kind.TheVariants as kinds
use Rattle.fab_blif_models.specs.Words.{Word, words, kind_of, is_foreign}
use Rattle.fab_blif_models.specs.Covers.{pattern_of, is_on}
use Rattle.fab_blif_models.specs.Context.{Context, context_of}
use Rattle.fab_blif_models.specs.Judge.{count_fits, breaks_number, needs_model, repeats_port, same_output, has_output, is_sign, breaks_row, is_wide, construct_problem, problem_of, malformed_by, judge_words, judge}
use Rattle.fab_blif_models.specs.inner.Following.{context_after}
use Rattle.fab_blif_models.proofs.ContextLines.{context_more}

-- ---- what a line that is not refused keeps to

pub record Passes (most : ℕ) (context : Context) (kind : Kind) (line : List Word) : Type 0 where
  pub counted : not (count_fits kind context.width (length line)) ≡ false
  pub numbered : breaks_number kind line ≡ false
  pub new : repeats_port context kind line ≡ false
  pub row : breaks_row context.width context.on kind line ≡ false
  pub supported : construct_problem most context kind line ≡ None

no_problem : (reason : Option Reason) (construct : Option Problem) → problem_of reason construct ≡ None → (reason ≡ None) × (construct ≡ None)
no_problem None construct none = (refl, none)
no_problem (Some reason) construct none = absurd cc

-- of seven tests in turn none passes
no_reason : (a b c d e f g : Bool) →
    (if a then Some reasons.Row else if b then Some reasons.Number else if c then Some reasons.Name else if d then Some reasons.AfterEnd else if e then Some reasons.NameTwice else if f then Some reasons.NoModel else if g then Some reasons.CoverRow else None) ≡ None
    → (a ≡ false) × (b ≡ false) × (e ≡ false) × (g ≡ false)
no_reason true b c d e f g none = absurd cc
no_reason false true c d e f g none = absurd cc
no_reason false false true d e f g none = absurd cc
no_reason false false false true e f g none = absurd cc
no_reason false false false false true f g none = absurd cc
no_reason false false false false false true g none = absurd cc
no_reason false false false false false false true none = absurd cc
no_reason false false false false false false false none = (refl, refl, refl, refl)

pub passes : (most : ℕ) (context : Context) (text : List ℕ) (kind : Kind) (line : List Word) → judge_words most context text kind line ≡ None → Passes most context kind line
passes most context text kind line fine =
    let parts = no_problem (malformed_by context text kind line) (construct_problem most context kind line) fine in
    let tests = no_reason
    (not (count_fits kind context.width (length line)))
    (breaks_number kind line)
    (list_any is_foreign text)
    (context.ended && needs_model kind)
    (repeats_port context kind line)
    (not context.begun && needs_model kind)
    (breaks_row context.width context.on kind line)
    parts.0 in
    record { counted = tests.0; numbered = tests.1; new = tests.2; row = tests.3; supported = parts.1 }

-- a cover that is not wide
not_wide : (wide : Bool) (problem : Problem) → (if wide then Some problem else None) ≡ None → wide ≡ false
not_wide true problem none = absurd cc
not_wide false problem none = refl

pub cover_narrow : (most : ℕ) (context : Context) (line : List Word) → Passes most context kinds.Names line → length line - 2 ≤ most
cover_narrow most context line passed =
    let few = ltb-false most (length line - 2) (not_wide (is_wide most (length line)) (problems.Unsupported (codes "wide cover")) passed.supported) in
    omega (arith, few)

pub row_width : (width : Option ℕ) (on : Option Bool) (line : List Word) → not (count_fits kinds.Row width (length line)) ≡ false → breaks_row width on kinds.Row line ≡ false
    → (n : ℕ) × (width ≡ Some n) × (length (pattern_of line) ≡ n)
row_width None on line counted fine = absurd cc
row_width (Some n) on line counted fine =
    let long = length (pattern_of line) == n in
    let signs = list_all is_sign (pattern_of line) in
    let output = has_output line in
    let same = same_output on (is_on line) in
    let all = and_parts (long && signs && output) same (not-false (long && signs && output && same) fine) in
    let three = and_parts (long && signs) output all.0 in
    (n, refl, eqb-true (length (pattern_of line)) n (and_parts long signs three.0).0)

-- ---- lines

-- what each line keeps that is not refused holds of lines of which none is refused
pub each_line : (most : ℕ) (P : List (List ℕ) → Type 0) → ((front : List (List ℕ)) (line : List ℕ) → IsFine (judge most) front → judge most front line ≡ None → P front → P (front ++ line ∷ []))
    → P [] → (lines : List (List ℕ)) → IsFine (judge most) lines → P lines
each_line most P more first lines fine = on [] lines fine first
  where
    on : (front rest : List (List ℕ)) → IsFine (judge most) (front ++ rest) → P front → P (front ++ rest)
    on front [] fine so_far = subst P (sym (append-nil front)) so_far
    on front (line ∷ rest) fine so_far =
        let same : (front ++ line ∷ []) ++ rest ≡ front ++ line ∷ rest = append_assoc front (line ∷ []) rest in
        subst P same (on (front ++ line ∷ []) rest (subst (IsFine (judge most)) (sym same) fine)
        (more front line (fine_front (judge most) front (line ∷ rest) fine) (fine front line rest refl) so_far))

-- ---- the cover that takes rows has no more inputs than a cover may have

abbrev IsFew : ℕ → Option ℕ → Type 0
IsFew most None = Unit {0}
IsFew most (Some width) = width ≤ most

few_after : (most : ℕ) (old : Context) (kind : Kind) (line : List Word) → Passes most old kind line → IsFew most old.width → IsFew most (context_after old kind line).width
few_after most old kinds.Blank line passed few = few
few_after most old kinds.Row line passed few = few
few_after most old kinds.Model line passed few = tt
few_after most old kinds.End line passed few = tt
few_after most old kinds.Inputs line passed few = tt
few_after most old kinds.Outputs line passed few = tt
few_after most old kinds.Clock line passed few = tt
few_after most old kinds.Names line passed few = cover_narrow most old line passed
few_after most old kinds.Latch line passed few = tt
few_after most old kinds.Instance line passed few = tt
few_after most old kinds.Buffer line passed few = tt
few_after most old kinds.Passed line passed few = few
few_after most old kinds.Other line passed few = tt

few_line : (most : ℕ) (front : List (List ℕ)) (line : List ℕ) → IsFine (judge most) front → judge most front line ≡ None → IsFew most (context_of (map words front)).width
    → IsFew most (context_of (map words (front ++ line ∷ []))).width
few_line most front line _ fine few =
    let old = context_of (map words front) in
    let kind = kind_of (words line) in
    let after : context_of (map words (front ++ line ∷ [])) ≡ context_after old kind (words line) =
    ap context_of (map_push words front line) ∙ context_more (map words front) (words line) kind refl in
    subst (λ (c : Context). IsFew most c.width) (sym after) (few_after most old kind (words line) (passes most old line kind (words line) fine) few)

few_inputs : (most : ℕ) (lines : List (List ℕ)) → IsFine (judge most) lines → IsFew most (context_of (map words lines)).width
few_inputs most lines fine = each_line most (λ l. IsFew most (context_of (map words l)).width) (few_line most) tt lines fine

-- A row that is not refused is one of a cover, and has a sign for each of its inputs.
pub row_fits_cover : (most : ℕ) (front : List (List ℕ)) (line : List ℕ) → IsFine (judge most) front → judge most front line ≡ None → kind_of (words line) ≡ kinds.Row
    → (width : ℕ) × ((context_of (map words front)).width ≡ Some width) × (length (pattern_of (words line)) ≤ most)
row_fits_cover most front line fine_before fine is =
    let old = context_of (map words front) in
    let passed = passes most old line kinds.Row (words line) (subst (λ (k : Kind). judge_words most old line k (words line) ≡ None) is fine) in
    let width = row_width old.width old.on (words line) passed.counted passed.row in
    let few : width.0 ≤ most = subst (IsFew most) width.1 (few_inputs most front fine_before) in
    (width.0, width.1, omega (arith, few, width.2))
