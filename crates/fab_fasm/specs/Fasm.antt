-- Why a line of a FASM text is refused, and what is read of one that is not, as a computation.
use Rattle.std.specs.Prelude.{ℕ, ◌+◌, false, List, [], ◌∷◌, ◌++◌, ◌==◌, length, Option, Some, None, Result, Ok, Err, if◌then◌else◌}
use Rattle.fab_base.specs.declared.words.Reason.{Reason}
use Rattle.fab_base.specs.declared.words.Reason.TheVariants as reasons
use Rattle.fab_base.specs.declared.problem.Problem.{Problem}
use Rattle.fab_base.specs.declared.problem.Problem.TheVariants as problems
use Rattle.fab_fasm.specs.declared.feature.Feature.{Feature}
use Rattle.fab_fasm.specs.Parts.{TwoParts, Addressed, has_return, unblanked, run, is_of_feature, is_feature, address_at, tail_fault}
use Rattle.fab_fasm.specs.Values.{Valued, value_at}

-- the value where nothing is wrong behind it
abbrev pub ended : Option Reason → (value : Result ℕ Problem) → Result ℕ Problem
ended None value = value
ended (Some reason) value = Err (problems.Malformed reason)

abbrev pub valued : Option Valued → Result ℕ Problem
valued None = Err (problems.Malformed reasons.Value)
valued (Some value) = ended (tail_fault value.reason value.rest) value.value

abbrev pub with_number : (line : ℕ) (name : List ℕ) → Addressed → Result ℕ Problem → Result (Option Feature) Problem
with_number line name address (Ok value) = Ok (Some (record { line = line; name = name; high = address.high; low = address.low; value = value }))
with_number line name address (Err problem) = Err problem

-- what stands behind a feature
abbrev pub with_address : (line : ℕ) (name : List ℕ) → Option Addressed → Result (Option Feature) Problem
with_address line name None = Err (problems.Malformed reasons.Address)
with_address line name (Some address) = with_number line name address (valued (value_at address))

-- a line that begins with this word
unfoldable pub feature_line : (line : ℕ) (parts : TwoParts) → Result (Option Feature) Problem
feature_line line parts =
    if is_feature parts.0 then with_address line parts.0 (address_at parts.1)
    else Err (problems.Malformed reasons.Feature)

abbrev pub nothing_said : Option Reason → Result (Option Feature) Problem
nothing_said None = Ok None
nothing_said (Some reason) = Err (problems.Malformed reason)

abbrev pub line_of_text : (line : ℕ) (text : List ℕ) → Result (Option Feature) Problem
line_of_text line text =
    if length (run is_of_feature text).0 == 0 then nothing_said (tail_fault reasons.Feature text)
    else feature_line line (run is_of_feature text)

-- The feature that is read of a line of this number, none where it has none, or why the line is refused: the reason of the
-- first part that is malformed, and else the limit that the value breaks. A carriage return that ends no line is no part
-- of it, and is refused as a feature.
unfoldable pub line_of : (line : ℕ) (text : List ℕ) → Result (Option Feature) Problem
line_of line text =
    if has_return false text then Err (problems.Malformed reasons.Feature)
    else line_of_text line (unblanked text)

-- ---- the text as a whole

abbrev pub refusal_of : Result (Option Feature) Problem → Option Problem
refusal_of (Ok said) = None
refusal_of (Err problem) = Some problem

-- why a line is refused, if it is: a line is judged by itself
abbrev pub fasm_judge : (before : List (List ℕ)) (line : List ℕ) → Option Problem
fasm_judge before line = refusal_of (line_of (length before + 1) line)

abbrev pub said : Result (Option Feature) Problem → List Feature
said (Ok (Some feature)) = feature ∷ []
said _ = []

-- what is read of lines, of which the first has this number
abbrev pub features_from : (number : ℕ) (lines : List (List ℕ)) → List Feature
features_from number [] = []
features_from number (line ∷ lines) = said (line_of number line) ++ features_from (number + 1) lines

-- ---- the same as a computation, which the reader follows

abbrev pub with_line : (features : List Feature) → Result (Option Feature) Problem → Result (List Feature) Problem
with_line features (Ok None) = Ok features
with_line features (Ok (Some feature)) = Ok (features ++ feature ∷ [])
with_line features (Err problem) = Err problem

abbrev pub after_line : (features : List Feature) (number : ℕ) (line : List ℕ) → Result (List Feature) Problem
after_line features number line = with_line features (line_of number line)
