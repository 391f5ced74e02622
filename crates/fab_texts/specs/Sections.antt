-- Texts with sections: the first line names the format and its version, then come the lines of each section, in the order of the
-- sections, and the last line is `end`.
use Rattle.std.specs.Prelude.{ℕ, Bool, true, false, List, [], ◌∷◌, ◌==◌, ◌&&◌, not, length, nat_le, codes, if◌then◌else◌, Option, Some, None, Result, Ok}
use Rattle.std.specs.Str.{bytes_eq}
use Rattle.fab_base.specs.declared.words.Reason.TheVariants as reasons
use Rattle.fab_base.specs.declared.problem.Problem.{Problem}
use Rattle.fab_base.specs.declared.problem.Problem.TheVariants as problems
use Rattle.fab_texts.specs.declared.sections.Part.{Part}
use Rattle.fab_texts.specs.declared.sections.Part.TheVariants as parts
use Rattle.fab_texts.specs.Rows.{Word}
use Rattle.fab_lines.specs.Items.{word_at}
use Rattle.fab_texts.specs.Formats.{refused}

-- ---- the first line and the last

-- the second word of each first line
abbrev pub version : Word
version = codes "1"

-- what is known is taken over, where the version is this one
abbrev pub with_version : {S : Type 0} → (word : Word) → S → Result S Problem
with_version word known = if bytes_eq word version then Ok known else refused reasons.Number

abbrev pub ending : List Word
ending = codes "end" ∷ []

abbrev pub is_ending : List Word → Bool
is_ending line = (length line == 1) && bytes_eq (word_at line 0) (codes "end")

-- ---- which lines may follow which; of the lines so far the last decides, if there is one

abbrev pub is_header : Part → Bool
is_header parts.Header = true
is_header _ = false

-- no later section has begun
abbrev pub is_open : (last : Part) → (section : ℕ) → Bool
is_open parts.Header section = true
is_open (parts.Section begun) section = nat_le begun section
is_open parts.End section = false
is_open parts.Other section = true

-- whether a line may follow: the first is the header, and sections come in order
abbrev pub may_follow : (last : Option Part) → Part → Bool
may_follow None part = is_header part
may_follow (Some last) parts.Header = false
may_follow (Some last) (parts.Section section) = is_open last section
may_follow (Some last) parts.End = true
may_follow (Some last) parts.Other = false

abbrev pub is_end : Part → Bool
is_end parts.End = true
is_end _ = false

-- the text has ended
abbrev pub has_ended : (last : Option Part) → Bool
has_ended None = false
has_ended (Some last) = is_end last

-- What is taken of a line, or why it may not stand there: after the end nothing else is asked, and its place comes before all else
-- that can be wrong.
abbrev pub in_place : {S : Type 0} → (last : Option Part) → Part → (taken : Result S Problem) → Result S Problem
in_place last part taken =
    if has_ended last then refused reasons.AfterEnd
    else if not (may_follow last part) then refused reasons.Row
    else taken

-- the last line has to have come
abbrev pub cut_short : (last : Option Part) → Option Problem
cut_short last = if has_ended last then None else Some (problems.Malformed reasons.EndOfFile)
