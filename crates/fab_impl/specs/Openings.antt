-- How the text of an implementation begins: in version 1, or in version 2 where it names a reset port.
use Rattle.std.specs.Prelude.{Bool, true, false, not, codes, if◌then◌else◌, Option, Some, None, Result, Ok}
use Rattle.std.specs.Str.{bytes_eq}
use Rattle.fab_base.specs.declared.words.Reason.TheVariants as reasons
use Rattle.fab_base.specs.declared.problem.Problem.{Problem}
use Rattle.fab_texts.specs.Rows.{Word}
use Rattle.fab_texts.specs.Formats.{refused}
use Rattle.fab_texts.specs.Sections.{version}
use Rattle.fab_impl.specs.declared.kind.Kind.{Kind}
use Rattle.fab_impl.specs.declared.kind.Kind.TheVariants as kinds
use Rattle.fab_impl.specs.declared.opening.Opening.{Opening}
use Rattle.fab_impl.specs.declared.opening.Opening.TheVariants as openings

-- the version of a text that names a reset port
abbrev pub reset_version : Word
reset_version = codes "2"

-- how a text begins whose first line has this version
abbrev pub opening_of : (version : Word) → Result Opening Problem
opening_of word =
    if bytes_eq word version then Ok openings.Plain
    else if bytes_eq word reset_version then Ok openings.ResetDue
    else refused reasons.Number

-- whether the next line has to name the reset port
abbrev pub is_due : Opening → Bool
is_due openings.Plain = false
is_due openings.ResetDue = true
is_due (openings.Reset port) = false

abbrev pub port_of : Opening → Option Word
port_of openings.Plain = None
port_of openings.ResetDue = None
port_of (openings.Reset port) = Some port

abbrev pub is_reset : Kind → Bool
is_reset kinds.Reset = true
is_reset _ = false

-- whether a line of a kind may come: the reset port is named where it is due, and nowhere else
abbrev pub may_come : Opening → Kind → Bool
may_come opening kind = if is_due opening then is_reset kind else not (is_reset kind)

-- what is taken of a line that may come
abbrev pub where_due : {S : Type 0} → Opening → Kind → (taken : Result S Problem) → Result S Problem
where_due opening kind taken = if may_come opening kind then taken else refused reasons.Row
