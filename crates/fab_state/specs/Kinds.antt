-- What a line of a state text is, and where it stands.
use Rattle.std.specs.Prelude.{List, ◌==◌, length, codes, if◌then◌else◌}
use Rattle.std.specs.Str.{bytes_eq}
use Rattle.fab_texts.specs.declared.sections.Part.{Part}
use Rattle.fab_texts.specs.declared.sections.Part.TheVariants as parts
use Rattle.fab_texts.specs.Rows.{Word}
use Rattle.fab_lines.specs.Items.{word_at}
use Rattle.fab_texts.specs.Sections.{is_ending}
use Rattle.fab_state.specs.declared.kind.Kind.{Kind}
use Rattle.fab_state.specs.declared.kind.Kind.TheVariants as kinds

abbrev pub kind_of_three : (first : Word) → Kind
kind_of_three first =
    if bytes_eq first (codes "in") then kinds.In
    else if bytes_eq first (codes "out") then kinds.Out
    else if bytes_eq first (codes "ff") then kinds.Ff
    else kinds.Other

abbrev pub kind_of_two : (first : Word) → Kind
kind_of_two first = if bytes_eq first (codes "fabulous-state") then kinds.Header else kinds.Other

-- what a line is, by the number of its words and its first word
abbrev pub kind_of : List Word → Kind
kind_of line =
    if length line == 3 then kind_of_three (word_at line 0)
    else if length line == 2 then kind_of_two (word_at line 0)
    else if is_ending line then kinds.End
    else kinds.Other

-- where a line of a kind stands
abbrev pub part_of : Kind → Part
part_of kinds.Header = parts.Header
part_of kinds.In = parts.Section 1
part_of kinds.Out = parts.Section 2
part_of kinds.Ff = parts.Section 3
part_of kinds.End = parts.End
part_of kinds.Other = parts.Other
