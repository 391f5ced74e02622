-- What a line of an implementation text is, and where it stands.
use Rattle.std.specs.Prelude.{List, ◌==◌, length, codes, if◌then◌else◌}
use Rattle.std.specs.Str.{bytes_eq}
use Rattle.fab_texts.specs.declared.sections.Part.{Part}
use Rattle.fab_texts.specs.declared.sections.Part.TheVariants as parts
use Rattle.fab_texts.specs.Rows.{Word}
use Rattle.fab_lines.specs.Items.{word_at}
use Rattle.fab_texts.specs.Sections.{is_ending}
use Rattle.fab_impl.specs.declared.kind.Kind.{Kind}
use Rattle.fab_impl.specs.declared.kind.Kind.TheVariants as kinds

-- by two words, the first of which is `pad`
abbrev pub pad_kind : (side : Word) → Kind
pad_kind side = if bytes_eq side (codes "in") then kinds.In else if bytes_eq side (codes "out") then kinds.Out else kinds.Other

abbrev pub kind_of_four : (first second : Word) → Kind
kind_of_four first second = if bytes_eq first (codes "pad") then pad_kind second else kinds.Other

abbrev pub net_kind : (second : Word) → Kind
net_kind second = if bytes_eq second (codes "in") then kinds.NetIn else if bytes_eq second (codes "cell") then kinds.NetCell else kinds.Other

abbrev pub kind_of_three : (first second : Word) → Kind
kind_of_three first second =
    if bytes_eq first (codes "edge") then kinds.Edge
    else if bytes_eq first (codes "cell") then kinds.Cell
    else if bytes_eq first (codes "net") then net_kind second
    else kinds.Other

abbrev pub constant_kind : (second : Word) → Kind
constant_kind second = if bytes_eq second (codes "zero") then kinds.NetZero else if bytes_eq second (codes "one") then kinds.NetOne else kinds.Other

abbrev pub kind_of_two : (first second : Word) → Kind
kind_of_two first second =
    if bytes_eq first (codes "fabulous-impl") then kinds.Header
    else if bytes_eq first (codes "reset") then kinds.Reset
    else if bytes_eq first (codes "net") then constant_kind second
    else kinds.Other

-- what a line is, by the number of its words and its first two words
abbrev pub kind_of : List Word → Kind
kind_of line =
    if length line == 4 then kind_of_four (word_at line 0) (word_at line 1)
    else if length line == 3 then kind_of_three (word_at line 0) (word_at line 1)
    else if length line == 2 then kind_of_two (word_at line 0) (word_at line 1)
    else if is_ending line then kinds.End
    else kinds.Other

-- where a line of a kind stands; the section of the reset port is below all others
abbrev pub part_of : Kind → Part
part_of kinds.Header = parts.Header
part_of kinds.Reset = parts.Section 0
part_of kinds.Cell = parts.Section 1
part_of kinds.In = parts.Section 2
part_of kinds.Out = parts.Section 3
part_of kinds.NetZero = parts.Section 4
part_of kinds.NetOne = parts.Section 4
part_of kinds.NetIn = parts.Section 4
part_of kinds.NetCell = parts.Section 4
part_of kinds.Edge = parts.Section 4
part_of kinds.End = parts.End
part_of kinds.Other = parts.Other
