-- Whatever stands in files, one of two holds: it spells something, or it has a first refusal.
use Rattle.std.specs.Prelude.{◌≡◌, ◌<◌, ◌⊎◌, ℕ, List, All, Option, Some}
use Rattle.fab_base.specs.declared.fault.Fault.{Fault}
use Rattle.fab_base.specs.declared.problem.Problem.{Problem}
use Rattle.fab_desk.specs.Files.{Map}
use Rattle.fab_files.specs.Files.{Event, refuses}
use Rattle.fab_lines.specs.Order.{IsFine, IsFirstFault, Format, IsWhole, IsTextFault}

-- the content of each file is bytes
abbrev pub HoldBytes : (files : Map) → Type 0
HoldBytes files = (name bytes : List ℕ) → files name ≡ Some bytes → All (λ byte. byte < 256) bytes

-- a text spells a value, or it is refused
abbrev pub IsSpelledOrRefused : {A : Type 0} (Spells : A → Type 0) (Refused : Fault → Type 0) → Type 0
IsSpelledOrRefused {A} Spells Refused = ((value : A) × Spells value) ⊎ ((fault : Fault) × Refused fault)

-- What a reader of files or a command needs is there, or it comes upon a refusal.
abbrev pub IsReadyOrRefused : (Ready : Type 0) (Meets : Event → Type 0) → Type 0
IsReadyOrRefused Ready Meets = Ready ⊎ ((fault : Fault) × Meets (refuses fault))

-- A format that judges lines alone: no line of a text is refused, or one is the first.
abbrev pub JudgesLines : {L : Type 0} (judge : List L → L → Option Problem) → Type 0
JudgesLines {L} judge = (file : List ℕ) (text : List L) → IsFine judge text ⊎ ((fault : Fault) × IsFirstFault judge file text fault)

-- A format that judges the end of a text too. `last` is the number of the last line.
abbrev pub JudgesTexts : {L : Type 0} (format : Format L) → Type 0
JudgesTexts {L} format = (file : List ℕ) (text : List L) (last : ℕ) → IsWhole format text ⊎ ((fault : Fault) × IsTextFault format file text last fault)
