-- Expressions whose widths are counted in 64 bits.
use Rattle.std.specs.Prelude.{◌^◌, ◌<◌, List, All}
use Rattle.fab_syntax.specs.Plain.{PlainExpr, PlainModule}
use Rattle.fab_syntax.specs.Sound.{item_expressions, width_of, Every, EachItem}

abbrev pub IsNarrow : PlainModule → PlainExpr → Type 0
IsNarrow m e = width_of m e < 2 ^ 64

-- all expressions of a text, and all that is in them
abbrev pub AreNarrow : List PlainModule → Type 0
AreNarrow text = EachItem (λ m item. All (Every (IsNarrow m)) (item_expressions item)) text
