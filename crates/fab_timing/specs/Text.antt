-- The text of a path: its delay, and a line for each stop with the sum up to it and its wire.
use Rattle.std.specs.Prelude.{ℕ, List, [], ◌∷◌, ◌++◌, map, codes, decimal}
use Rattle.fab_model.specs.Grid.{PlainFabric}
use Rattle.fab_texts.specs.Rows.{Word}
use Rattle.fab_texts.specs.Sections.{version, ending}
use Rattle.fab_texts.specs.Printed.{rows_text}
use Rattle.fab_impl.specs.Names.{wire_text}
use Rattle.fab_timing.specs.Walks.{Stop, PlainPath}

abbrev pub stop_line : PlainFabric → Stop → List Word
stop_line fabric stop = codes "at" ∷ decimal stop.1 ∷ wire_text fabric stop.0 ∷ []

abbrev pub timing_lines : PlainFabric → PlainPath → List (List Word)
timing_lines fabric path =
    (codes "fabulous-timing" ∷ version ∷ [])
    ∷ (codes "delay" ∷ decimal path.delay ∷ [])
    ∷ (map (stop_line fabric) path.stops ++ ending ∷ [])

-- the text that is printed
abbrev pub timing_text : PlainFabric → PlainPath → List ℕ
timing_text fabric path = rows_text (timing_lines fabric path)
