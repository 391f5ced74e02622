use Rattle.std.proofs.Common.{◌≡◌, ◌-◌, map, take, length}
use Rattle.csv.specs.Records.{fields_of}
use Rattle.fab_lines.specs.Parts.{trimmed}
use Rattle.fab_rows.proofs.cells.trimmed_fields.Given as goal

abbrev pub invariant-loop-field : goal.invariant-loop-field
invariant-loop-field l = l.cells.items ≡ map trimmed (take l.count (fields_of l.found))

abbrev pub decreases-loop-field : goal.decreases-loop-field
decreases-loop-field l = length (fields_of l.found) - l.count
