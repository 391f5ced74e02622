use Rattle.std.proofs.Common.{◌≡◌, ℕ, List, ap, ◌∙◌, length}
use Rattle.std.specs.Prelude.{option_map}
use Rattle.fab_tables.specs.Lists.{is_long, bytes_limit}
use Rattle.fab_tables.proofs.Longs.{found_in_first, found_in_second}
use Rattle.fab_tables.proofs.list_cells.long_problem.Goals as goal

pub returns-in-Some : goal.returns-in-Some
returns-in-Some c = ap (option_map bytes_limit) (found_in_first (λ (name : List ℕ). length name) is_long c.args.outputs.now c.args.inputs.now c.in-Some.bytes c.in-Some.ensures)

pub returns-in-Some-first_long : goal.returns-in-Some-first_long
returns-in-Some-first_long c = ap (option_map bytes_limit) (c.in-Some-first_long.ensures ∙ found_in_second (λ (name : List ℕ). length name) is_long c.args.outputs.now c.args.inputs.now c.in-None.ensures)

pub returns-in-None-first_long : goal.returns-in-None-first_long
returns-in-None-first_long c = ap (option_map bytes_limit) (c.in-None-first_long.ensures ∙ found_in_second (λ (name : List ℕ). length name) is_long c.args.outputs.now c.args.inputs.now c.in-None.ensures)
