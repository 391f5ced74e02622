use Rattle.std.proofs.Common.{◌≡◌, true, take}
use Rattle.std.specs.Prelude.{is_some}
use Rattle.std.specs.List.{list_all}
use Rattle.fab_tables.specs.Matrix.{input_number, input_numbers}
use Rattle.fab_tables.proofs.matrix.numbers_of.Given as goal

abbrev pub invariant-loop-input : goal.invariant-loop-input
invariant-loop-input l = record {
  so_far : l.numbers.items ≡ input_numbers l.names (take l.input-index l.inputs);
  known : list_all (λ name. is_some (input_number l.names name)) (take l.input-index l.inputs) ≡ true;
}
