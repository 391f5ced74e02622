use Rattle.std.proofs.Common.{◌≡◌, ◌*◌, map, drop}
use Rattle.std.specs.List.{flat_map}
use Rattle.fab_lines.specs.Numbers.{capped}
use Rattle.fab_tables.specs.Cells.{choice_parts, product_size}
use Rattle.fab_tables.proofs.expansion.count_choices.Given as goal

abbrev pub invariant-loop-choice : goal.invariant-loop-choice
invariant-loop-choice l = record {
  fits : l.count ≡ capped l.count;
  so_far : capped (l.count * product_size (flat_map choice_parts (map (λ choice. choice.now) (drop l.choice-index l.choices))))
      ≡ capped (l.times * product_size (flat_map choice_parts (map (λ choice. choice.now) l.choices)));
}
