use Rattle.std.proofs.Common.{◌≡◌, ◌∷◌, [], map, drop}
use Rattle.std.specs.List.{flat_map}
use Rattle.fab_tables.specs.Cells.{choice_parts}
use Rattle.fab_tables.specs.inner.Expanding.{extended_by}
use Rattle.fab_tables.proofs.expansion.with_pieces.Given as goal

abbrev pub invariant-loop-choice : goal.invariant-loop-choice
invariant-loop-choice l = extended_by l.names.items (flat_map choice_parts (map (λ choice. choice.now) (drop l.choice-index l.choices)))
    ≡ extended_by (l.text ∷ []) (flat_map choice_parts (map (λ choice. choice.now) l.choices))
