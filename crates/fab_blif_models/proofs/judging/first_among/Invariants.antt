use Rattle.std.proofs.Common.{◌≡◌, ◌||◌, map, drop}
use Rattle.std.specs.Prelude.{find}
use Rattle.fab_bits.specs.Keys.{key_names}
use Rattle.fab_lines.specs.Items.{is_among}
use Rattle.fab_blif_models.proofs.judging.first_among.Given as goal

abbrev pub invariant-loop-name : goal.invariant-loop-name
invariant-loop-name l =
    find (λ name. is_among (key_names l.first.keys) name || is_among (key_names l.second.keys) name) (map (λ w. w.now) (drop l.name-index l.names))
    ≡ find (λ name. is_among (key_names l.first.keys) name || is_among (key_names l.second.keys) name) (map (λ w. w.now) l.names)
