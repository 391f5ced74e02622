use Rattle.std.proofs.Common.{◌≡◌, map, filter}
use Rattle.fab_lines.specs.Items.{is_filled}
use Rattle.fab_blif_models.proofs.words.words_of.Given as goal

abbrev pub invariant-loop-word : goal.invariant-loop-word
invariant-loop-word l = map (λ s. s.now) l.words.items ≡ filter is_filled (map (λ s. s.now) l.yielded)
