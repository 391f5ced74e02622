use Rattle.std.proofs.Common.{◌≡◌}
use Rattle.std.proofs.lemmas.List.Elements.{All-nil}
use Rattle.fab_select.specs.declared.pair.Pair.{Pair}
use Rattle.fab_partial.proofs.uses.has_pair.Goals as goal

pub loop-pair-init : goal.loop-pair-init
loop-pair-init c = All-nil (λ (pair : Pair). pair ≡ record { output = c.args.output; input = c.args.input } → ⊥)
