use Rattle.std.proofs.Common.{◌∷◌, ◌++◌, [], List, ℕ, ◌∙◌, ap}
use Rattle.fab_sample.specs.Lists.{bit_name}
use Rattle.fab_sample.proofs.Steps.{map_behind_more}
use Rattle.fab_sample.proofs.lists.push_bits.Goals as goal

pub loop-bit-preserved : goal.loop-bit-preserved
loop-bit-preserved c =
    map_behind_more (bit_name c.args.row.now) c.loop-bit.bit c.args.names.now.items c.loop-bit.names.items c.push.new.self.items c.loop-bit.invariant
    (c.in_ok-push.ensures.items ∙ ap (λ (name : List ℕ). c.loop-bit.names.items ++ name ∷ []) c.in_ok-numbered.ensures)
