use Rattle.std.proofs.Common.{ℕ, List, Bor, Global, ap, ◌∙◌}
use Rattle.fab_bits.specs.Keys.{key_names}
use Rattle.fab_blif_models.proofs.Sets.{insert_of_names, insert_step}
use Rattle.fab_blif_models.proofs.context.insert_names.Goals as goal

pub loop-name-preserved : goal.loop-name-preserved
loop-name-preserved c =
    let old = c.loop-name.set.keys in
    insert_step (λ (w : Bor (List ℕ)). w.now) (key_names c.args.set.now.keys) (key_names old) (key_names c.insert.new.self.keys) c.args.names.now c.loop-name.name-index _ c.in_ok-key.key.items
    c.loop-name.invariant (ap (key_names {A = Global}) c.in_ok-insert.ensures.keys ∙ insert_of_names old c.in_ok-key.key) c.in_ok-key.ensures.items c.loop-name-test.true
