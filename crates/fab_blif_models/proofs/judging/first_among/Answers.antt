use Rattle.std.proofs.Common.{ℕ, List, Bor, ◌||◌}
use Rattle.fab_lines.specs.Items.{is_among}
use Rattle.fab_bits.specs.Keys.{key_names}
use Rattle.fab_blif_models.proofs.Sets.{find_here, find_later}
use Rattle.fab_blif_models.proofs.judging.first_among.Goals as goal

pub returns-then-is_in_either : goal.returns-then-is_in_either
returns-then-is_in_either c =
    find_here (λ (name : List ℕ). is_among (key_names c.args.first.now.keys) name || is_among (key_names c.args.second.now.keys) name) (λ (w : Bor (List ℕ)). w.now) c.args.names.now c.loop-name.name-index _ c.is_in_either.result
    c.loop-name-test.true c.is_in_either.ensures c.if-is_in_either.true c.loop-name.invariant

pub loop-name-preserved : goal.loop-name-preserved
loop-name-preserved c =
    find_later (λ (name : List ℕ). is_among (key_names c.args.first.now.keys) name || is_among (key_names c.args.second.now.keys) name) (λ (w : Bor (List ℕ)). w.now) c.args.names.now c.loop-name.name-index _ c.is_in_either.result
    c.loop-name-test.true c.is_in_either.ensures c.if-is_in_either.false c.loop-name.invariant
