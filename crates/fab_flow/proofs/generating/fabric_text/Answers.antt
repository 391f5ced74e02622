use Rattle.std.proofs.Common.{length, ap, arith}
use Rattle.fab_flow.proofs.Lengths.{little_longer}
use Rattle.fab_flow.proofs.generating.fabric_text.Goals as goal

pub returns-clause-readable : goal.returns-clause-readable
returns-clause-readable c =
    let longer = little_longer c.args.fabric.now c.is_well_made.ensures.is_fabric.few_rows in
    let bytes = ap length c.in_ok-text.ensures.printed in
    omega (arith, longer, bytes, c.in_ok-text.ensures.length, c.in_ok-check_length.ensures.short)
