use Rattle.std.proofs.Common.{length, ap, arith}
use Rattle.std.proofs.lemmas.Result.{err_from_is_err_and}
use Rattle.fab_flow.proofs.PortLengths.{longer_with_port}
use Rattle.fab_flow.proofs.SerialMade.{chain_refused, long_refused}
use Rattle.fab_flow.proofs.serial.text_with_port.Goals as goal

pub returns-clause-readable : goal.returns-clause-readable
returns-clause-readable c =
    let longer = longer_with_port c.args.fabric.now c.is_well_made.ensures.is_fabric.few_rows in
    let bytes = ap length c.in_ok-text.ensures.printed in
    omega (arith, longer, bytes, c.in_ok-text.ensures.length, c.in_ok-check_length.ensures.short)

pub returns-in_err-check_frames-clause-refused : goal.returns-in_err-check_frames-clause-refused
returns-in_err-check_frames-clause-refused c =
    let residual = err_from_is_err_and c.from_residual.result c.from_residual.ensures.1 in
    rw (residual.1, residual.2)
    (chain_refused c.args.name.now c.args.fabric.now c.in_err-check_frames.field-0.0 c.in_err-check_frames.ensures.chain c.in_err-check_frames.ensures.refused)

pub returns-in_err-check_length-clause-refused : goal.returns-in_err-check_length-clause-refused
returns-in_err-check_length-clause-refused c =
    let residual = err_from_is_err_and c.from_residual-in_err-check_length.result c.from_residual-in_err-check_length.ensures.1 in
    rw (residual.1, residual.2)
    (long_refused c.args.name.now c.args.fabric.now c.in_ok-text.text.unloaded c.in_err-check_length.field-0.0 c.in_ok-check_frames.ensures.frames
    c.in_ok-text.ensures.length c.in_err-check_length.ensures.long)
