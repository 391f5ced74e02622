use Rattle.std.proofs.Common.{get_or}
use Rattle.std.proofs.lemmas.Option.{slice_get-get_or}
use Rattle.fab_phases.proofs.Enabling.{no_enable}
use Rattle.fab_phases.proofs.enables.look.Goals as goal

pub value_of-requires-clause-fit : goal.value_of-requires-clause-fit
value_of-requires-clause-fit c =
    let enable = get_or c.args.enables.now c.args.number no_enable in
    c.requires.enables.fit c.args.number enable (slice_get-get_or c.args.enables.now c.args.number no_enable c.requires.within)
