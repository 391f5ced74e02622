use Rattle.std.proofs.Common.{◌<◌, ◌^◌, arith}
use Rattle.std.proofs.lemmas.List.Elements.{All-from_get_or}
use Rattle.fab_simulate_command.proofs.device.words_fit.Goals as goal

pub returns : goal.returns
returns c = All-from_get_or (λ word. word < 2 ^ 32) c.args.words.now 0 (λ place few. omega (arith, c.type_inv.words place))
