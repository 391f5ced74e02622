use Rattle.std.proofs.Common.{◌∙◌, ap, length, Option, ℕ}
use Rattle.std.specs.Option.{unwrap_or}
use Rattle.fab_blif.proofs.Numbers.{place_of_net, place_or_len, same_net}
use Rattle.fab_blif.proofs.clocks.number_or_len.Goals as goal

pub returns : goal.returns
returns c =
    let keys = c.args.nets.now.keys in
    let net = c.args.net.now in
    c.unwrap_or.ensures
    ∙ ap (unwrap_or c.get_index_of.result) c.len.ensures.len
    ∙ ap (λ (place : Option ℕ). unwrap_or place (length keys)) c.get_index_of.ensures.index
    ∙ place_or_len (same_net net) keys
    ∙ place_of_net net keys
