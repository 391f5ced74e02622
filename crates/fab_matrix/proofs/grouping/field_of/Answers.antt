use Rattle.std.proofs.Common.{◌≡◌, ◌∙◌, ap, nat_eq, not, get_or, position, unwrap_or}
use Rattle.std.specs.List.{position_or_len}
use Rattle.std.proofs.lemmas.List.Sums.{prefix_len-le-length}
use Rattle.fab_matrix.proofs.Groups.{place_of}
use Rattle.fab_matrix.proofs.grouping.field_of.Goals as goal

pub returns-clause-low : goal.returns-clause-low
returns-clause-low c =
    let keys = c.args.order.now.keys in
    let output = c.args.output in
    let place = position_or_len (λ k. nat_eq k output) keys in
    let found : c.unwrap_or-place.result ≡ place =
    c.unwrap_or-place.ensures
    ∙ ap (λ o. unwrap_or o c.len.result) c.get_index_of.ensures.index
    ∙ ap (unwrap_or (position (nat_eq output) keys)) c.len.ensures.len
    ∙ place_of output keys in
    ap (λ at. get_or c.args.lows.now at 0) found ∙ c.requires.lows place (prefix_len-le-length (λ k. not (nat_eq k output)) keys)
