use Rattle.std.proofs.Common.{◌≡◌, ℕ, ◌-◌, ◌∷◌, ◌++◌, List, drop, get_or, length, map, take, ◌∙◌, ap, sym, append_assoc}
use Rattle.std.specs.List.{flat_map}
use Rattle.std.proofs.lemmas.Result.{on_ok_weaker}
use Rattle.fab_sample.specs.declared.net.Net.TheVariants as variants
use Rattle.fab_sample.specs.Netlists.{net_name}
use Rattle.fab_sample.proofs.Steps.{names_of_first}
use Rattle.fab_sample.proofs.net.put_names.Goals as goal

pub returns-in_ok-put_net-in-len1-up : goal.returns-in_ok-put_net-in-len1-up
returns-in_ok-put_net-in-len1-up c =
    let start = c.args.out.now.items in
    let nets = c.args.nets.now in
    let other = variants.Input 0 in
    let first = net_name (get_or nets 0 other) in
    let further : List ℕ = flat_map (λ part. 32 ∷ part) (map net_name (take (length nets - 1) (drop 1 nets))) in
    on_ok_weaker c.put_further_names.result (λ (put : c.put_further_names.new.out.items ≡ c.put_net.new.out.items ++ further).
    put
    ∙ ap (λ (l : List ℕ). l ++ further) c.in_ok-put_net-in-len1-up.ensures
    ∙ append_assoc start first further
    ∙ ap (λ (l : List ℕ). start ++ l) (sym (names_of_first nets other c.in-len1-up.len_at_least))) c.put_further_names.ensures
