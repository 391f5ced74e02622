use Rattle.std.proofs.Common.{[], ◌∷◌, ◌++◌, codes}
use Rattle.std.proofs.lemmas.Result.{on_ok_weaker}
use Rattle.fab_sample.proofs.Steps.{put_more}
use Rattle.fab_sampling.specs.Summary.{cost_line, status_line}
use Rattle.fab_sampling.proofs.printing.put_mapped.Goals as goal

pub returns : goal.returns
returns c =
    let start = c.args.out.now.items in
    let first = status_line 0 ∷ [] in
    let second = cost_line c.args.cost c.args.edges ∷ [] in
    let third = codes "cycles 16 agree" ∷ [] in
    let two = put_more start c.put_status.new.out.items c.put_cost.new.out.items first second c.in_ok-put_status.ensures c.in_ok-put_cost.ensures in
    on_ok_weaker c.put.result (λ put. put_more start c.put_cost.new.out.items c.put.new.out.items (first ++ second) third two put) c.put.ensures
