use Rattle.std.proofs.Common.{ℕ, List, ap, ◌∙◌}
use Rattle.fab_blif.specs.Judged.{is_among}
use Rattle.fab_blif.proofs.Judging.{insert_among}
use Rattle.fab_blif.proofs.judge.put_net.Goals as goal

pub returns : goal.returns
returns c = λ (other : ℕ). ap (λ (keys : List ℕ). is_among keys other) c.in_ok-insert_full.ensures.keys ∙ insert_among c.args.nets.now.keys c.args.net other
