use Rattle.std.proofs.Common.{◌∙◌, ap, Global}
use Rattle.fab_blif.specs.inner.Walk.{plain_joins}
use Rattle.fab_blif.proofs.Joins.{joins_of_insert}
use Rattle.fab_blif.proofs.model_copy.insert_join.Goals as goal

pub returns : goal.returns
returns c = ap (plain_joins {A = Global}) c.in_ok-insert.ensures.entries ∙ joins_of_insert c.args.joins.now.entries c.args.formal c.args.net
