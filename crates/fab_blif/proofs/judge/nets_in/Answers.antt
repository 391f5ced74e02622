use Rattle.std.proofs.Common.{ℕ, get_or}
use Rattle.std.proofs.lemmas.List.{get_or_default}
use Rattle.fab_blif.specs.declared.design.Use.{Use}
use Rattle.fab_blif.specs.Judged.{is_among, is_of}
use Rattle.fab_blif.proofs.Judging.{any_step}
use Rattle.fab_blif.proofs.judge.nets_in.Goals as goal

pub loop-used-preserved : goal.loop-used-preserved
loop-used-preserved c =
    let uses = c.args.uses.now in
    let at = c.loop-used.used-index in
    let none : Use = record { line = 0; net = 0 } in
    let used = get_or uses at none in
    λ (net : ℕ). any_step (is_of net) uses at used c.loop-used-test.true (get_or_default uses at none used c.loop-used-test.true)
    (is_among c.loop-used.nets.keys net) (is_among c.put_net.new.nets.keys net) (c.in_ok-put_net.ensures net) (c.loop-used.invariant net)
