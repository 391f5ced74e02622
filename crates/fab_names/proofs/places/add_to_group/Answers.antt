use Rattle.std.proofs.Common.{◌<◌, arith, length}
use Rattle.fab_names.proofs.Keys.{put_group}
use Rattle.fab_names.proofs.places.add_to_group.Goals as goal

pub returns : goal.returns
returns c =
    let groups = c.args.groups.now.items in
    let within : c.args.slot < length groups = omega arith in
    put_group groups c.args.slot c.args.place c.index_mut.result.now c.push.new.self within c.index_mut.ensures.value c.in_ok-push.ensures.items
