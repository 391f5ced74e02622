use Rattle.std.proofs.Common.{◌≡◌, List, Some, sym, ap, ◌∙◌, subst, arith}
use Rattle.std.specs.List.{slice_get}
use Rattle.std.proofs.lemmas.Option.{slice_get_within}
use Rattle.fab_phases.specs.declared.flop_groups.FlopGroup.{FlopGroup}
use Rattle.fab_phases.specs.declared.loading.LoadedFlop.{LoadedFlop}
use Rattle.fab_phases.proofs.Grouping.{AreFlopGroupsSoFar, groups_more, rest_fit}
use Rattle.fab_phases.proofs.Lists.{get_left}
use Rattle.fab_phases.proofs.flop_groups.groups_of.Goals as goal

pub group_of-requires-clause-next : goal.group_of-requires-clause-next
group_of-requires-clause-next c =
    let fits = rest_fit c.args.network.now c.args.demand.now c.args.flops.now c.groups.rest.now c.groups.groups.items c.groups.invariant c.requires.flops in
    let first = c.in-Some.ensures in
    (fits 0 c.in-Some.first.now (sym first.value)).next

pub group_of-requires-clause-beside : goal.group_of-requires-clause-beside
group_of-requires-clause-beside c place flop at =
    let front = c.split_at.result.0.now in
    let less = slice_get_within front place flop at in
    let there : slice_get c.groups.rest.now place ≡ Some flop =
    ap (λ (flops : List LoadedFlop). slice_get flops place) c.split_at.ensures.by_index.0 ∙ get_left front c.split_at.result.1.now place flop at in
    c.together-count.ensures.front place flop (omega (arith, c.split_at.ensures.front_len)) there

pub groups-preserved : goal.groups-preserved
groups-preserved c =
    subst (λ (groups : List FlopGroup). AreFlopGroupsSoFar c.args.network.now c.args.demand.now c.args.flops.now c.split_at.result.1.now groups) (sym c.in_ok-push.ensures.items)
    (groups_more c.args.network.now c.args.demand.now c.args.flops.now c.groups.rest.now c.split_at.result.0.now c.split_at.result.1.now c.groups.groups.items
    c.in_ok-group_of.field-0 c.requires.flops c.groups.invariant c.split_at.ensures.by_index.0 c.in_ok-group_of.ensures)
