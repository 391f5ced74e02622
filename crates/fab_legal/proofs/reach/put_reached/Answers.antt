use Rattle.std.proofs.Common.{◌<◌, ℕ, List, get_or, length, nat_eq, ap, ◌∙◌, arith}
use Rattle.std.specs.List.{position_or_len}
use Rattle.indexmap.specs.IndexSet.{insert_all}
use Rattle.fab_bits.specs.Keys.{group_at}
use Rattle.fab_legal.proofs.ReachSearch.{search_begins, search_next, search_ends}
use Rattle.fab_legal.proofs.reach.put_reached.Goals as goal

pub loop-next-init : goal.loop-next-init
loop-next-init c =
    search_begins c.args._edges.now c.args.lefts.now.keys c.requires.lefts c.args.entered.now.keys c.put_roots.new.set.keys c.requires.entered c.in_ok-put_roots.ensures

pub loop-next-preserved : goal.loop-next-preserved
loop-next-preserved c =
    let found = c.loop-next.set.keys in
    let lefts = c.args.lefts.now.keys in
    let groups = c.args.groups.now in
    let next = c.loop-next.next in
    let inside : next < length found = omega (arith, c.loop-next-test.true, c.len.ensures.len) in
    let more =
    c.in_ok-follow.ensures
    ∙ ap (λ (ns : List ℕ). insert_all nat_eq found (group_at groups (position_or_len (nat_eq (get_or ns next 0)) lefts))) c.as_slice.ensures.keys in
    (search_next c.args._edges.now lefts groups found c.follow.new.set.keys next c.requires.lefts c.requires.len c.requires.groups c.loop-next.invariant inside more).0

pub loop-next-smaller : goal.loop-next-smaller
loop-next-smaller c =
    let found = c.loop-next.set.keys in
    let lefts = c.args.lefts.now.keys in
    let groups = c.args.groups.now in
    let next = c.loop-next.next in
    let inside : next < length found = omega (arith, c.loop-next-test.true, c.len.ensures.len) in
    let more =
    c.in_ok-follow.ensures
    ∙ ap (λ (ns : List ℕ). insert_all nat_eq found (group_at groups (position_or_len (nat_eq (get_or ns next 0)) lefts))) c.as_slice.ensures.keys in
    (search_next c.args._edges.now lefts groups found c.follow.new.set.keys next c.requires.lefts c.requires.len c.requires.groups c.loop-next.invariant inside more).1

pub returns : goal.returns
returns c = search_ends c.args._edges.now c.loop-next.set.keys c.loop-next.next c.loop-next.invariant (omega (arith, c.loop-next-test.false, c.len.ensures.len))
