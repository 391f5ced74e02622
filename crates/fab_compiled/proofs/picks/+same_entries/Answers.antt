use Rattle.std.proofs.Common.{◌≡◌, ◌-◌, ◌<◌, length, sym, ap, ◌∙◌, subst, arith}
use Rattle.fab_compiled.specs.declared.picks.Table.{Table}
use Rattle.fab_compiled.specs.inner.Picks.{evens_of, odds_of, IsTableBelow}
use Rattle.fab_compiled.proofs.Picking.{room_below, evens_below, odds_below, halves_same, same_by}
use Rattle.fab_compiled.proofs.picks.+same_entries.Goals as goal

pub evens-requires-clause-small : goal.evens-requires-clause-small
evens-requires-clause-small t c =
    let room = room_below c.args.left (length c.args.view.now.leads.now) c.requires.left (omega (arith, c.if-left-eq0.false)) in
    omega (arith, room, c.requires.few)

pub evens-requires-2-clause-small : goal.evens-requires-2-clause-small
evens-requires-2-clause-small t c =
    let room = room_below c.args.right (length c.args.view.now.leads.now) c.requires.right (omega (arith, c.if-left-eq0.false, c.requires.sizes)) in
    omega (arith, room, c.requires.few)

pub same_entries-requires : goal.same_entries-requires
same_entries-requires t c =
    let some : 0 < c.args.left.size = omega (arith, c.if-left-eq0.false) in
    let there : 0 < c.args.right.size = omega (arith, some, c.requires.sizes) in
    let size : c.evens.result.size ≡ c.args.left.size - 1 = ap (λ (x : Table). x.size) c.evens.ensures in
    let other : c.evens-2.result.size ≡ c.args.right.size - 1 = ap (λ (x : Table). x.size) c.evens-2.ensures in (
      first_of (omega (arith, some, size, c.decreases), search (arith, some, size, c.decreases), grind (arith, some, size, c.decreases)),
      (
        size ∙ ap (λ n. n - 1) c.requires.sizes ∙ sym other,
        (
          subst (IsTableBelow (length c.args.view.now.leads.now)) (sym c.evens.ensures) (evens_below c.args.left (length c.args.view.now.leads.now) c.requires.left some),
          (
            subst (IsTableBelow (length c.args.view.now.leads.now)) (sym c.evens-2.ensures) (evens_below c.args.right (length c.args.view.now.leads.now) c.requires.right there),
            (c.requires.view, c.requires.few),
          ),
        ),
      ),
    )

pub odds-requires-clause-small : goal.odds-requires-clause-small
odds-requires-clause-small t c =
    let room = room_below c.args.left (length c.args.view.now.leads.now) c.requires.left (omega (arith, c.if-left-eq0.false)) in
    omega (arith, room, c.requires.few)

pub odds-requires-then-same_entries-clause-small : goal.odds-requires-then-same_entries-clause-small
odds-requires-then-same_entries-clause-small t c =
    let room = room_below c.args.right (length c.args.view.now.leads.now) c.requires.right (omega (arith, c.if-left-eq0.false, c.requires.sizes)) in
    omega (arith, room, c.requires.few)

pub same_entries-requires-then-same_entries : goal.same_entries-requires-then-same_entries
same_entries-requires-then-same_entries t c =
    let some : 0 < c.args.left.size = omega (arith, c.if-left-eq0.false) in
    let there : 0 < c.args.right.size = omega (arith, some, c.requires.sizes) in
    let size : c.odds.result.size ≡ c.args.left.size - 1 = ap (λ (x : Table). x.size) c.odds.ensures in
    let other : c.odds-then-same_entries.result.size ≡ c.args.right.size - 1 = ap (λ (x : Table). x.size) c.odds-then-same_entries.ensures in (
      first_of (omega (arith, some, size, c.decreases), search (arith, some, size, c.decreases), grind (arith, some, size, c.decreases)),
      (
        size ∙ ap (λ n. n - 1) c.requires.sizes ∙ sym other,
        (
          subst (IsTableBelow (length c.args.view.now.leads.now)) (sym c.odds.ensures) (odds_below c.args.left (length c.args.view.now.leads.now) c.requires.left some),
          (
            subst (IsTableBelow (length c.args.view.now.leads.now)) (sym c.odds-then-same_entries.ensures)
                (odds_below c.args.right (length c.args.view.now.leads.now) c.requires.right there),
            (c.requires.view, c.requires.few),
          ),
        ),
      ),
    )

pub returns-then-same_entries : goal.returns-then-same_entries
returns-then-same_entries t c = λ both.
    let some : 0 < c.args.left.size = omega (arith, c.if-left-eq0.false) in
    halves_same c.args.view.now.terns.now c.args.view.now.leads.now c.args.left c.args.right c.requires.sizes some
    (same_by c.args.view.now.terns.now c.args.view.now.leads.now (evens_of c.args.left) (evens_of c.args.right) c.evens.result c.evens-2.result c.evens.ensures c.evens-2.ensures
    (c.same_entries.ensures c.if-same_entries.true))
    (same_by c.args.view.now.terns.now c.args.view.now.leads.now (odds_of c.args.left) (odds_of c.args.right) c.odds.result c.odds-then-same_entries.result
    c.odds.ensures c.odds-then-same_entries.ensures (c.same_entries-then-same_entries.ensures both))
