use Rattle.std.proofs.Common.{◌≡◌, ◌+◌, ◌-◌, ◌<◌, false, length, slice_get, MatchOption, Some, sym, ap, subst, arith}
use Rattle.fab_compiled.specs.declared.picks.Table.{Table}
use Rattle.fab_compiled.specs.inner.Picks.{evens_of, odds_of, IsPickedAlike, IsTableBelow}
use Rattle.fab_compiled.proofs.Picking.{none_then, room_below, evens_below, odds_below, same_by, last_picked, same_picked, both_picked}
use Rattle.fab_compiled.proofs.picks.+unmarked_index.Goals as goal

pub returns-then-table-eq0 : goal.returns-then-table-eq0
returns-then-table-eq0 t c =
    last_picked c.args.view.now.terns.now c.args.view.now.leads.now c.args.marks.now c.args.table c.args.first c.args.index.now c.args.bit c.requires.made c.requires.bits
    c.if-table-eq0.true

pub evens-evens-requires-clause-small : goal.evens-evens-requires-clause-small
evens-evens-requires-clause-small t c =
    let room = room_below c.args.table (length c.args.view.now.leads.now) c.requires.table (omega (arith, c.if-table-eq0.false)) in
    omega (arith, room, c.requires.few)

pub odds-odds-requires-clause-small : goal.odds-odds-requires-clause-small
odds-odds-requires-clause-small t c =
    let room = room_below c.args.table (length c.args.view.now.leads.now) c.requires.table (omega (arith, c.if-table-eq0.false)) in
    omega (arith, room, c.requires.few)

pub same_entries-requires-clause-left : goal.same_entries-requires-clause-left
same_entries-requires-clause-left t c =
    subst (IsTableBelow (length c.args.view.now.leads.now)) (sym c.evens-evens.ensures)
    (evens_below c.args.table (length c.args.view.now.leads.now) c.requires.table (omega (arith, c.if-table-eq0.false)))

pub same_entries-requires-clause-right : goal.same_entries-requires-clause-right
same_entries-requires-clause-right t c =
    subst (IsTableBelow (length c.args.view.now.leads.now)) (sym c.odds-odds.ensures)
    (odds_below c.args.table (length c.args.view.now.leads.now) c.requires.table (omega (arith, c.if-table-eq0.false)))

pub overflow_add-bit : goal.overflow_add-bit
overflow_add-bit t c = omega (arith, c.requires.bits, c.requires.wide, c.if-table-eq0.false)

pub unmarked_index-requires : goal.unmarked_index-requires
unmarked_index-requires t c =
    let some : 0 < c.args.table.size = omega (arith, c.if-table-eq0.false) in
    let size : c.evens-evens.result.size ≡ c.args.table.size - 1 = ap (λ (x : Table). x.size) c.evens-evens.ensures in (
      first_of (omega (arith, some, size, c.decreases), search (arith, some, size, c.decreases), grind (arith, some, size, c.decreases)),
      (
        subst (IsTableBelow (length c.args.view.now.leads.now)) (sym c.evens-evens.ensures) (evens_below c.args.table (length c.args.view.now.leads.now) c.requires.table some),
        (
          omega (arith, some, size, c.requires.bits),
          (c.requires.wide, (c.requires.made, (c.requires.view, (c.requires.few, (c.requires.begins, (c.requires.inside, c.requires.marks)))))),
        ),
      ),
    )

pub returns-then-same_entries : goal.returns-then-same_entries
returns-then-same_entries t c =
    let some : 0 < c.args.table.size = omega (arith, c.if-table-eq0.false) in
    let halves = same_by c.args.view.now.terns.now c.args.view.now.leads.now (evens_of c.args.table) (odds_of c.args.table) c.evens-evens.result c.odds-odds.result
    c.evens-evens.ensures c.odds-odds.ensures (c.same_entries.ensures c.if-same_entries.true) in
    none_then c.args.marks.now
    (same_picked c.args.view.now.terns.now c.args.view.now.leads.now c.args.marks.now c.args.table c.args.first c.args.index.now c.args.bit c.requires.made c.requires.bits some halves)
    c.unmarked_index.result
    (subst (λ (x : Table). MatchOption c.unmarked_index.result
    (IsPickedAlike c.args.view.now.terns.now c.args.view.now.leads.now c.args.marks.now x c.args.first c.args.index.now (c.args.bit + 1))
    (λ point. slice_get c.args.marks.now point ≡ Some false))
    c.evens-evens.ensures c.unmarked_index.ensures)

pub overflow_add-bit-2 : goal.overflow_add-bit-2
overflow_add-bit-2 t c = omega (arith, c.requires.bits, c.requires.wide, c.if-table-eq0.false)

pub unmarked_index-requires-2 : goal.unmarked_index-requires-2
unmarked_index-requires-2 t c =
    let some : 0 < c.args.table.size = omega (arith, c.if-table-eq0.false) in
    let size : c.evens-evens.result.size ≡ c.args.table.size - 1 = ap (λ (x : Table). x.size) c.evens-evens.ensures in (
      first_of (omega (arith, some, size, c.decreases), search (arith, some, size, c.decreases), grind (arith, some, size, c.decreases)),
      (
        subst (IsTableBelow (length c.args.view.now.leads.now)) (sym c.evens-evens.ensures) (evens_below c.args.table (length c.args.view.now.leads.now) c.requires.table some),
        (
          omega (arith, some, size, c.requires.bits),
          (c.requires.wide, (c.requires.made, (c.requires.view, (c.requires.few, (c.requires.begins, (c.requires.inside, c.requires.marks)))))),
        ),
      ),
    )

pub overflow_add-bit-in-None : goal.overflow_add-bit-in-None
overflow_add-bit-in-None t c = omega (arith, c.requires.bits, c.requires.wide, c.if-table-eq0.false)

pub unmarked_index-requires-in-None : goal.unmarked_index-requires-in-None
unmarked_index-requires-in-None t c =
    let some : 0 < c.args.table.size = omega (arith, c.if-table-eq0.false) in
    let size : c.odds-odds.result.size ≡ c.args.table.size - 1 = ap (λ (x : Table). x.size) c.odds-odds.ensures in (
      first_of (omega (arith, some, size, c.decreases), search (arith, some, size, c.decreases), grind (arith, some, size, c.decreases)),
      (
        subst (IsTableBelow (length c.args.view.now.leads.now)) (sym c.odds-odds.ensures) (odds_below c.args.table (length c.args.view.now.leads.now) c.requires.table some),
        (
          omega (arith, some, size, c.requires.bits),
          (c.requires.wide, (c.requires.made, (c.requires.view, (c.requires.few, (c.requires.begins, (c.requires.inside, c.requires.marks)))))),
        ),
      ),
    )

pub returns-in-None : goal.returns-in-None
returns-in-None t c =
    let some : 0 < c.args.table.size = omega (arith, c.if-table-eq0.false) in
    let even = subst (λ (x : Table). IsPickedAlike c.args.view.now.terns.now c.args.view.now.leads.now c.args.marks.now x c.args.first c.args.index.now (c.args.bit + 1))
    c.evens-evens.ensures (c.in-None.ensures) in
    none_then c.args.marks.now
    (both_picked c.args.view.now.terns.now c.args.view.now.leads.now c.args.marks.now c.args.table c.args.first c.args.index.now c.args.bit c.requires.made c.requires.bits some
    (c.in_default.ensures) even)
    c.unmarked_index-in-None.result
    (subst (λ (x : Table). MatchOption c.unmarked_index-in-None.result
    (IsPickedAlike c.args.view.now.terns.now c.args.view.now.leads.now c.args.marks.now x c.args.first c.args.index.now (c.args.bit + 1))
    (λ point. slice_get c.args.marks.now point ≡ Some false))
    c.odds-odds.ensures c.unmarked_index-in-None.ensures)
