use Rattle.std.proofs.Common.{rules, ◌<◌, arith, sym, ap, length, get_or, ◌∙◌}
use Rattle.fab_fabric.specs.inner.Index.{has_side}
use Rattle.fab_fabric.proofs.Stepped.{ends_read, nth_within, fits, misfits}
use Rattle.fab_fabric.proofs.fabric.Fabric.fitting_row.Goals as goal

pub offset_bounds-rows-found : goal.offset_bounds-rows-found
offset_bounds-rows-found c =
    let tile = c.in_ok-tile.tile.now in
    let test = has_side c.args.side c.args.row.now.dir in
    let nth =
    ends_read tile c.in_ok-tile.index.now c.args.side c.args.row.now.dir c.ends.result.now c.deref.result.now c.args.number c.in_ok-found.field-0.now c.in_ok-tile.ensures.found.1 c.ends.ensures
    c.deref.ensures.value c.in_ok-found.ensures.lookup.3.0 (c.in_ok-found.ensures.lookup.4 (omega arith) c.in_ok-found.field-0.now) in
    let within : c.in_ok-found.field-0.now < length c.rows.result.now = omega (arith, nth_within test tile.rows c.args.number c.in_ok-found.field-0.now nth, ap length c.rows.ensures.rows) in
    search (rules, within)

pub bounds-rows-found : goal.bounds-rows-found
bounds-rows-found c =
    let tile = c.in_ok-tile.tile.now in
    let test = has_side c.args.side c.args.row.now.dir in
    let nth =
    ends_read tile c.in_ok-tile.index.now c.args.side c.args.row.now.dir c.ends.result.now c.deref.result.now c.args.number c.in_ok-found.field-0.now c.in_ok-tile.ensures.found.1 c.ends.ensures
    c.deref.ensures.value c.in_ok-found.ensures.lookup.3.0 (c.in_ok-found.ensures.lookup.4 (omega arith) c.in_ok-found.field-0.now) in
    omega (arith, nth_within test tile.rows c.args.number c.in_ok-found.field-0.now nth, ap length c.rows.ensures.rows)

pub returns-then-border_bits : goal.returns-then-border_bits
returns-then-border_bits c =
    let tile = c.in_ok-tile.tile.now in
    let nth =
    ends_read tile c.in_ok-tile.index.now c.args.side c.args.row.now.dir c.ends.result.now c.deref.result.now c.args.number c.in_ok-found.field-0.now c.in_ok-tile.ensures.found.1 c.ends.ensures
    c.deref.ensures.value c.in_ok-found.ensures.lookup.3.0 (c.in_ok-found.ensures.lookup.4 (omega arith) c.in_ok-found.field-0.now) in
    misfits c.args.self.now (has_side c.args.side) c.args.row.now c.index-rows-found.result c.args.x c.args.y c.args.number c.in_ok-found.field-0.now tile c.in_ok-tile.ensures.found.0 nth
    (c.index-rows-found.is ∙ ap (λ rows. get_or rows c.in_ok-found.field-0.now c.index-rows-found.result) c.rows.ensures.rows)
    (λ same. c.if-border_bits.true (c.border_bits.ensures ∙ same ∙ sym c.border_bits-2.ensures))

pub returns : goal.returns
returns c =
    let tile = c.in_ok-tile.tile.now in
    let nth =
    ends_read tile c.in_ok-tile.index.now c.args.side c.args.row.now.dir c.ends.result.now c.deref.result.now c.args.number c.in_ok-found.field-0.now c.in_ok-tile.ensures.found.1 c.ends.ensures
    c.deref.ensures.value c.in_ok-found.ensures.lookup.3.0 (c.in_ok-found.ensures.lookup.4 (omega arith) c.in_ok-found.field-0.now) in
    fits c.args.self.now (has_side c.args.side) c.args.row.now c.index-rows-found.result c.args.x c.args.y c.args.number c.in_ok-found.field-0.now tile c.in_ok-tile.ensures.found.0 nth
    (c.index-rows-found.is ∙ ap (λ rows. get_or rows c.in_ok-found.field-0.now c.index-rows-found.result) c.rows.ensures.rows)
    (sym c.border_bits.ensures ∙ c.if-border_bits.false ∙ c.border_bits-2.ensures)
