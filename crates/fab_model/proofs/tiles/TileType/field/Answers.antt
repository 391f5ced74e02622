use Rattle.std.proofs.Common.{◌≡◌, sym, ap, subst}
use Rattle.std.specs.List.{list_any}
use Rattle.std.proofs.Common.{◌∙◌, nat_eq}
use Rattle.fab_model.specs.Tiles.{PlainTile, output_field}
use Rattle.fab_model.proofs.LaidOut.{no_field, empty_field, full_field}
use Rattle.fab_model.proofs.tiles.TileType.field.Goals as goal

pub returns-in_default : goal.returns-in_default
returns-in_default c =
    let tile : PlainTile =
    record { name = c.self.inside.name; rows = c.self.inside.rows.items; bels = c.self.inside.bels.items; pairs = c.self.inside.pairs.items; table = c.self.inside.table } in
    subst (λ (t : PlainTile). (0, 0) ≡ output_field t c.args.output) c.self.view_is
    (no_field tile c.args.output (ap (list_any (nat_eq c.args.output)) (sym c.self.invariant.laid_out.in_turn) ∙ sym c.in_default.ensures.found))

pub returns-then-width-eq0 : goal.returns-then-width-eq0
returns-then-width-eq0 c =
    let tile : PlainTile =
    record { name = c.self.inside.name; rows = c.self.inside.rows.items; bels = c.self.inside.bels.items; pairs = c.self.inside.pairs.items; table = c.self.inside.table } in
    subst (λ (t : PlainTile). (0, 0) ≡ output_field t c.args.output) c.self.view_is
    (empty_field tile c.self.inside.fields.order.keys c.self.inside.fields.fields.items c.self.inside.fields.bits c.self.invariant.laid_out c.args.output c.in-Some.place
    c.in-Some.ensures.index c.index.result.now c.index.ensures c.if-width-eq0.true)

pub returns-else-width-eq0 : goal.returns-else-width-eq0
returns-else-width-eq0 c =
    let tile : PlainTile =
    record { name = c.self.inside.name; rows = c.self.inside.rows.items; bels = c.self.inside.bels.items; pairs = c.self.inside.pairs.items; table = c.self.inside.table } in
    subst (λ (t : PlainTile). c.index.result.now ≡ output_field t c.args.output) c.self.view_is
    (full_field tile c.self.inside.fields.order.keys c.self.inside.fields.fields.items c.self.inside.fields.bits c.self.invariant.laid_out c.args.output c.in-Some.place
    c.in-Some.ensures.index c.index.result.now c.index.ensures c.if-width-eq0.false)
