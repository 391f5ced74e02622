use Rattle.std.proofs.Common.{◌≡◌, ◌<◌, ◌≤◌, ℕ, List, length, get_or, ap, sym, subst, ◌∙◌, arith}
use Rattle.std.proofs.lemmas.List.{get_or_past, get_or_default}
use Rattle.fab_model.specs.Tiles.{PlainTile, bel_field}
use Rattle.fab_model.proofs.BelFields.{field_at}
use Rattle.fab_model.proofs.tiles.TileType.bel_field.Goals as goal

pub returns-then-bel-len : goal.returns-then-bel-len
returns-then-bel-len c =
    let i = c.self.inside in
    let tile : PlainTile = record { name = i.name; rows = i.rows.items; bels = i.bels.items; pairs = i.pairs.items; table = i.table } in
    let within : c.args.bel < length i.bel_fields.items = omega (arith, c.if-bel-len.true, c.len.ensures) in
    subst (λ (t : PlainTile). c.index.result.now ≡ bel_field t c.args.bel) c.self.view_is
    (c.index.ensures ∙ get_or_default i.bel_fields.items c.args.bel c.index.result.now (0, 0) within
    ∙ ap (λ (fields : List (ℕ × ℕ)). get_or fields c.args.bel (0, 0)) c.self.invariant.bels_laid_out ∙ field_at tile.bels c.args.bel)

pub returns-else-bel-len : goal.returns-else-bel-len
returns-else-bel-len c =
    let i = c.self.inside in
    let tile : PlainTile = record { name = i.name; rows = i.rows.items; bels = i.bels.items; pairs = i.pairs.items; table = i.table } in
    let past : length i.bel_fields.items ≤ c.args.bel = omega (arith, c.if-bel-len.false, c.len.ensures) in
    subst (λ (t : PlainTile). (0, 0) ≡ bel_field t c.args.bel) c.self.view_is
    (sym (get_or_past i.bel_fields.items c.args.bel (0, 0) past)
    ∙ ap (λ (fields : List (ℕ × ℕ)). get_or fields c.args.bel (0, 0)) c.self.invariant.bels_laid_out ∙ field_at tile.bels c.args.bel)
