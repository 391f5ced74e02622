use Rattle.std.proofs.Common.{◌≡◌, ℕ, List, Contains, Some, sym, ap, ◌∙◌, subst, arith}
use Rattle.std.proofs.lemmas.Bool.{false≢true, ltb-true}
use Rattle.fab_select.specs.declared.pair.Pair.{Pair}
use Rattle.fab_implementation.specs.fab_model.specs.Tiles.{PlainTile}
use Rattle.fab_implementation.specs.fab_model.specs.Grid.{tile_at}
use Rattle.fab_partial.specs.Columns.{lies_within}
use Rattle.fab_partial.proofs.Edges.{from_within, to_within, used_at, used_by, used_in}
use Rattle.fab_partial.proofs.uses.is_used.Goals as goal
use Rattle.fab_partial.proofs.uses.is_used.Goals.{then-from-wires-via-then-from-wires, then-from-wires-via-else-from-wires+then-to-wires, then-x-to_x-via-then-x-to_x, then-x-to_x-via-else-x-to_x+then-y-to_y, then-x-to_x-via-else-x-to_x+else-y-to_y+then-not-is_within}

-- a wire that the fabric lacks
pub returns-then-from-wires : goal.returns-then-from-wires
returns-then-from-wires c =
    let there = lies_within c.args.first c.args.last in
    let tiles = c.is_well_made.ensures.are_tiles in (
      λ yes. absurd (false≢true yes),
      λ used. elim c.then-from-wires.branch [
        | then-from-wires-via-then-from-wires w ↦ absurd (omega (arith, from_within c.args.fabric.now there c.args.edge tiles used, c.wires.ensures, w.if-from-wires.true))
        | then-from-wires-via-else-from-wires+then-to-wires w ↦
            absurd (omega (arith, to_within c.args.fabric.now there c.args.edge tiles used, (w.wires-else-from-wires).ensures, w.if-to-wires.true))
      ],
    )

-- two places, or a column that is not meant
pub returns-then-x-to_x : goal.returns-then-x-to_x
returns-then-x-to_x c =
    let there = lies_within c.args.first c.args.last in (
      λ yes. absurd (false≢true yes),
      λ used.
          let at = used_at c.args.fabric.now there c.args.edge c.spot-x.result.0 c.spot-x.result.1 c.spot-x.result.2 (c.spot-to_x).result.0 (c.spot-to_x).result.1 (c.spot-to_x).result.2
          c.spot-x.ensures.number c.spot-x.ensures.index (c.spot-to_x).ensures.number (c.spot-to_x).ensures.index c.is_well_made.ensures.are_tiles used in
          elim c.then-x-to_x.branch [
            | then-x-to_x-via-then-x-to_x w ↦ absurd (w.if-x-to_x.true at.x_same)
            | then-x-to_x-via-else-x-to_x+then-y-to_y w ↦ absurd (w.if-y-to_y.true at.y_same)
            | then-x-to_x-via-else-x-to_x+else-y-to_y+then-not-is_within w ↦ absurd (false≢true (sym w.if-not-is_within.true ∙ w.is_within.ensures ∙ at.within))
          ],
    )

-- the output takes bits, so the pair decides
pub returns-then-field-gt0 : goal.returns-then-field-gt0
returns-then-field-gt0 c =
    let there = lies_within c.args.first c.args.last in
    let fabric = c.args.fabric.now in
    let x = c.spot-x.result.0 in
    let y = c.spot-x.result.1 in
    let output = (c.spot-to_x).result.2 in
    let pair : Pair = record { output = output; input = c.spot-x.result.2 } in
    let tile : PlainTile = c.in-Some.tile.now in
    let tile_is : tile_at fabric x y ≡ Some tile = sym c.in-Some.ensures.found in
    let width = ap (λ (f : ℕ × ℕ). f.1) c.field.ensures in (
      λ yes. used_by fabric there c.args.edge x y c.spot-x.result.2 (c.spot-to_x).result.0 (c.spot-to_x).result.1 output
          c.spot-x.ensures.number c.spot-x.ensures.index (c.spot-to_x).ensures.number (c.spot-to_x).ensures.index
          (record {
            x_same = c.if-x-to_x.false;
            y_same = c.if-y-to_y.false;
            within = sym c.is_within.ensures ∙ c.if-not-is_within.false;
            tile = tile;
            tile_is = tile_is;
            some = omega (arith, c.if-field-gt0.true, width);
            listed = subst (λ (pairs : List Pair). Contains pairs pair) c.pairs.ensures.pairs (c.has_pair.ensures.0 yes);
          }),
      λ used.
          let both = used_in fabric there c.args.edge x y c.spot-x.result.2 (c.spot-to_x).result.0 (c.spot-to_x).result.1 output
          c.spot-x.ensures.number c.spot-x.ensures.index (c.spot-to_x).ensures.number (c.spot-to_x).ensures.index c.is_well_made.ensures.are_tiles tile tile_is used in
          c.has_pair.ensures.1 (subst (λ (pairs : List Pair). Contains pairs pair) (sym c.pairs.ensures.pairs) both.1),
    )

-- the output takes none
pub returns-else-field-gt0 : goal.returns-else-field-gt0
returns-else-field-gt0 c =
    let there = lies_within c.args.first c.args.last in
    let fabric = c.args.fabric.now in
    let x = c.spot-x.result.0 in
    let y = c.spot-x.result.1 in
    let output = (c.spot-to_x).result.2 in
    let tile : PlainTile = c.in-Some.tile.now in
    let tile_is : tile_at fabric x y ≡ Some tile = sym c.in-Some.ensures.found in
    let width = ap (λ (f : ℕ × ℕ). f.1) c.field.ensures in (
      λ yes. absurd (omega (arith, ltb-true 0 c.field.result.1 yes, c.if-field-gt0.false)),
      λ used.
          let both = used_in fabric there c.args.edge x y c.spot-x.result.2 (c.spot-to_x).result.0 (c.spot-to_x).result.1 output
          c.spot-x.ensures.number c.spot-x.ensures.index (c.spot-to_x).ensures.number (c.spot-to_x).ensures.index c.is_well_made.ensures.are_tiles tile tile_is used in
          absurd (omega (arith, both.0, width, c.if-field-gt0.false)),
    )
