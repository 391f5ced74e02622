use Rattle.std.proofs.Common.{◌+◌, true, false, Option, length, sym, ap, ◌∙◌, subst}
use Rattle.fab_lines.specs.Numbers.{capped}
use Rattle.fab_names.specs.Names.{PlainFamily, PlainNames, names_of, side_families, with_sides}
use Rattle.fab_blocks.specs.Blocks.{PlainBlock, IsBlock, names, plain_names, source_of, with_row}
use Rattle.fab_blocks.proofs.Fine.{kept_row}
use Rattle.fab_blocks.proofs.block.Block.push_wire.Goals as goal

pub invariant_of-self-in_err-push-2 : goal.invariant_of-self-in_err-push-2
invariant_of-self-in_err-push-2 c =
    let block : PlainBlock = record { name = c.self.inside.name; rows = c.self.inside.rows.items; bels = c.self.inside.bels.items; matrix = c.self.inside.matrix } in
    let row = c.args.wire in
    let counted = c.more-count.ensures (length (names block) + length (names_of (side_families c.in_ok-source.source))) (c.more.ensures (length (names block)) c.self.invariant.counted)
    ∙ ap (λ (s : Option PlainFamily). capped (length (names block) + length (names_of (side_families s)) + length (names_of (side_families c.in_ok-dest.dest)))) c.in_ok-source.ensures
    ∙ ap (λ (d : Option PlainFamily). capped (length (names block) + length (names_of (side_families (source_of row))) + length (names_of (side_families d)))) c.in_ok-dest.ensures in
    let is = subst (λ (b : PlainBlock). IsBlock (with_row b row)) (sym c.self.view_is) c.requires in
    kept_row block row c.push.new.self.items c.push-2.new.self false c.more-count.result c.in_ok-push.ensures.items is counted (λ h. absurd cc)

pub invariant_of-self-2 : goal.invariant_of-self-2
invariant_of-self-2 c =
    let block : PlainBlock = record { name = c.self.inside.name; rows = c.self.inside.rows.items; bels = c.self.inside.bels.items; matrix = c.self.inside.matrix } in
    let row = c.args.wire in
    let counted = c.more-count.ensures (length (names block) + length (names_of (side_families c.in_ok-source.source))) (c.more.ensures (length (names block)) c.self.invariant.counted)
    ∙ ap (λ (s : Option PlainFamily). capped (length (names block) + length (names_of (side_families s)) + length (names_of (side_families c.in_ok-dest.dest)))) c.in_ok-source.ensures
    ∙ ap (λ (d : Option PlainFamily). capped (length (names block) + length (names_of (side_families (source_of row))) + length (names_of (side_families d)))) c.in_ok-dest.ensures in
    let is = subst (λ (b : PlainBlock). IsBlock (with_row b row)) (sym c.self.view_is) c.requires in
    let same = c.in_ok-push-2.ensures
    ∙ ap (λ (k : PlainNames). with_sides k c.in_ok-source.source c.in_ok-dest.dest) (c.self.invariant.same c.if-not-self.false)
    ∙ ap (λ (s : Option PlainFamily). with_sides (plain_names block) s c.in_ok-dest.dest) c.in_ok-source.ensures
    ∙ ap (λ (d : Option PlainFamily). with_sides (plain_names block) (source_of row) d) c.in_ok-dest.ensures in
    kept_row block row c.push.new.self.items c.push-2.new.self true c.more-count.result c.in_ok-push.ensures.items is counted (λ h. same)
