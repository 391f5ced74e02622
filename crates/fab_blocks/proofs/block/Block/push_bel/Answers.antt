use Rattle.std.proofs.Common.{◌+◌, ℕ, true, false, Some, List, length, sym, ap, ◌∙◌, subst}
use Rattle.fab_lines.specs.Numbers.{capped}
use Rattle.fab_names.specs.Names.{PlainNames, with_pins}
use Rattle.fab_blocks.specs.Blocks.{PlainBlock, IsBlock, names, plain_names, with_bel}
use Rattle.fab_blocks.specs.Rows.{pins_of}
use Rattle.fab_blocks.proofs.Fine.{kept_bel}
use Rattle.fab_blocks.proofs.block.Block.push_bel.Goals as goal

pub invariant_of-self-in_err-push_pins : goal.invariant_of-self-in_err-push_pins
invariant_of-self-in_err-push_pins c =
    let block : PlainBlock = record { name = c.self.inside.name; rows = c.self.inside.rows.items; bels = c.self.inside.bels.items; matrix = c.self.inside.matrix } in
    let bel = c.args.bel in
    let pins = c.in_ok-pins.ensures ∙ ap (pins_of (Some bel.kind)) c.bytes.ensures in
    let counted = c.more_pins-count.ensures (length (names block)) c.self.invariant.counted ∙ ap (λ (l : List (List ℕ)). capped (length (names block) + length l)) (c.deref.ensures.value ∙ pins) in
    let is = subst (λ (b : PlainBlock). IsBlock (with_bel b bel)) (sym c.self.view_is) c.requires in
    kept_bel block bel c.push.new.self.items c.push_pins.new.self false c.more_pins-count.result c.in_ok-push.ensures.items is counted (λ h. absurd cc)

pub invariant_of-self-2 : goal.invariant_of-self-2
invariant_of-self-2 c =
    let block : PlainBlock = record { name = c.self.inside.name; rows = c.self.inside.rows.items; bels = c.self.inside.bels.items; matrix = c.self.inside.matrix } in
    let bel = c.args.bel in
    let pins = c.in_ok-pins.ensures ∙ ap (pins_of (Some bel.kind)) c.bytes.ensures in
    let counted = c.more_pins-count.ensures (length (names block)) c.self.invariant.counted ∙ ap (λ (l : List (List ℕ)). capped (length (names block) + length l)) (c.deref.ensures.value ∙ pins) in
    let is = subst (λ (b : PlainBlock). IsBlock (with_bel b bel)) (sym c.self.view_is) c.requires in
    let same = c.in_ok-push_pins.ensures
    ∙ ap (λ (k : PlainNames). with_pins k c.in_ok-pins.pins.items) (c.self.invariant.same c.if-not-self.false)
    ∙ ap (λ (l : List (List ℕ)). with_pins (plain_names block) l) pins in
    kept_bel block bel c.push.new.self.items c.push_pins.new.self true c.more_pins-count.result c.in_ok-push.ensures.items is counted (λ h. same)
