use Rattle.std.proofs.Common.{ℕ, ◌∙◌, ap, false}
use Rattle.fab_syntax.specs.declared.tree.Port.{Port}
use Rattle.fab_matrix.specs.fab_meaning.specs.Ports.{scalar}
use Rattle.fab_gen_tile.specs.Names.{begin_name}
use Rattle.fab_gen_tile.proofs.Counted.{none_behind, items_more}
use Rattle.fab_gen_tile.proofs.borders.push_begin_ports.Goals as goal

pub loop-bit-init : goal.loop-bit-init
loop-bit-init c = none_behind c.args.ports.now.items (λ bit. scalar false (begin_name c.args.row.now bit))

pub loop-bit-preserved : goal.loop-bit-preserved
loop-bit-preserved c =
    let f : ℕ → Port = λ bit. scalar false (begin_name c.args.row.now bit) in
    c.in_ok-push.ensures.items
    ∙ items_more c.loop-bit.bit f c.loop-bit.ports.items c.args.ports.now.items _ c.loop-bit.invariant
    (c.scalar.ensures ∙ ap (scalar false) c.in_ok-name.ensures)
