use Rattle.std.proofs.Common.{◌++◌, ◌∙◌, ap, ap₂, map, sym, get_or}
use Rattle.std.proofs.lemmas.Result.{on_ok_weaker}
use Rattle.fab_syntax.specs.Plain.{plain_item}
use Rattle.fab_model.specs.Tiles.{counted}
use Rattle.fab_gen_tile.specs.ConfigModule.{latch_at, keeping_items}
use Rattle.fab_gen_tile.proofs.config.push_keeping.Goals as goal

pub returns-in-Frames : goal.returns-in-Frames
returns-in-Frames c =
    let front = map plain_item c.args.items.now.items in
    on_ok_weaker c.push_latches.result
    (λ added.
    added
    ∙ ap₂ (λ bits places. front ++ counted bits (λ bit. latch_at bit (get_or places bit (0, 0)))) c.bits-bits.ensures (c.places.ensures ∙ c.table.ensures)
    ∙ ap (λ mode. front ++ keeping_items mode c.args.tile.now) (sym c.in-Frames.is))
    c.push_latches.ensures
