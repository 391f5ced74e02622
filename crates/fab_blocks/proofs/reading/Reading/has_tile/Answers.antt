use Rattle.std.proofs.Common.{List, Bool, ◌||◌, ap, ◌∙◌}
use Rattle.std.specs.List.{list_any}
use Rattle.std.specs.Str.{bytes_eq}
use Rattle.fab_model.specs.Tiles.{PlainTile}
use Rattle.fab_blocks.specs.Reading.{PlainReading, open_name}
use Rattle.fab_blocks.proofs.Readings.{among_names}
use Rattle.fab_blocks.proofs.reading.Reading.has_tile.Goals as goal

pub returns : goal.returns
returns c =
    let name = c.args.name.now in
    let types = c.args.self.now.types in
    let ended = c.has_type-ended.ensures ∙ ap (λ (ts : List PlainTile). list_any (λ (tile : PlainTile). bytes_eq name tile.name) ts) c.deref.ensures.value
    ∙ ap (λ (r : PlainReading). list_any (λ (tile : PlainTile). bytes_eq name tile.name) r.types) c.self.view_is in
    c.either.ensures
    ∙ ap (λ (b : Bool). b || c.is_open_name-begun.result) ended
    ∙ ap (λ (b : Bool). list_any (λ (tile : PlainTile). bytes_eq name tile.name) types || b) c.is_open_name-begun.ensures
    ∙ among_names name types (open_name c.args.self.now.begun)
