use Rattle.std.proofs.Common.{◌≡◌, ◌<◌, ◌≤◌, ◌∙◌, length, get_or, slice_get, Some, sym, ap, refl, arith}
use Rattle.std.proofs.lemmas.Option.{same_Some, slice_get_read}
use Rattle.fab_model.specs.fab_kinds.specs.Pins.{input_count}
use Rattle.fab_model.specs.declared.tiles.Bel.{Bel}
use Rattle.fab_model.specs.Tiles.{PlainTile}
use Rattle.fab_model.specs.Wires.{pin_of}
use Rattle.fab_model.proofs.Drives.{output_pin_is_of_bel}
use Rattle.fab_fabric.specs.Bits.{plain_bits}
use Rattle.fab_fabric.specs.Drive.{numbered_drive}
use Rattle.fab_fabric.proofs.Selecting.{matrix_driven, pin_inside, pin_is_output}
use Rattle.fab_fabric.proofs.fabric.Fabric.pin_drive.Goals as goal

pub returns-then-pin-inputs-clause-drive : goal.returns-then-pin-inputs-clause-drive
returns-then-pin-inputs-clause-drive c =
    let fabric = c.args.self.now in
    let tile = c.in-Some.tile.now in
    let has = c.requires.is_wire in
    let same : tile ≡ has.tile = same_Some tile has.tile (sym c.in-Some.ensures.found.0 ∙ has.tile_is) in
    let bel = c.index-bels-bel.result in
    let inside = pin_inside has.tile.bels c.args.bel c.args.pin has.is_wire in
    let read : bel ≡ get_or has.tile.bels c.args.bel bel = c.index-bels-bel.is ∙ ap (λ bels. get_or bels c.args.bel bel) (c.bels.ensures ∙ ap (λ (t : PlainTile). t.bels) same) in
    let there : slice_get has.tile.bels c.args.bel ≡ Some bel = slice_get_read has.tile.bels (length has.tile.bels) c.args.bel bel refl inside read in
    let few : c.args.pin < input_count bel.kind = omega (arith, c.if-pin-inputs.true, c.inputs.ensures, ap (λ (b : Bel). input_count b.kind) c.index-bels-bel.is) in
    matrix_driven fabric (plain_bits c.args.bits.now) c.args.x c.args.y c.args.number (pin_of c.args.bel c.args.pin) c.matrix_drive.result c.requires (pin_is_output has.tile c.args.bel c.args.pin bel there few)
    c.matrix_drive.ensures.drive

pub overflow_cast-site : goal.overflow_cast-site
overflow_cast-site c =
    let tile = c.in-Some.tile.now in
    let has = c.requires.is_wire in
    let same : tile ≡ has.tile = same_Some tile has.tile (sym c.in-Some.ensures.found.0 ∙ has.tile_is) in
    let inside = pin_inside has.tile.bels c.args.bel c.args.pin has.is_wire in
    omega (arith, inside, ap (λ (t : PlainTile). length t.bels) same, c.in-Some.ensures.few_bels)

pub returns-clause-drive : goal.returns-clause-drive
returns-clause-drive c =
    let fabric = c.args.self.now in
    let tile = c.in-Some.tile.now in
    let has = c.requires.is_wire in
    let same : tile ≡ has.tile = same_Some tile has.tile (sym c.in-Some.ensures.found.0 ∙ has.tile_is) in
    let bel = c.index-bels-bel.result in
    let inside = pin_inside has.tile.bels c.args.bel c.args.pin has.is_wire in
    let read : bel ≡ get_or has.tile.bels c.args.bel bel = c.index-bels-bel.is ∙ ap (λ bels. get_or bels c.args.bel bel) (c.bels.ensures ∙ ap (λ (t : PlainTile). t.bels) same) in
    let there : slice_get has.tile.bels c.args.bel ≡ Some bel = slice_get_read has.tile.bels (length has.tile.bels) c.args.bel bel refl inside read in
    let past : input_count bel.kind ≤ c.args.pin = omega (arith, c.if-pin-inputs.false, c.inputs.ensures, ap (λ (b : Bel). input_count b.kind) c.index-bels-bel.is) in
    sym (ap (numbered_drive fabric) (output_pin_is_of_bel fabric (plain_bits c.args.bits.now) c.args.x c.args.y c.args.bel c.args.pin has.tile bel has.tile_is there past))
