use Rattle.fab_kinds.specs.Pins.{pin_names}
use Rattle.fab_model.specs.Tiles.{wire_name, bel_pin}
use Rattle.fab_kinds.specs.fab_bits.specs.Keys.{key_names}
use Rattle.fab_model.proofs.Inserts.{counted_inserted, none_counted, pin_key}
use Rattle.std.proofs.Common.{ap, ◌∙◌, ◌++◌, List, ℕ}
use Rattle.fab_model.proofs.numbering.insert_bel.Goals as goal

pub loop-pin-init : goal.loop-pin-init
loop-pin-init c = none_counted wire_name (bel_pin c.args.bel.now) (key_names c.args.places.now.keys)

pub loop-pin-preserved : goal.loop-pin-preserved
loop-pin-preserved c =
    counted_inserted wire_name (bel_pin c.args.bel.now) (key_names c.args.places.now.keys) (key_names c.loop-pin.places.keys) (key_names c.insert_key.new.places.keys)
    c.loop-pin.pin c.extend_from_slice.new.self.items c.loop-pin.invariant c.in_ok-insert_key.ensures
    (pin_key c.args.bel.now.prefix c.in_ok-key.key.items c.extend_from_slice.new.self.items c.pin_name.result.now (pin_names c.args.bel.now.kind) c.loop-pin.pin
    (c.in_ok-key.ensures.items ∙ c.bytes.ensures)
    (c.in_ok-extend_from_slice.ensures.items ∙ ap (λ (name : List ℕ). c.in_ok-key.key.items ++ name) c.as_bytes.ensures.value) c.pin_name.ensures)
